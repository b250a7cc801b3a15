use mathlib.Core.List.{List, ◌++◌}
use mathlib.Core.Path.{sym, ap, ◌∙◌}
use Prim.Native.Nat.{◌+◌, ◌-◌, ℕ}
use native.Mathlib.Nat.{div-one}
use borrow.Author.Rules.{rules}
use lib.ListN.{take, drop}
use Rattle.std.proofs.lemmas.List.{map-id}
use Rattle.codes.specs.Words.{chars_of, same}
use Rattle.codes.proofs.Turns.{unpack_turn}
use Rattle.forms.proofs.inner.tracks.put_bytes.Goals as goal

pub loop-byte-init : goal.loop-byte-init
unfolding chars_of
loop-byte-init c = search (rules, div-one)

pub loop-byte-preserved : goal.loop-byte-preserved
loop-byte-preserved c =
    let l = c.loop-byte in
    let a = c.args in
    let i = l.byte-index in
    let room = take (a.at + a.k - a.at) (drop a.at a.out.now) in
    let turn = unpack_turn 8 same a.x room i l.byte-items l.rest (search rules) l.invariant.0 (l.invariant.1 ∙ ap (λ (s : List ℕ). s ++ drop i room) (sym (map-id _))) in
    (turn.rest_is, turn.out_is ∙ ap (λ (s : List ℕ). s ++ drop (i + 1) room) (map-id _))
