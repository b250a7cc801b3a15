use mathlib.Core.List.{List}
use mathlib.Core.Path.{ap, ◌∙◌, subst}
use Prim.Native.Nat.{ℕ, ◌*◌, ◌/◌, ◌%◌, ◌^◌}
use native.Mathlib.Nat.{le_refl}
use native.Mathlib.Omega.{arith}
use borrow.Author.Rules.{rules}
use Rattle.codes.specs.Words.{word}
use Rattle.runs.proofs.FlagLaws.{spread_load, Stacked, stacked_more, stacked_turned}
use Rattle.runs.proofs.inner.whole.flags64.Goals as goal

pub loop-k-preserved : goal.loop-k-preserved
loop-k-preserved c =
    let a = c.args in
    let k = c.loop-k.k in
    let e = c.load64.ensures ∙ ap (λ (s : List ℕ). word 8 s / 2 ^ (8 * (8 * k)) % 2 ^ 64) c.spread-bits.ensures in
    let v = spread_load a.letters.now 64 a.i (8 * k) c.load64.result (omega arith) e in
    stacked_more a.letters.now a.i k (omega arith) c.load64.result v c.loop-k.y c.loop-k.invariant

pub returns : goal.returns
returns c =
    let a = c.args in
    let z : Stacked a.letters.now a.i 8 c.loop-k.y = subst (λ (k : ℕ). Stacked a.letters.now a.i k c.loop-k.y) {x = c.loop-k.k} (omega arith) c.loop-k.invariant in
    stacked_turned a.letters.now a.i 8 c.loop-k.y c.turn.result (le_refl 8) z (search rules) c.turn.ensures
