use mathlib.Core.Path.{◌≡◌, sym, ap, ◌∙◌, subst}
use Prim.Native.Nat.{ℕ, ◌+◌, ◌-◌, ◌*◌, ◌/◌, ◌%◌, ◌^◌, ◌≤◌}
use native.Mathlib.Omega.{arith}
use lib.Pow.{shr-shr}
use Rattle.codes.specs.Codes.{complement}
use Rattle.codes.specs.Made.{Made}
use Rattle.codes.specs.Words.{word, flip}
use Rattle.codes.proofs.MadeLaws.{made_none, made-to}
use Rattle.writes.specs.Flips.{flipped_byte}
use Rattle.writes.proofs.ReverseLaws.{rest_is, enough, flip-behind, word-turn}
use Rattle.writes.proofs.inner.reverse.flip_words.Goals as goal

pub loop-i-init : goal.loop-i-init
loop-i-init g c = made_none (omega arith)

pub loop-i-preserved : goal.loop-i-preserved
loop-i-preserved g c =
    let l = c.loop-i in
    let a = c.args in
    let at = 8 * l.i in
    let left = a.bits - 8 * at in
    let v = word 8 a.bytes.now / 2 ^ a.p in
    let y = c.flip_word.result in
    let e = c.requires.bits_value in
    let within : 8 * at ≤ a.bits = omega arith in
    let place : 8 * ((a.p + a.bits) / 8 - 8 * (l.i + 1)) + (a.p + a.bits) % 8 ≡ a.p + (left - 64) = omega arith in
    let loaded =
    c.word_at.ensures ∙ ap (λ (n : ℕ). word 8 a.bytes.now / 2 ^ n % 2 ^ 64) place ∙ ap (λ (n : ℕ). n % 2 ^ 64) (sym (shr-shr (word 8 a.bytes.now) a.p (left - 64))) in
    let next = enough g.W.Width.divides 8 v left c.word_at.result y (rest_is g.W.Width.divides a.bits at e within) c.flip_word.ensures loaded (omega arith) in
    let turn =
    word-turn (flip g.W.Width.BITS (complement g.W.Width.BITS) (a.bits / g.W.Width.BITS) v) at y (next ∙ ap (λ (n : ℕ). n % 2 ^ 64) (flip-behind g.W.Width.divides v a.bits at e within))
    (omega (arith, c.requires.bits_bound.2)) l.invariant in
    made-to (subst (Made (flipped_byte g.W.Width.BITS v a.bits) 0 (at + 8) a.out.now) (sym c.store64.ensures) turn) (omega arith)

pub shape_of-out : goal.shape_of-out
shape_of-out g c = c.loop-i.invariant.long

pub returns : goal.returns
returns g c = made-to c.loop-i.invariant (omega arith)
