-- The whole word is flipped, and its top characters are the n low ones in reverse. Assumes nothing.
use mathlib.Core.Path.{ap, ◌∙◌}
use Prim.Native.Nat.{ℕ, ◌-◌, ◌*◌, ◌/◌, ◌^◌}
use native.Mathlib.Nat.{mul-pos}
use native.Mathlib.Omega.{arith}
use Rattle.codes.proofs.FlipLaws.{flip-shr}
use Rattle.codes.proofs.WidthLaws.{width_pos}
use Rattle.codes.proofs.inner.flips.flip_low.Goals as goal

pub overflow_shr-result : goal.overflow_shr-result
overflow_shr-result g c = rw (c.BITS.ensures) (omega (arith, mul-pos (width_pos g.W.Width.divides) c.requires.0))

pub returns : goal.returns
returns g c =
    let a = c.args in
    rw (c.BITS.ensures) (ap (λ (y : ℕ). y / 2 ^ (64 - g.W.Width.BITS * a.n)) c.flip_word.ensures ∙ flip-shr g.W.Width.divides 8 a.n a.x c.requires.1)
