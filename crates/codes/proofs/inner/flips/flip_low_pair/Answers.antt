-- The flipped halves, and a shift that leaves the n low characters in reverse. Assumes nothing.
use mathlib.Core.Path.{ap₂, ◌∙◌}
use Prim.Native.Nat.{ℕ, ◌+◌, ◌-◌, ◌*◌, ◌/◌, ◌^◌}
use native.Mathlib.Nat.{mul-pos}
use native.Mathlib.Omega.{arith}
use Rattle.codes.proofs.FlipLaws.{flip-shr_pair}
use Rattle.codes.proofs.WidthLaws.{width_pos}
use Rattle.codes.proofs.inner.flips.flip_low_pair.Goals as goal

pub shr_pair-requires : goal.shr_pair-requires
shr_pair-requires g c = rw (c.BITS.ensures) (omega (arith, mul-pos (width_pos g.W.Width.divides) c.requires.0))

pub returns : goal.returns
returns g c =
    let a = c.args in
    (rw (c.BITS.ensures) at c.shr_pair.ensures)
    ∙ ap₂ (λ (p q : ℕ). (p * 2 ^ 64 + q) / 2 ^ (128 - g.W.Width.BITS * a.n)) c.flip_word-2.ensures c.flip_word.ensures
    ∙ flip-shr_pair g.W.Width.divides a.n a.low a.high c.ranges.low.fits c.requires.1
