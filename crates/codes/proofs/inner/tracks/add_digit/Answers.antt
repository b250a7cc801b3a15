-- A digit above what is there is added by an or. Assumes nothing.
use native.Mathlib.Omega.{arith}
use mathlib.Core.Path.{◌∙◌, ap}
use Prim.Native.Nat.{◌*◌}
use lib.Pow.{shl_exact}
use lib.Bits.{bit_or, or_shifted_r}
use Rattle.codes.proofs.WidthLaws.{shift_fits, shift_lt}
use Rattle.codes.proofs.inner.tracks.add_digit.Goals as goal

pub overflow_mul-result : goal.overflow_mul-result
overflow_mul-result g c = rw c.BITS.ensures (omega (arith, shift_lt g.W.Width.divides c.args.k c.requires.k_bound))

pub overflow_cast-result : goal.overflow_cast-result
overflow_cast-result g c = rw c.BITS.ensures (omega (arith, shift_lt g.W.Width.divides c.args.k c.requires.k_bound))

pub overflow_shl-result : goal.overflow_shl-result
overflow_shl-result g c = rw c.BITS.ensures (shift_lt g.W.Width.divides c.args.k c.requires.k_bound)

pub returns : goal.returns
returns g c =
    let a = c.args in
    rw c.BITS.ensures (ap (bit_or a.low) (shl_exact g.W.Width.BITS (g.W.Width.BITS * a.k) 8 c.requires.low_bound.1 (omega (arith, shift_fits g.W.Width.divides a.k c.requires.k_bound)))
    ∙ or_shifted_r a.code (g.W.Width.BITS * a.k) a.low c.requires.low_bound.0)
