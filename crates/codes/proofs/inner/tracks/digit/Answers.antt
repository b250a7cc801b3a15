-- A shift and a mask take one digit. Assumes nothing.
use native.Mathlib.Omega.{arith}
use lib.Pow.{pow_pos}
use lib.Bits.{and_mask}
use Rattle.codes.proofs.WidthLaws.{one_shl, shift_lt}
use Rattle.codes.proofs.inner.tracks.digit.Goals as goal

pub overflow_mul-result : goal.overflow_mul-result
overflow_mul-result g c = rw c.BITS-w.ensures (omega (arith, shift_lt g.W.Width.divides c.args.k c.requires))

pub overflow_cast-result : goal.overflow_cast-result
overflow_cast-result g c = rw c.BITS-w.ensures (omega (arith, shift_lt g.W.Width.divides c.args.k c.requires))

pub overflow_shr-result : goal.overflow_shr-result
overflow_shr-result g c = rw c.BITS-w.ensures (shift_lt g.W.Width.divides c.args.k c.requires)

pub overflow_sub-result : goal.overflow_sub-result
overflow_sub-result g c = rw (c.BITS-w.ensures, one_shl g.W.Width.divides) (pow_pos g.W.Width.BITS)

pub returns : goal.returns
returns g c = rw (c.BITS-w.ensures, one_shl g.W.Width.divides, and_mask)
