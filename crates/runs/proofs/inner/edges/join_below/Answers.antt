-- The byte is that of the join, and all others stay. Assumes nothing.
use native.Mathlib.Omega.{arith}
use Rattle.codes.proofs.MadeLaws.{made_none, made_more}
use Rattle.runs.proofs.JoinLaws.{bits_fit, joined_as}
use Rattle.runs.proofs.inner.edges.join_below.Goals as goal

pub overflow_mul-BITS : goal.overflow_mul-BITS
overflow_mul-BITS g c = rw c.BITS.ensures (omega (arith, bits_fit g.W.Width.divides c.args.k c.requires.1))

pub joined-requires : goal.joined-requires
joined-requires g c = rw c.BITS.ensures (bits_fit g.W.Width.divides c.args.k c.requires.1)

pub returns : goal.returns
returns g c = made_more (made_none (omega arith)) (omega arith) (omega arith) (joined_as _ _ _ _ _ _ (rw c.BITS.ensures at c.joined.ensures) (omega arith) (omega arith))
