use native.Mathlib.Omega.{arith}
use Rattle.codes.proofs.MadeLaws.{made_none, made_more, made-to}
use Rattle.writes.proofs.inner.reverse.flip_bytes.Goals as goal

pub loop-at-init : goal.loop-at-init
loop-at-init c = made_none (omega arith)

pub loop-at-preserved : goal.loop-at-preserved
loop-at-preserved c = made_more c.loop-at.invariant (omega arith) (omega arith) c.flip_byte.ensures

pub shape_of-out : goal.shape_of-out
shape_of-out c = c.loop-at.invariant.long

pub returns : goal.returns
returns c = made-to c.loop-at.invariant (omega arith)
