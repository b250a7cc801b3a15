use mathlib.Core.Path.{refl}
use native.Mathlib.Omega.{arith}
use Rattle.codes.proofs.MadeLaws.{made_none, made_more, made-to, made_all}
use Rattle.windows.proofs.inner.marks.mark.Goals as goal

pub loop-l-init : goal.loop-l-init
loop-l-init c = made_none (omega arith)

pub overflow_shr-words : goal.overflow_shr-words
overflow_shr-words c = omega arith

pub loop-l-preserved : goal.loop-l-preserved
loop-l-preserved c = made_more c.loop-l.invariant (omega arith) (omega arith) c.later.ensures

pub returns : goal.returns
returns c = made_all (made-to c.loop-l.invariant (omega arith)) refl
