use mathlib.Core.Path.{refl}
use native.Mathlib.Omega.{arith}
use Rattle.codes.proofs.MadeLaws.{made_none, made_more, made-to, made_all}
use Rattle.windows.proofs.inner.counts.answers_of.Goals as goal

pub loop-l-init : goal.loop-l-init
loop-l-init c = made_none (omega arith)

pub overflow_add-counts : goal.overflow_add-counts
overflow_add-counts c = let h = c.requires c.loop-l.l c.loop-l-test.true in omega (arith, h.0, h.1)

pub loop-l-preserved : goal.loop-l-preserved
loop-l-preserved c = made_more c.loop-l.invariant (omega arith) (omega arith) c.above.ensures

pub returns : goal.returns
returns c = made_all (made-to c.loop-l.invariant (omega arith)) refl
