use mathlib.Core.Path.{refl}
use native.Mathlib.Omega.{arith}
use Rattle.codes.proofs.MadeLaws.{made_none, made_more, made-to, made_all}
use Rattle.windows.proofs.inner.counts.counts_after.Goals as goal

pub loop-l-init : goal.loop-l-init
loop-l-init c = made_none (omega arith)

pub overflow_add-out : goal.overflow_add-out
overflow_add-out c = let h = c.requires c.loop-l.l c.loop-l-test.true in omega (arith, h.0, h.1)

pub overflow_sub-out : goal.overflow_sub-out
overflow_sub-out c = let h = c.requires c.loop-l.l c.loop-l-test.true in omega (arith, h.2)

pub loop-l-preserved : goal.loop-l-preserved
loop-l-preserved c = made_more c.loop-l.invariant (omega arith) (omega arith) refl

pub returns : goal.returns
returns c = made_all (made-to c.loop-l.invariant (omega arith)) refl
