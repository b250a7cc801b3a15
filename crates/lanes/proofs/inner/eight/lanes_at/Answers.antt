use mathlib.Core.Path.{refl}
use native.Mathlib.Omega.{arith}
use Rattle.codes.proofs.MadeLaws.{made-to, made_all}
use Rattle.lanes.specs.Lanes.{lanes}
use Rattle.lanes.proofs.inner.eight.lanes_at.Goals as goal

pub returns : goal.returns
unfolding lanes
returns g c = made_all (made-to c.loop-l.invariant (omega (arith, c.loop-l.auto.l-end))) refl
