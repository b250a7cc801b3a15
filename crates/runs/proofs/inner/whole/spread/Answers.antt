use mathlib.Core.Path.{refl}
use native.Mathlib.Omega.{arith}
use Rattle.codes.proofs.MadeLaws.{made-to, made_all}
use Rattle.runs.proofs.inner.whole.spread.Goals as goal

pub returns : goal.returns
returns c = made_all (made-to c.loop-k.invariant (omega (arith, c.loop-k.auto.k-end))) refl
