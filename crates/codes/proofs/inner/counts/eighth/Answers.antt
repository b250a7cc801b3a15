-- A shift of 1 by the exponent. Assumes nothing.
use mathlib.Core.Path.{◌∙◌}
use Prim.Native.Nat.{◌^◌}
use native.Mathlib.Nat.{one-mul}
use native.Mathlib.Omega.{arith}
use lib.Dec.{lit<}
use lib.Pow.{shl_exact}
use Rattle.codes.proofs.inner.counts.eighth.Goals as goal

pub overflow_shl-result : goal.overflow_shl-result
overflow_shl-result g c = omega (arith, c.power.ensures.1)

pub returns : goal.returns
returns g c = shl_exact {a = 1} 1 c.power.result 64 (lit< tt) (omega (arith, c.power.ensures.1)) ∙ one-mul (2 ^ c.power.result) ∙ c.power.ensures.0
