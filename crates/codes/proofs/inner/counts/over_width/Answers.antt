-- A shift by the width's exponent. Assumes nothing.
use mathlib.Core.Path.{ap}
use Prim.Native.Nat.{ℕ, ◌/◌}
use native.Mathlib.Omega.{arith}
use Rattle.codes.proofs.WidthLaws.{width_pow}
use Rattle.codes.proofs.inner.counts.over_width.Goals as goal

pub overflow_shr-result : goal.overflow_shr-result
overflow_shr-result g c = omega (arith, c.BITS.ensures, g.W.Width.divides.small)

pub returns : goal.returns
returns g c = rw (c.BITS.ensures) (ap (λ (x : ℕ). c.args.n / x) (width_pow g.W.Width.divides))
