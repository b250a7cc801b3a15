-- Each width has its own exponent. Assumes nothing.
use native.Mathlib.Omega.{arith}
use Rattle.codes.proofs.WidthLaws.{by_width}
use Rattle.codes.proofs.inner.counts.power.Goals as goal

pub overflow_sub-result : goal.overflow_sub-result
overflow_sub-result g c = omega (arith, c.BITS.ensures, g.W.Width.divides.small)

pub returns : goal.returns
returns g c = (by_width g.W.Width.divides (λ e. rw (c.BITS.ensures, e)) (λ e. rw (c.BITS.ensures, e)) (λ e. rw (c.BITS.ensures, e)), omega arith)
