-- The product with C8, which stays below 2^32. Assumes nothing.
use mathlib.Core.Path.{sym, ap₂, ◌∙◌, subst}
use Prim.Native.Nat.{ℕ, ◌*◌, ◌^◌, ◌≤◌}
use native.Mathlib.Omega.{arith}
use Rattle.codes.proofs.WidthLaws.{chars-bound}
use Rattle.codes.proofs.inner.counts.chars_in.Goals as goal

pub overflow_mul-k : goal.overflow_mul-k
overflow_mul-k g c =
    omega (arith, subst (λ (p : ℕ). c.count-k.result * p ≤ 2 ^ 31) (sym c.eighth-c.ensures) (chars-bound g.W.Width.divides c.count-k.result (omega arith)))

pub returns : goal.returns
returns g c = c.new.ensures ∙ ap₂ (λ (k p : ℕ). k * p) c.count-k.ensures c.eighth-c.ensures
