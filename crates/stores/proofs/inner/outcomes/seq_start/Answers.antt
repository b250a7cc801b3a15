-- The bytes of the length, in characters, and the offset in its byte. Assumes nothing.
use mathlib.Core.Path.{◌≡◌, ap, ap₂, ◌∙◌}
use Prim.Native.Nat.{ℕ, ◌+◌, ◌*◌, ◌%◌}
use native.Mathlib.Nat.{mod-lt}
use native.Mathlib.Omega.{arith}
use Rattle.codes.specs.Codes.{per, up}
use Rattle.codes.proofs.WidthLaws.{per_pos, per-le, chars-bound}
use Rattle.stores.proofs.inner.outcomes.seq_start.Given.{Over}
use Rattle.stores.proofs.inner.outcomes.seq_start.Goals.{After-count}
use Rattle.stores.proofs.inner.outcomes.seq_start.Goals as goal

-- the two parts of the sum
module _ (g : Over) (c : After-count g) where
  behind_is : c.count-behind.result ≡ up g.W.Width.BITS c.args.len.0 * per g.W.Width.BITS
  behind_is = c.count-behind.ensures ∙ c.chars_in.ensures ∙ ap (λ (x : ℕ). x * per g.W.Width.BITS) c.bytes_as.ensures

  within_is : c.count.result ≡ c.args.offset.0 % per g.W.Width.BITS
  within_is = c.count.ensures ∙ c.within_byte.ensures

pub overflow_add-result : goal.overflow_add-result
overflow_add-result g c =
    let a = c.args in
    let W = g.W.Width.divides in
    omega (arith, behind_is g c, within_is g c, chars-bound W (up g.W.Width.BITS a.len.0) c.requires, mod-lt a.offset.0 (per_pos W), per-le W)

pub returns : goal.returns
returns g c = ap₂ (λ (x y : ℕ). x + y) (behind_is g c) (within_is g c)
