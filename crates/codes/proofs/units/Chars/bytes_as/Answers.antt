-- The count by quotient and remainder, which cannot wrap. Assumes nothing.
use mathlib.Core.Path.{◌≡◌, sym, ap, ◌∙◌, subst}
use Prim.Native.Nat.{ℕ, ◌+◌, ◌-◌, ◌/◌, ◌%◌, ◌<◌}
use native.Mathlib.Nat.{mod-lt}
use native.Mathlib.Omega.{arith}
use Rattle.codes.specs.Codes.{IsWidth, up}
use Rattle.codes.proofs.WidthLaws.{per_pos, per-le, up_is, up_le}
use Rattle.codes.proofs.units.Chars.bytes_as.Given.{Over}
use Rattle.codes.proofs.units.Chars.bytes_as.Goals.{After-eighth-c}
use Rattle.codes.proofs.units.Chars.bytes_as.Goals as goal

-- what is known of C8 and of the characters
module _ (g : Over) (c : After-eighth-c g) where
  abbrev W : IsWidth g.W.Width.BITS
  W = g.W.Width.divides

  abbrev p : ℕ
  p = c.eighth-c.result

  abbrev k : ℕ
  k = c.args.self.0

  pos : 0 < p
  pos = subst (λ (x : ℕ). 0 < x) (sym c.eighth-c.ensures) (per_pos W)

  is : k / p + (k % p + (p - 1)) / p ≡ up g.W.Width.BITS k
  is = ap (λ (x : ℕ). k / x + (k % x + (x - 1)) / x) c.eighth-c.ensures ∙ up_is W k

pub overflow_add-result : goal.overflow_add-result
overflow_add-result g c = omega (arith, c.eighth-c.ensures, per-le (W g c), mod-lt (k g c) (pos g c))

pub overflow_add-result-2 : goal.overflow_add-result-2
overflow_add-result-2 g c = omega (arith, is g c, up_le (W g c) (k g c))

pub returns : goal.returns
returns g c = is g (goal.at.returns g c).After-eighth-c
