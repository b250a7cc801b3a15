-- The laws of a stream's numbers: their ranges where nothing is refused, and that no sum wraps.
-- Assumes nothing.
use Rattle.std.specs.Prelude.{Ok}
use mathlib.Core.Bool.{◌||◌}
use mathlib.Core.List.{[], ◌∷◌}
use mathlib.Core.Path.{◌≡◌, refl, ap₂, ◌∙◌}
use Prim.Native.Nat.{ℕ, zero, suc, ◌+◌, ◌-◌, ◌*◌, ◌/◌, ◌%◌, ◌^◌, ◌≤◌, ◌<◌}
use native.Mathlib.Nat.{lt-div-mul-add, div-mul-le_self, mul-le-mul, mul-pos}
use native.Mathlib.Omega.{arith}
use lib.Dec.{ltb}
use lib.Pow.{pow-add}
use borrow.Author.Tests.{ltb-false, lt-ltb, le-ltb}
use Rattle.codes.specs.Codes.{per, IsWidth}
use Rattle.codes.specs.Refusals.{first}
use Rattle.codes.proofs.WidthLaws.{per_pos, per-le}
use Rattle.codes.proofs.TestLaws.{first_none}
use Rattle.codes.proofs.RefusalLaws.{neither}
use Rattle.lanes.specs.Lanes.{multiple_above, starts, lane, padding, steps, bad_shape}

pub multiple_low : (m n : ℕ) → 0 < m → n ≤ multiple_above m n
multiple_low m n h = omega (arith, lt-div-mul-add {a = n + (m - 1)} h)

pub multiple_high : (m n : ℕ) → multiple_above m n ≤ n + (m - 1)
multiple_high m n = div-mul-le_self (n + (m - 1)) m

-- the context and the factor are in range, and the lanes hold the starts and not much more
pub record Shaped (w len c f : ℕ) : Type 0 where
  pub low : 1 ≤ c
  pub high : c ≤ 2 ^ 31
  pub some : 1 ≤ f
  pub two : f ≤ 2
  pub lane_low : (starts len c + 7) / 8 ≤ lane w len c f
  pub lane-high : lane w len c f ≤ (starts len c + 7) / 8 + 15

pub group : {w : ℕ} → IsWidth w → (f : ℕ) → 1 ≤ f → f ≤ 2 → (1 ≤ f * per w) × (f * per w ≤ 16)
group W f h l = (mul-pos h (per_pos W), mul-le-mul l (per-le W))

-- the factor's group of characters is a power of two
pub group_pow : (w f r : ℕ) → 1 ≤ f → f ≤ 2 → 2 ^ r ≡ per w → 2 ^ (f - 1 + r) ≡ f * per w
group_pow w f r h l e = pow-add 2 (f - 1) r ∙ ap₂ (λ (a b : ℕ). a * b) (alone f h l) e
  where
    alone : (n : ℕ) → 1 ≤ n → n ≤ 2 → 2 ^ (n - 1) ≡ n
    alone zero h l = absurd (omega arith)
    alone (suc zero) h l = refl
    alone (suc (suc zero)) h l = refl
    alone (suc (suc (suc n))) h l = absurd (omega arith)

pub shape_ranges : (c f : ℕ) → first (bad_shape c f ∷ []) ≡ Ok tt → (1 ≤ c) × (c ≤ 2 ^ 31) × (1 ≤ f) × (f ≤ 2)
shape_ranges c f e =
    let x = neither (ltb c 1 || ltb (2 ^ 31) c || ltb f 1) (ltb 2 f) (first_none (bad_shape c f ∷ []) e).0 in
    let y = neither (ltb c 1 || ltb (2 ^ 31) c) (ltb f 1) x.0 in
    let z = neither (ltb c 1) (ltb (2 ^ 31) c) y.0 in
    (ltb-false c 1 z.0, ltb-false (2 ^ 31) c z.1, ltb-false f 1 y.1, ltb-false 2 f x.1)

pub shaped-is : {w : ℕ} → IsWidth w → (len c f : ℕ) → first (bad_shape c f ∷ []) ≡ Ok tt → Shaped w len c f
unfolding lane
shaped-is {w} W len c f e =
    let r = shape_ranges c f e in
    let g = group W f r.2 r.3 in
    record {
      low = r.0;
      high = r.1;
      some = r.2;
      two = r.3;
      lane_low = multiple_low (f * per w) ((starts len c + 7) / 8) g.0;
      lane-high = omega (arith, multiple_high (f * per w) ((starts len c + 7) / 8), g.1);
    }

-- 8 n − s without 8 n
pub padding-is : (w len c f : ℕ) → Shaped w len c f → 8 * (lane w len c f - starts len c / 8) - starts len c % 8 ≡ padding w len c f
unfolding padding
padding-is w len c f h = omega arith

pub steps-none : (w len c f : ℕ) → len < c → 0 ≡ steps w len c f
unfolding steps
steps-none w len c f h = rw (lt-ltb len c h)

pub steps-some : (w len c f : ℕ) → 1 ≤ c → c ≤ len → lane w len c f + (c - 1) ≡ steps w len c f
unfolding steps
steps-some w len c f l h = rw (le-ltb len c h) (omega arith)
