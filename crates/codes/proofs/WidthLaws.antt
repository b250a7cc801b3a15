-- The laws of a width: how many characters a byte holds, and how many bytes n characters take.
-- Assumes nothing.
use mathlib.Core.Path.{◌≡◌, refl, sym, ap, ◌∙◌, subst}
use Prim.Native.Nat.{ℕ, zero, suc, ◌+◌, ◌-◌, ◌*◌, ◌/◌, ◌%◌, ◌^◌, ◌≤◌, ◌<◌}
use native.Mathlib.Nat.{add-mul, mul-suc, mul-zero, zero-mul, suc-mul, mul_assoc, add_assoc, one-mul}
use native.Mathlib.Nat.{le_trans, mul-le-mul, mul-le-mul_left, mul-le-mul_right, le-mul_of_pos_right}
use native.Mathlib.Nat.{div-add-mod', div-mul-le_self, lt-div-mul-add, le-div_iff_mul-le, mul-add-div_right, mul-div_cancel_left}
use native.Mathlib.Decide.{dec_lt}
use native.Mathlib.Omega.{arith}
use lib.Dec.{ltb, lit<}
use lib.Arith.{digits_div}
use lib.Pow.{shl_exact}
use borrow.Author.Tests.{lt-ltb, le-ltb}
use Rattle.codes.specs.Codes.{per, up, trailing, IsWidth}

-- one order or the other
pub below_or {ℓ} : {X : Type ℓ} (a b : ℕ) → (a < b → X) → (b ≤ a → X) → X
below_or a b f g = elim (dec_lt a b) [ yes h ↦ f h | no h ↦ g (omega arith) ]

-- a width is 1, 2 or 4
pub width_cases : (P : ℕ → Type 0) → P 1 → P 2 → P 4 → (w : ℕ) → IsWidth w → P w
width_cases P a b c zero W = absurd (omega (arith, W.whole))
width_cases P a b c (suc zero) W = a
width_cases P a b c (suc (suc zero)) W = b
width_cases P a b c (suc (suc (suc zero))) W = absurd (omega (arith, W.whole))
width_cases P a b c (suc (suc (suc (suc zero)))) W = c
width_cases P a b c (suc (suc (suc (suc (suc n))))) W = absurd (omega (arith, W.small))

-- so that what holds at each of them holds
pub by_width : {X : Type 0} {w : ℕ} → IsWidth w → (w ≡ 1 → X) → (w ≡ 2 → X) → (w ≡ 4 → X) → X
by_width {X} {w} W a b c = width_cases (λ v. w ≡ v → X) a b c w W refl

-- it is a power of two
pub width_pow : {w : ℕ} → IsWidth w → 2 ^ (w / 2) ≡ w
width_pow {w} W = width_cases (λ v. 2 ^ (v / 2) ≡ v) refl refl refl w W

module _ {w : ℕ} (W : IsWidth w) where
  pub per_pos : 0 < per w
  per_pos = below_or 0 (per w) (λ h. h) (λ h. let e : per w ≡ 0 = omega arith in let z : 0 ≡ 8 = sym (mul-zero w) ∙ ap (λ (x : ℕ). w * x) (sym e) ∙ W.whole in absurd (omega arith))

  pub width_pos : 0 < w
  width_pos = below_or 0 w (λ h. h) (λ h. let e : w ≡ 0 = omega arith in let z : 0 ≡ 8 = sym (zero-mul (per w)) ∙ ap (λ (x : ℕ). x * per w) (sym e) ∙ W.whole in absurd (omega arith))

  pub per-le : per w ≤ 8
  per-le = omega (arith, mul-le-mul_right (per w) width_pos, W.whole)

  -- the bits of a character stand within the byte
  pub shift_fits : (k : ℕ) → k < per w → w * k + w ≤ 8
  shift_fits k h = subst (λ (x : ℕ). w * k + w ≤ x) W.whole (subst (λ (x : ℕ). x ≤ w * per w) (mul-suc w k) (mul-le-mul_left w h))

  pub shift_lt : (k : ℕ) → k < per w → w * k < 8
  shift_lt k h = omega (arith, shift_fits k h, width_pos)

  -- 1 << w, in a byte
  pub one_shl : (1 * 2 ^ w) % 256 ≡ 2 ^ w
  one_shl = shl_exact {a = 1} 1 w 8 (lit< tt) (omega (arith, W.small)) ∙ one-mul (2 ^ w)

  -- the same count with no sum that could wrap
  pub up_is : (n : ℕ) → n / per w + (n % per w + (per w - 1)) / per w ≡ up w n
  up_is n =
      sym (mul-add-div_right per_pos (n / per w) (n % per w + (per w - 1)))
      ∙ ap (λ (x : ℕ). x / per w) (sym (add_assoc (n / per w * per w) (n % per w) (per w - 1)) ∙ ap (λ (x : ℕ). x + (per w - 1)) (div-add-mod' n (per w)))

  -- the characters of `up w n` bytes are at least n and less than a byte more
  pub up-hi : (n : ℕ) → n ≤ up w n * per w
  up-hi n = omega (arith, lt-div-mul-add {a = n + (per w - 1)} per_pos, per_pos)

  pub up-lo : (n : ℕ) → up w n * per w ≤ n + (per w - 1)
  up-lo n = div-mul-le_self (n + (per w - 1)) (per w)

  -- byte j has a character below n where j is below `up w n`, and none from there on
  pub up-below : (n j : ℕ) → j < up w n → j * per w < n
  up-below n j h = omega (arith, mul-le-mul_right (per w) h, up-lo n, suc-mul j (per w), per_pos)

  pub up_above : (n j : ℕ) → up w n ≤ j → n ≤ j * per w
  up_above n j h = le_trans (up-hi n) (mul-le-mul_right (per w) h)

  pub up_le : (n : ℕ) → up w n ≤ n
  up_le n = below_or n (up w n) (λ h. omega (arith, up-below n n h, le-mul_of_pos_right n per_pos)) (λ h. h)

  pub up-mono : (a b : ℕ) → a ≤ b → up w a ≤ up w b
  up-mono a b h = (le-div_iff_mul-le per_pos).1 (omega (arith, up-lo a))

  pub up-whole : (n : ℕ) → up w (n * per w) ≡ n
  up-whole n = digits_div n (omega (arith, per_pos))

  -- the characters of a buffer that is not too long
  pub chars-bound : (b : ℕ) → b ≤ 2 ^ 28 → b * per w ≤ 2 ^ 31
  chars-bound b h = mul-le-mul h per-le

-- whole bytes hold whole characters
pub whole : {w : ℕ} → IsWidth w → (m : ℕ) → w * (8 * m / w) ≡ 8 * m
whole {w} W m =
    let e : 8 * m ≡ w * (per w * m) = ap (λ (x : ℕ). x * m) (sym W.whole) ∙ mul_assoc w (per w) m in
    ap (λ (x : ℕ). w * (x / w)) e ∙ ap (λ (x : ℕ). w * x) (mul-div_cancel_left (per w * m) (width_pos W)) ∙ sym e

-- a product less 48 of its factor
pub less_trailing : (m p : ℕ) → trailing ≤ m → m * p ≡ (m - trailing) * p + trailing * p
less_trailing m p h = ap (λ (x : ℕ). x * p) (omega arith) ∙ add-mul (m - trailing) trailing p

-- tests that hold together are one
pub ltb-eq : (a b c d : ℕ) → (a < b → c < d) → (b ≤ a → d ≤ c) → ltb a b ≡ ltb c d
ltb-eq a b c d f g = below_or a b (λ h. lt-ltb a b h ∙ sym (lt-ltb c d (f h))) (λ h. le-ltb a b h ∙ sym (le-ltb c d (g h)))
