-- The laws of room: how many characters fit a buffer that is not too long, and which byte a character stands in.
-- Assumes nothing.
use mathlib.Core.Path.{◌≡◌, sym, ap, ◌∙◌}
use Prim.Native.Nat.{ℕ, ◌+◌, ◌-◌, ◌*◌, ◌/◌, ◌%◌, ◌^◌, ◌≤◌, ◌<◌}
use native.Mathlib.Nat.{le_trans, le-div_iff_mul-le, div-mul-le_self, div-eq_of_lt, mod-lt, one-mul, suc-mul, mul-le-mul_right}
use native.Mathlib.Omega.{arith}
use lib.Arith.{digits_div}
use Rattle.codes.specs.Codes.{IsWidth, per, up}
use Rattle.codes.proofs.WidthLaws.{below_or, per_pos, up_is, up-hi, chars-bound}

-- characters in their order stand in bytes in their order
pub byte_order : (a b p i k : ℕ) → k ≤ p → a * p + i < b * p + k → a ≤ b
byte_order a b p i k l h = below_or b a (λ m. absurd (omega (arith, mul-le-mul_right p m, suc-mul b p))) (λ m. m)

module _ {w : ℕ} (W : IsWidth w) where
  pub room_chars : (n m : ℕ) → up w n ≤ m → m ≤ 2 ^ 28 → n ≤ 2 ^ 31
  room_chars n m h l = le_trans (up-hi W n) (chars-bound W (up w n) (le_trans h l))

  pub div-up : (a n : ℕ) → a ≤ n → a / per w ≤ up w n
  div-up a n h = (le-div_iff_mul-le (per_pos W)).1 (omega (arith, div-mul-le_self a (per w)))

  -- the bytes of n characters that end within a byte, and of those that end with one
  pub up-part : (n : ℕ) → 0 < n % per w → up w n ≡ n / per w + 1
  up-part n h =
      let e : n % per w + (per w - 1) ≡ 1 * per w + (n % per w - 1) = omega (arith, one-mul (per w), per_pos W) in
      sym (up_is W n) ∙ ap (λ (x : ℕ). n / per w + x) (ap (λ (x : ℕ). x / per w) e ∙ digits_div 1 (omega (arith, mod-lt n (per_pos W))))

  pub up-full : (n : ℕ) → n % per w ≡ 0 → up w n ≡ n / per w
  up-full n h = sym (up_is W n) ∙ omega (arith, div-eq_of_lt {n = n % per w + (per w - 1)} {m = per w} (omega (arith, per_pos W)))
