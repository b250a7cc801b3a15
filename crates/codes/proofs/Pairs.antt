-- A number of two halves of W bits each, shifted down; and the halves of a number. Assumes nothing.
use mathlib.Core.Path.{◌≡◌, sym, ap, ap₂, ◌∙◌, subst}
use Prim.Native.Nat.{ℕ, ◌+◌, ◌-◌, ◌*◌, ◌/◌, ◌%◌, ◌^◌, ◌≤◌, ◌<◌}
use native.Mathlib.Nat.{add-mul, add_assoc, mul_assoc, mul_comm, mul-mod_left, mul-add-div_right, add-zero, add-sub_of_le, add_comm, zero-mul, zero-add}
use lib.Pow.{pow_pos, pow-add, split, high, low, shr-shr, shl-shr, shr_lt, mod-pow-add}
use lib.Bits.{bit_or, or_shifted_r}
use Rattle.codes.specs.Answers.{halves}

-- what a shift by t leaves of s + t bits
shl_keeps : (a s t : ℕ) → a * 2 ^ t % 2 ^ (s + t) ≡ a % 2 ^ s * 2 ^ t
shl_keeps a s t = mod-pow-add (a * 2 ^ t) s t ∙ rw (shl-shr a t, mul-mod_left, add-zero)

shr_sum : (lo hi s t : ℕ) → lo < 2 ^ (t + s) → hi / 2 ^ s * 2 ^ (s + t) + bit_or (lo / 2 ^ s) (hi * 2 ^ t % 2 ^ (s + t)) ≡ (hi * 2 ^ (s + t) + lo) / 2 ^ s
shr_sum lo hi s t h =
    rw (shl_keeps hi s t, or_shifted_r (hi % 2 ^ s) t (lo / 2 ^ s) (shr_lt t s h), pow-add 2 s t)
    (sym (add_assoc (hi / 2 ^ s * (2 ^ s * 2 ^ t)) (hi % 2 ^ s * 2 ^ t) (lo / 2 ^ s))
    ∙ ap (λ (n : ℕ). n + lo / 2 ^ s) whole
    ∙ sym (mul-add-div_right (pow_pos s) (hi * 2 ^ t) lo)
    ∙ ap (λ (n : ℕ). (n + lo) / 2 ^ s) (mul_assoc hi (2 ^ t) (2 ^ s) ∙ ap (λ (n : ℕ). hi * n) (mul_comm (2 ^ t) (2 ^ s))))
  where
    whole : hi / 2 ^ s * (2 ^ s * 2 ^ t) + hi % 2 ^ s * 2 ^ t ≡ hi * 2 ^ t
    whole =
        ap (λ (n : ℕ). n + hi % 2 ^ s * 2 ^ t) (sym (mul_assoc (hi / 2 ^ s) (2 ^ s) (2 ^ t)))
        ∙ sym (add-mul (hi / 2 ^ s * 2 ^ s) (hi % 2 ^ s) (2 ^ t))
        ∙ ap (λ (n : ℕ). n * 2 ^ t) (split hi s)

-- a shift within a half of W bits
pub shr_within : (W lo hi s : ℕ) → s ≤ W → lo < 2 ^ W → hi / 2 ^ s * 2 ^ W + bit_or (lo / 2 ^ s) (hi * 2 ^ (W - s) % 2 ^ W) ≡ (hi * 2 ^ W + lo) / 2 ^ s
shr_within W lo hi s l h =
    subst (λ (v : ℕ). hi / 2 ^ s * 2 ^ v + bit_or (lo / 2 ^ s) (hi * 2 ^ (W - s) % 2 ^ v) ≡ (hi * 2 ^ v + lo) / 2 ^ s) (add-sub_of_le l)
    (shr_sum lo hi s (W - s) (subst (λ (v : ℕ). lo < 2 ^ v) (sym (add_comm (W - s) s ∙ add-sub_of_le l)) h))

-- a shift by a whole half and more
pub shr_past : (W lo hi s : ℕ) → W ≤ s → lo < 2 ^ W → 0 * 2 ^ W + hi / 2 ^ (s - W) ≡ (hi * 2 ^ W + lo) / 2 ^ s
shr_past W lo hi s l h =
    rw (zero-mul, zero-add)
    (ap (λ (n : ℕ). n / 2 ^ (s - W)) (sym (high hi W h)) ∙ shr-shr (hi * 2 ^ W + lo) W (s - W) ∙ ap (λ (e : ℕ). (hi * 2 ^ W + lo) / 2 ^ e) (add-sub_of_le l))

-- the halves of a number
pub halves_of : (v lo hi : ℕ) → lo < 2 ^ 64 → hi * 2 ^ 64 + lo ≡ v → (lo ≡ v % 2 ^ 64) × (hi ≡ v / 2 ^ 64)
halves_of v lo hi h e = (sym (ap (λ (n : ℕ). n % 2 ^ 64) (sym e) ∙ low hi 64 h), sym (ap (λ (n : ℕ). n / 2 ^ 64) (sym e) ∙ high hi 64 h))

pub halves_are : (v lo hi : ℕ) → lo < 2 ^ 64 → hi * 2 ^ 64 + lo ≡ v → (lo, hi) ≡ halves v
halves_are v lo hi h e = ap₂ (λ (a b : ℕ). (a, b)) (halves_of v lo hi h e).0 (halves_of v lo hi h e).1
