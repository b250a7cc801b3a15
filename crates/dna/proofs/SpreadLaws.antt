-- Fields of bits spread over a word: a masked shift cuts each field in two, each half with as much room again above it.
-- Assumes nothing.
use mathlib.Core.Path.{◌≡◌, sym, ap, ap₂, ◌∙◌}
use Prim.Native.Nat.{ℕ, zero, suc, ◌+◌, ◌*◌, ◌/◌, ◌%◌, ◌^◌, ◌<◌}
use native.Mathlib.Nat.{add-mul, add-suc, suc-add, mul_assoc, mul_right_comm, mul-mod_left, zero-mul, zero-add, mod-lt, mod-eq_of_lt, lt_of_lt_of_le}
use native.Mathlib.Omega.{arith}
use lib.Arith.{digits_lt}
use lib.Bits.{bit_and, bit_or, and_zero_r, or_mod, or_shr, or_zero_l, or_zero_r}
use lib.Pow.{pow_pos, pow_mono, pow-add, high, shl_lt, shl-shr, shr-shr}
use Rattle.codes.specs.Words.{word, chars_of}
use Rattle.codes.proofs.Net.{mask, low_field, shift_swap, low_half, high_half}
use Rattle.codes.proofs.WordLaws.{pow_step}

-- n fields of v bits of f, each with v bits of room above it
abbrev pub spaced : ℕ → ℕ → ℕ → ℕ
spaced v n f = word (v + v) (chars_of v n f)

-- a shift by b + b is two by b
shl_shl : (a b : ℕ) → a * 2 ^ (b + b) ≡ a * 2 ^ b * 2 ^ b
shl_shl a b = ap (λ (y : ℕ). a * y) (pow-add 2 b b) ∙ sym (mul_assoc a (2 ^ b) (2 ^ b))

-- a number x whose lowest field is the b + b low bits of f, and the room above that field; y is x with x shifted by b over it
module _ (b a f : ℕ) where
  x : ℕ
  x = a * 2 ^ (b + b) * 2 ^ (b + b) + f % 2 ^ (b + b)

  y : ℕ
  y = bit_or x (x * 2 ^ b)

  -- the low half stays where it is
  y_low : y % 2 ^ b ≡ f % 2 ^ b
  unfolding x y
  y_low = or_mod x (x * 2 ^ b) b ∙ ap₂ bit_or (low_half b (a * 2 ^ (b + b)) f) (mul-mod_left x (2 ^ b)) ∙ or_zero_r (f % 2 ^ b)

  -- from the room on
  y_room : y / 2 ^ (b + b) ≡ bit_or (a * 2 ^ (b + b)) (x / 2 ^ b)
  unfolding x y
  y_room =
      or_shr x (x * 2 ^ b) (b + b)
      ∙ ap₂ bit_or (high (a * 2 ^ (b + b)) (b + b) (mod-lt f (pow_pos (b + b)))) (sym (shr-shr (x * 2 ^ b) b b) ∙ ap (λ (z : ℕ). z / 2 ^ b) (shl-shr x b))

  -- the high half comes into the room
  y_high : y / 2 ^ (b + b) % 2 ^ b ≡ f / 2 ^ b % 2 ^ b
  unfolding x
  y_high =
      ap (λ (z : ℕ). z % 2 ^ b) y_room
      ∙ or_mod (a * 2 ^ (b + b)) (x / 2 ^ b) b
      ∙ ap₂ bit_or (ap (λ (z : ℕ). z % 2 ^ b) (shl_shl a b) ∙ mul-mod_left (a * 2 ^ b) (2 ^ b)) (high_half b (a * 2 ^ (b + b)) f)
      ∙ or_zero_l (f / 2 ^ b % 2 ^ b)

  -- the other fields
  y_rest : y / 2 ^ (b + b) / 2 ^ (b + b) ≡ bit_or a (a * 2 ^ b)
  unfolding x
  y_rest =
      ap (λ (z : ℕ). z / 2 ^ (b + b)) y_room
      ∙ or_shr (a * 2 ^ (b + b)) (x / 2 ^ b) (b + b)
      ∙ ap₂ bit_or (shl-shr a (b + b))
      (shift_swap b x
      ∙ ap (λ (z : ℕ). z / 2 ^ b) (high (a * 2 ^ (b + b)) (b + b) (mod-lt f (pow_pos (b + b))) ∙ shl_shl a b)
      ∙ shl-shr (a * 2 ^ b) b)

  -- under a mask
  y_masked : (m : ℕ) → bit_and y (mask b (suc (suc m))) ≡ (bit_and (bit_or a (a * 2 ^ b)) (mask b m) * 2 ^ (b + b) + f / 2 ^ b % 2 ^ b) * 2 ^ (b + b) + f % 2 ^ b
  unfolding mask
  y_masked m =
      low_field b y (mask b (suc m))
      ∙ ap₂ (λ (p q : ℕ). p * 2 ^ (b + b) + q)
      (low_field b (y / 2 ^ (b + b)) (mask b m) ∙ ap₂ (λ (p q : ℕ). bit_and p (mask b m) * 2 ^ (b + b) + q) y_rest y_high)
      y_low

-- each of n fields cut in two
halved : (b n f : ℕ) → bit_and (bit_or (spaced (b + b) n f) (spaced (b + b) n f * 2 ^ b)) (mask b (n + n)) ≡ spaced b (n + n) f
unfolding mask word chars_of x y
halved b zero f = and_zero_r (bit_or 0 (0 * 2 ^ b))
halved b (suc n) f =
    ap₂ (λ (p q : ℕ). bit_and (bit_or p (p * 2 ^ b)) (mask b q)) (ap (λ (p : ℕ). p + f % 2 ^ (b + b)) (shl_shl a (b + b))) twice
    ∙ y_masked b a f (n + n)
    ∙ ap (λ (p : ℕ). (p * 2 ^ (b + b) + f / 2 ^ b % 2 ^ b) * 2 ^ (b + b) + f % 2 ^ b) (halved b n (f / 2 ^ (b + b)) ∙ ap (spaced b (n + n)) (sym (shr-shr f b b)))
    ∙ sym (ap (λ (k : ℕ). spaced b k f) twice)
  where
    a : ℕ
    a = spaced (b + b) n (f / 2 ^ (b + b))

    twice : suc n + suc n ≡ suc (suc (n + n))
    twice = add-suc (suc n) n ∙ ap suc (suc-add n n)

-- a shift by b keeps the fields within their room
spaced_lt : (b n f : ℕ) → spaced (b + b) n f * 2 ^ b < 2 ^ ((b + b + (b + b)) * n)
unfolding word chars_of
spaced_lt b zero f = rw zero-mul (pow_pos ((b + b + (b + b)) * 0))
spaced_lt b (suc n) f =
    rw (add-mul (a * 2 ^ (b + b + (b + b))) (f % 2 ^ (b + b)) (2 ^ b), mul_right_comm a (2 ^ (b + b + (b + b))) (2 ^ b), pow_step (b + b + (b + b)) n)
    (digits_lt (spaced_lt b n (f / 2 ^ (b + b))) (lt_of_lt_of_le (shl_lt (b + b) b (mod-lt f (pow_pos (b + b)))) (pow_mono (omega arith))))
  where
    a : ℕ
    a = spaced (b + b) n (f / 2 ^ (b + b))

-- one stage as the program computes it, with its mask m
pub spread_stage : (b n m f x : ℕ) → mask b (n + n) ≡ m → x ≡ spaced (b + b) n f → bit_and (bit_or x (x * 2 ^ b % 2 ^ ((b + b + (b + b)) * n))) m ≡ spaced b (n + n) f
spread_stage b n m f x em ex =
    ap₂ (λ (z k : ℕ). bit_and (bit_or z (z * 2 ^ b % 2 ^ ((b + b + (b + b)) * n))) k) ex (sym em)
    ∙ ap (λ (z : ℕ). bit_and (bit_or (spaced (b + b) n f) z) (mask b (n + n))) (mod-eq_of_lt (spaced_lt b n f))
    ∙ halved b n f

-- all bits in one field
pub spread_start : (v f : ℕ) → f < 2 ^ v → f ≡ spaced v 1 f
unfolding word chars_of
spread_start v f h = sym (rw (zero-mul, zero-add) (mod-eq_of_lt h))
