-- A string of bytes as one number: its characters are the number's digits at any width that divides a byte, and the word of a view is a field of it.
-- Assumes nothing.
use mathlib.Core.List.{List, map, reverse}
use mathlib.Core.Path.{◌≡◌, sym, ap, ap₂, ◌∙◌, subst}
use Prim.Native.Nat.{ℕ, ◌+◌, ◌-◌, ◌*◌, ◌/◌, ◌%◌, ◌^◌, ◌≤◌, ◌<◌}
use native.Mathlib.Nat.{mul_assoc, mul_comm, mul-add, add_comm, div-add-mod', mod-lt, sub-add_cancel}
use native.Mathlib.Omega.{arith}
use lib.Pow.{shr-shr, field, mod-mod-pow, mod-pow-add}
use Rattle.codes.specs.Codes.{per, IsWidth, char_at, chars}
use Rattle.codes.specs.Words.{word, chars_of, flip}
use Rattle.codes.proofs.Pairs.{halves_of}
use Rattle.codes.proofs.TabLaws.{tab-ext, word_at, chars_of-tab}
use Rattle.codes.proofs.WidthLaws.{per_pos, shift_fits}
use Rattle.codes.proofs.WordLaws.{Below, word-chars_of}

-- a field within a field
pub field_of : (n b k m : ℕ) → b + k ≤ m → n % 2 ^ m / 2 ^ b % 2 ^ k ≡ n / 2 ^ b % 2 ^ k
field_of n b k m l =
    ap (λ (e : ℕ). n % 2 ^ e / 2 ^ b % 2 ^ k) (sym cut)
    ∙ ap (λ (x : ℕ). x % 2 ^ k) (field n (m - b - k + k) b)
    ∙ mod-mod-pow (n / 2 ^ b) (m - b - k) k
  where
    cut : m - b - k + k + b ≡ m
    cut = omega arith

-- a shorter field of a longer one
pub mod_low : (n k m : ℕ) → k ≤ m → n % 2 ^ m % 2 ^ k ≡ n % 2 ^ k
mod_low n k m l = subst (λ (e : ℕ). n % 2 ^ e % 2 ^ k ≡ n % 2 ^ k) (sub-add_cancel l) (mod-mod-pow n (m - k) k)

module _ {w : ℕ} (W : IsWidth w) (s : List ℕ) (bytes : Below 8 s) where
  -- a character is a digit of the number
  pub char_at-is : (i : ℕ) → char_at w s i ≡ word 8 s / 2 ^ (w * i) % 2 ^ w
  unfolding char_at
  char_at-is i =
      ap (λ (x : ℕ). x / 2 ^ (w * (i % per w)) % 2 ^ w) (sym (word_at 8 s bytes (i / per w)))
      ∙ field_of (word 8 s / 2 ^ (8 * (i / per w))) (w * (i % per w)) w 8 (shift_fits W (i % per w) (mod-lt i (per_pos W)))
      ∙ ap (λ (x : ℕ). x % 2 ^ w) (shr-shr (word 8 s) (8 * (i / per w)) (w * (i % per w)) ∙ ap (λ (k : ℕ). word 8 s / 2 ^ k) sum)
    where
      sum : 8 * (i / per w) + w * (i % per w) ≡ w * i
      sum =
          ap (λ (x : ℕ). x * (i / per w) + w * (i % per w)) (sym W.whole)
          ∙ ap (λ (x : ℕ). x + w * (i % per w)) (mul_assoc w (per w) (i / per w) ∙ ap (λ (x : ℕ). w * x) (mul_comm (per w) (i / per w)))
          ∙ sym (mul-add w (i / per w * per w) (i % per w))
          ∙ ap (λ (x : ℕ). w * x) (div-add-mod' i (per w))

  -- a view's characters are those of the number from its place on
  pub chars-are : (o k : ℕ) → chars w s o k ≡ chars_of w k (word 8 s / 2 ^ (w * o))
  unfolding chars
  chars-are o k =
      tab-ext k (λ i. char_at w s (o + i)) (λ i. word 8 s / 2 ^ (w * o) / 2 ^ (w * i) % 2 ^ w)
      (λ i h. char_at-is (o + i) ∙ ap (λ (x : ℕ). x % 2 ^ w) (ap (λ (e : ℕ). word 8 s / 2 ^ e) (mul-add w o i) ∙ sym (shr-shr (word 8 s) (w * o) (w * i))))
      ∙ sym (chars_of-tab w k (word 8 s / 2 ^ (w * o)))

  -- a view's word is a field of the number
  pub word-chars : (o k : ℕ) → word w (chars w s o k) ≡ word 8 s / 2 ^ (w * o) % 2 ^ (w * k)
  word-chars o k = ap (word w) (chars-are o k) ∙ word-chars_of w k (word 8 s / 2 ^ (w * o))

  -- and the word of the view in reverse is a flip of it
  pub flip-field : (f : ℕ → ℕ) (o k : ℕ) → flip w f k (word 8 s / 2 ^ (w * o)) ≡ word w (reverse (map f (chars w s o k)))
  unfolding flip
  flip-field f o k = ap (λ (l : List ℕ). word w (reverse (map f l))) (sym (chars-are o k))

-- two neighbouring fields of k bits
pub join_fields : (n p q k : ℕ) → q ≡ p + k → n / 2 ^ p % 2 ^ k + n / 2 ^ q % 2 ^ k * 2 ^ k ≡ n / 2 ^ p % 2 ^ (k + k)
join_fields n p q k e =
    add_comm (n / 2 ^ p % 2 ^ k) (n / 2 ^ q % 2 ^ k * 2 ^ k)
    ∙ ap (λ (x : ℕ). x % 2 ^ k * 2 ^ k + n / 2 ^ p % 2 ^ k) (ap (λ (x : ℕ). n / 2 ^ x) e ∙ sym (shr-shr n p k))
    ∙ sym (mod-pow-add (n / 2 ^ p) k k)

-- nine bytes, shifted down by less than a byte, hold the 64 bits from any bit on
pub nine : (x at sh n lo hi rlo rhi : ℕ) → lo ≡ x / 2 ^ (8 * at) % 2 ^ 64 → hi ≡ x / 2 ^ (8 * (at + 8)) % 2 ^ 8 → rhi * 2 ^ 64 + rlo ≡ (hi * 2 ^ 64 + lo) / 2 ^ sh
    → rlo < 2 ^ 64 → sh < 8 → n ≤ 64 → rlo % 2 ^ n ≡ x / 2 ^ (8 * at + sh) % 2 ^ n
nine x at sh n lo hi rlo rhi el eh er hr hs hn =
    ap (λ (y : ℕ). y % 2 ^ n)
    ((halves_of _ rlo rhi hr er).0
    ∙ ap (λ (y : ℕ). y / 2 ^ sh % 2 ^ 64)
    (ap₂ (λ (p q : ℕ). p * 2 ^ 64 + q) (eh ∙ ap (λ (y : ℕ). y % 2 ^ 8) (ap (λ (e : ℕ). x / 2 ^ e) (mul-add 8 at 8) ∙ sym (shr-shr x (8 * at) 64))) el
    ∙ sym (mod-pow-add (x / 2 ^ (8 * at)) 8 64))
    ∙ field_of (x / 2 ^ (8 * at)) sh 64 72 (omega arith)
    ∙ ap (λ (y : ℕ). y % 2 ^ 64) (shr-shr x (8 * at) sh))
    ∙ mod_low (x / 2 ^ (8 * at + sh)) n 64 hn

-- a field of more than 64 bits in two halves
pub two_words : (x p n : ℕ) → 64 ≤ n → x / 2 ^ (p + 64) % 2 ^ (n - 64) * 2 ^ 64 + x / 2 ^ p % 2 ^ 64 ≡ x / 2 ^ p % 2 ^ n
two_words x p n l =
    ap (λ (y : ℕ). y % 2 ^ (n - 64) * 2 ^ 64 + x / 2 ^ p % 2 ^ 64) (sym (shr-shr x p 64))
    ∙ sym (mod-pow-add (x / 2 ^ p) (n - 64) 64) ∙ ap (λ (e : ℕ). x / 2 ^ p % 2 ^ e) (sub-add_cancel l)
