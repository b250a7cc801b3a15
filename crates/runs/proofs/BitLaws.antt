-- A number bit by bit: the bits of what `&`, `|` and the shifts make, and a number as the word of its bits and bounded by them.
-- Assumes nothing.
use mathlib.Core.Path.{◌≡◌, sym, ap, ◌∙◌, subst}
use Prim.Native.Nat.{ℕ, zero, suc, ◌+◌, ◌-◌, ◌*◌, ◌/◌, ◌%◌, ◌^◌, ◌≤◌, ◌<◌, min, max, zero-le}
use native.Mathlib.Nat.{add_comm, add-sub_of_le, mul_assoc, one-mul, mod-lt, mod-eq_of_lt, lt_of_lt_of_le, lt-suc_self, lt-div-mul-add}
use native.Mathlib.Numerals.{add-one}
use native.Mathlib.Omega.{arith}
use lib.Arith.{digits_mod}
use lib.Bits.{bit_and, bit_or, and_shr, or_shr, and_step, or_step, shifted_even}
use lib.Dec.{lit<}
use lib.Pow.{pow_pos, pow_mono, pow-add, shr-shr, shl-shr, shr_lt}
use Rattle.codes.specs.Codes.{tab}
use Rattle.codes.specs.Words.{word}
use Rattle.codes.proofs.FieldLaws.{field_of}
use Rattle.codes.proofs.TabLaws.{tab-ext, chars_of-tab}
use Rattle.codes.proofs.WidthLaws.{below_or}
use Rattle.codes.proofs.WordLaws.{word-chars_of}

-- bit j of x
abbrev pub bit : ℕ → ℕ → ℕ
bit x j = x / 2 ^ j % 2

pub bit_lt : (x j : ℕ) → bit x j < 2
bit_lt x j = mod-lt (x / 2 ^ j) (lit< tt)

pub bit_and_lem : (a b j : ℕ) → bit (bit_and a b) j ≡ min (bit a j) (bit b j)
bit_and_lem a b j =
    ap (λ (x : ℕ). x % 2) (and_shr a b j ∙ and_step (a / 2 ^ j) (b / 2 ^ j))
    ∙ digits_mod (bit_and (a / 2 ^ j / 2) (b / 2 ^ j / 2)) (omega (arith, bit_lt a j, bit_lt b j))

pub bit_or_lem : (a b j : ℕ) → bit (bit_or a b) j ≡ max (bit a j) (bit b j)
bit_or_lem a b j =
    ap (λ (x : ℕ). x % 2) (or_shr a b j ∙ or_step (a / 2 ^ j) (b / 2 ^ j))
    ∙ digits_mod (bit_or (a / 2 ^ j / 2) (b / 2 ^ j / 2)) (omega (arith, bit_lt a j, bit_lt b j))

pub bit_shr : (x s j : ℕ) → bit (x / 2 ^ s) j ≡ bit x (s + j)
bit_shr x s j = ap (λ (y : ℕ). y % 2) (shr-shr x s j)

-- a bit from s places below
pub bit_shl : (x s j : ℕ) → s ≤ j → bit (x * 2 ^ s) j ≡ bit x (j - s)
bit_shl x s j h =
    ap (λ (y : ℕ). y % 2)
    (ap (λ (e : ℕ). x * 2 ^ s / 2 ^ e) (sym (add-sub_of_le h)) ∙ sym (shr-shr (x * 2 ^ s) s (j - s)) ∙ ap (λ (y : ℕ). y / 2 ^ (j - s)) (shl-shr x s))

-- and zeros at the bottom
pub bit_shl_low : (x s j : ℕ) → j < s → bit (x * 2 ^ s) j ≡ 0
bit_shl_low x s j h =
    let t : ℕ = s - suc j in
    let e : s ≡ suc t + j = omega arith in
    ap (λ (y : ℕ). y / 2 ^ j % 2) (ap (λ (n : ℕ). x * 2 ^ n) e ∙ ap (λ (y : ℕ). x * y) (pow-add 2 (suc t) j) ∙ sym (mul_assoc x (2 ^ suc t) (2 ^ j)))
    ∙ ap (λ (y : ℕ). y % 2) (shl-shr (x * 2 ^ suc t) j)
    ∙ shifted_even x t

-- the bits of a machine word
pub bit_mod : (x m j : ℕ) → j < m → bit (x % 2 ^ m) j ≡ bit x j
bit_mod x m j h = field_of x j 1 m (omega arith)

-- a number is the word of its bits
pub bits_word : (n x : ℕ) (f : ℕ → ℕ) → x < 2 ^ n → ((j : ℕ) → j < n → bit x j ≡ f j) → x ≡ word 1 (tab n f)
bits_word n x f l h =
    sym (ap (λ (e : ℕ). x % 2 ^ e) (one-mul n) ∙ mod-eq_of_lt l)
    ∙ sym (word-chars_of 1 n x)
    ∙ ap (word 1) (chars_of-tab 1 n x ∙ tab-ext n (λ i. x / 2 ^ (1 * i) % 2 ^ 1) f (λ j m. ap (λ (e : ℕ). x / 2 ^ e % 2) (one-mul j) ∙ h j m))

-- a number whose bits are zeros from bit n on
pub bits_lt : (n m x : ℕ) → x < 2 ^ m → ((j : ℕ) → n ≤ j → j < m → bit x j ≡ 0) → x < 2 ^ n
bits_lt n zero x l h = lt_of_lt_of_le l (pow_mono zero-le)
bits_lt n (suc m) x l h =
    below_or m n (λ a. lt_of_lt_of_le l (pow_mono a))
    (λ a.
    let top : x / 2 ^ m < 2 = shr_lt 1 m (subst (λ (e : ℕ). x < 2 ^ e) (sym (add-one m) ∙ add_comm m 1) l) in
    let none : x / 2 ^ m ≡ 0 = sym (mod-eq_of_lt top) ∙ h m a (lt-suc_self m) in
    bits_lt n m x (omega (arith, subst (λ (q : ℕ). x < q * 2 ^ m + 2 ^ m) none (lt-div-mul-add (pow_pos m)))) (λ j b c. h j b (omega arith)))
