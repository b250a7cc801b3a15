-- The laws of letters: one by its digit, a byte's four, and those of a view.
-- Assumes nothing.
use mathlib.Core.List.{List, ◌∷◌, ◌++◌, map}
use mathlib.Core.Path.{◌≡◌, refl, sym, ap, ◌∙◌}
use Prim.Native.Nat.{ℕ, zero, suc, ◌+◌, ◌*◌, ◌/◌, ◌%◌, ◌^◌, ◌≤◌, ◌<◌}
use native.Mathlib.Nat.{add_assoc, add-zero, div-one, mod-eq_of_lt}
use native.Mathlib.Omega.{arith}
use lib.Dec.{lit<}
use lib.ListN.{length, get_or, set, drop}
use Rattle.codes.specs.Codes.{char_at, letter, tab, chars}
use Rattle.codes.specs.Made.{Made}
use Rattle.codes.proofs.CharLaws.{char_at-at, char_at-lt}
use Rattle.codes.proofs.MadeLaws.{made_more, made-to, made-is}
use Rattle.codes.specs.Widths.{width_2}
use Rattle.writes.specs.Writes.{letter_at}

pub map-tab : (h : ℕ → ℕ) (n : ℕ) (f : ℕ → ℕ) → map h (tab n f) ≡ tab n (λ i. h (f i))
unfolding tab
map-tab h zero f = refl
map-tab h (suc n) f = ap (λ (l : List ℕ). h (f 0) ∷ l) (map-tab h n (λ i. f (suc i)))

module _ (bs : List ℕ) (o : ℕ) where
  -- the letter of a base by its digit
  pub letter_at_lem : (i x y : ℕ) → x ≡ get_or bs ((o + i) / 4) 0 / 2 ^ (2 * ((o + i) % 4)) % 2 ^ 2 → y ≡ letter (x % 4) → y ≡ letter_at bs o i
  unfolding char_at
  letter_at_lem i x y ex ey = ey ∙ ap letter (ap (λ (z : ℕ). z % 4) ex ∙ mod-eq_of_lt (char_at-lt 2 bs (o + i)))

  -- byte b holds the bases from o + i on, and x0 .. x3 are its letters
  pub letters_four : {d e : List ℕ} {from i x0 x1 x2 x3 : ℕ} (b : ℕ) → Made (letter_at bs o) from i d e → from ≤ i → i + 3 < length d → b * 4 ≡ o + i
      → x0 ≡ letter (get_or bs b 0 % 4) → x1 ≡ letter (get_or bs b 0 / 4 % 4) → x2 ≡ letter (get_or bs b 0 / 16 % 4) → x3 ≡ letter (get_or bs b 0 / 64 % 4)
      → Made (letter_at bs o) from (i + 4) d (set (set (set (set e i x0) (i + 1) x1) (i + 2) x2) (i + 3) x3)
  letters_four {from = from} {i} b z f l p e0 e1 e2 e3 =
      let z1 = made_more z f (omega arith) (e0 ∙ first) in
      let z2 = made_more z1 (omega arith) (omega arith) (e1 ∙ sym (at 1 (lit< tt))) in
      let z3 = made_more (made-to {to = i + 2} z2 (omega arith)) (omega arith) (omega arith) (e2 ∙ sym (at 2 (lit< tt))) in
      let z4 = made_more (made-to {to = i + 3} z3 (omega arith)) (omega arith) (omega arith) (e3 ∙ sym (at 3 (lit< tt))) in
      made-to z4 (omega arith)
    where
      at : (k : ℕ) → k < 4 → letter_at bs o (i + k) ≡ letter (get_or bs b 0 / 2 ^ (2 * k) % 4)
      at k h = ap letter (ap (char_at 2 bs) (sym (add_assoc o i k) ∙ ap (λ (n : ℕ). n + k) (sym p)) ∙ char_at-at width_2 bs b k h)

      first : letter (get_or bs b 0 % 4) ≡ letter_at bs o i
      first = sym (ap (letter_at bs o) (sym (add-zero i)) ∙ at 0 (lit< tt) ∙ ap (λ (y : ℕ). letter (y % 4)) (div-one (get_or bs b 0)))

  -- the letters of n bases, and the buffer behind them
  pub letters_all : {d e : List ℕ} {n : ℕ} → Made (letter_at bs o) 0 n d e → n ≤ length d → e ≡ map letter (chars 2 bs o n) ++ drop n d
  unfolding chars
  letters_all {d} {n = n} z l = made-is z l ∙ ap (λ (s : List ℕ). s ++ drop n d) (sym (map-tab letter n (λ i. char_at 2 bs (o + i))))
