-- The laws of sums of parts of a list: of two in a row, with one element more, and of none.
-- Assumes nothing.
use mathlib.Core.List.{List, [], ◌∷◌, ◌++◌}
use mathlib.Core.Path.{◌≡◌, sym, ap, ◌∙◌}
use Prim.Native.Nat.{ℕ, suc, ◌+◌, ◌-◌, ◌≤◌, ◌<◌}
use native.Mathlib.Nat.{add-zero}
use native.Mathlib.Omega.{arith}
use lib.ListN.{length, get_or, take, drop, length-take, drop_of_length-le}
use lib.Seq.{slice, length-take-le, take-add, take-suc, drop_at, drop-append-le}
use Rattle.fields.specs.Flags.{sum}
use Rattle.fields.proofs.FlagLaws.{sum-append}

module _ (l : List ℕ) where
  take-parts : (m t : ℕ) → m ≤ t → take t l ≡ take m l ++ take (t - m) (drop m l)
  take-parts m t h = let e : t ≡ m + (t - m) = omega arith in ap (λ (x : ℕ). take x l) e ∙ take-add m (t - m) l

  slice-append : (f m t : ℕ) → f ≤ m → m ≤ t → m ≤ length l → slice f t l ≡ slice f m l ++ slice m t l
  slice-append f m t h k n =
      let long : length (take m l) ≡ m = length-take-le m l n in
      let rest : slice m t l ≡ take (t - m) (drop m l) = ap (drop m) (take-parts m t k) ∙ drop_at (take m l) (take (t - m) (drop m l)) m long in
      ap (drop f) (take-parts m t k)
      ∙ drop-append-le f (take m l) (take (t - m) (drop m l)) (omega arith)
      ∙ ap (λ (x : List ℕ). slice f m l ++ x) (sym rest)

  slice-more : (f t : ℕ) → f ≤ t → t < length l → slice f (suc t) l ≡ slice f t l ++ (get_or l t 0 ∷ [])
  slice-more f t h k = ap (drop f) (take-suc l t 0 k) ∙ drop-append-le f (take t l) (get_or l t 0 ∷ []) (omega (arith, length-take-le t l (omega arith)))

  slice-none : (f t : ℕ) → t ≤ f → slice f t l ≡ []
  slice-none f t h = drop_of_length-le (take t l) {i = f} (omega (arith, length-take t l))

  pub sum-parts : (f m t : ℕ) → f ≤ m → m ≤ t → m ≤ length l → sum (slice f m l) + sum (slice m t l) ≡ sum (slice f t l)
  sum-parts f m t h k n = sym (ap sum (slice-append f m t h k n) ∙ sum-append (slice f m l) (slice m t l))

  pub sum_more : (f t : ℕ) → f ≤ t → t < length l → sum (slice f (suc t) l) ≡ sum (slice f t l) + get_or l t 0
  unfolding sum
  sum_more f t h k = ap sum (slice-more f t h k) ∙ sum-append (slice f t l) (get_or l t 0 ∷ []) ∙ ap (λ (x : ℕ). sum (slice f t l) + x) (add-zero (get_or l t 0))

  pub sum-none : (f t : ℕ) → t ≤ f → sum (slice f t l) ≡ 0
  unfolding sum
  sum-none f t h = ap sum (slice-none f t h)
