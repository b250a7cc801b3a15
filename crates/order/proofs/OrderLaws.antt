-- The common length of two lists, and their order from it; what two views have that are not refused.
-- Assumes nothing.
use Rattle.std.specs.Prelude.{Ok}
use Rattle.std.specs.Ordering.{MatchOrdering, nat_cmp}
use Rattle.std.proofs.lemmas.Cmp.{ranked}
use mathlib.Core.Bool.{Bool, true, false}
use mathlib.Core.List.{List, [], ◌∷◌}
use mathlib.Core.Path.{◌≡◌, refl, sym, ap, ap₂, ◌∙◌, subst₂}
use Prim.Native.Nat.{ℕ, zero, suc, ◌+◌, ◌*◌, ◌^◌, ◌≤◌, ◌<◌, zero-le, suc-le-suc}
use native.Mathlib.Decide.{ℕ_discrete}
use native.Mathlib.Nat.{le_of_lt, le_of_suc-le-suc, not-suc-le-zero}
use native.Mathlib.Omega.{arith}
use lib.Arith.{le-zero}
use lib.Dec.{ltb, leb-suc-suc}
use lib.ListN.{length, get_or}
use borrow.Author.Tests.{lt-ltb, le-ltb, eq-eqb, ne_eqb}
use Rattle.codes.specs.Codes.{IsWidth, per, pick, char_at, chars, trailing}
use Rattle.codes.specs.Refusals.{first, view_tests}
use Rattle.codes.specs.declared.refusals.Refusal.TheVariants.{TooLong, BadView}
use Rattle.codes.proofs.CharLaws.{length-chars, get_or-chars}
use Rattle.codes.proofs.Viewed.{view_passed}
use Rattle.codes.proofs.WidthLaws.{below_or}
use Rattle.order.specs.Order.{compare, common, pair_tests}
use Rattle.std.specs.declared.cmp.Ordering.{Ordering}
use Rattle.std.specs.declared.cmp.Ordering.TheVariants.{Less, Equal, Greater}
use Rattle.fields.proofs.LoadLaws.{Bits, view_bits}
use Rattle.fields.proofs.ViewLaws.{view_accepted}
use Rattle.views.proofs.SliceLaws.{room_done}

-- two numbers, as one character each, by what `cmp` answers
by_rank : (x y : ℕ) (r : Ordering) → MatchOrdering r (x < y) (x ≡ y) (y < x) → r ≡ compare (x ∷ []) (y ∷ [])
unfolding compare
by_rank x y Less h = rw (lt-ltb x y h)
by_rank x y Equal h = rw (le-ltb x y (omega (arith, h)), le-ltb y x (omega (arith, h)))
by_rank x y Greater h = rw (le-ltb x y (le_of_lt h), lt-ltb y x h)

pub by_cmp : (x y : ℕ) (r : Ordering) → r ≡ nat_cmp x y → r ≡ compare (x ∷ []) (y ∷ [])
by_cmp x y r e = by_rank x y r (ranked x y r e)

-- r characters are equal, and there is none behind them or it differs
pub common-is : (xs ys : List ℕ) (r : ℕ) → r ≤ length xs → r ≤ length ys → ((j : ℕ) → j < r → get_or xs j 0 ≡ get_or ys j 0)
    → (r < length xs → r < length ys → get_or xs r 0 ≡ get_or ys r 0 → ⊥) → r ≡ common xs ys
unfolding common
common-is [] ys r h l e d = le-zero h
common-is (x ∷ xs) [] r h l e d = le-zero l
common-is (x ∷ xs) (y ∷ ys) zero h l e d = rw (ne_eqb x y (d (suc-le-suc zero-le) (suc-le-suc zero-le)))
common-is (x ∷ xs) (y ∷ ys) (suc r) h l e d =
    rw (eq-eqb x y (e 0 (suc-le-suc zero-le)))
    (ap suc (common-is xs ys r (le_of_suc-le-suc h) (le_of_suc-le-suc l) (λ j m. e (suc j) (suc-le-suc m)) (λ p q. d (suc-le-suc p) (suc-le-suc q))))

-- what holds of 0, and of each number above
pub from_zero : (m : ℕ) (P : ℕ → Type 0) → P 0 → ((i : ℕ) → i < m → P (suc i)) → (i : ℕ) → i < suc m → P i
from_zero m P p h zero l = p
from_zero m P p h (suc i) l = h i (le_of_suc-le-suc l)

-- so many leading characters are equal
pub common-same : (xs ys : List ℕ) (j : ℕ) → j < common xs ys → get_or xs j 0 ≡ get_or ys j 0
unfolding common
common-same [] ys j h = absurd (not-suc-le-zero h)
common-same (x ∷ xs) [] j h = absurd (not-suc-le-zero h)
common-same (x ∷ xs) (y ∷ ys) j h =
    elim (ℕ_discrete x y) [
      | yes e ↦ from_zero (common xs ys) (λ i. get_or (x ∷ xs) i 0 ≡ get_or (y ∷ ys) i 0) e (common-same xs ys) j (rw (eq-eqb x y e) at h)
      | no n ↦ absurd (not-suc-le-zero (rw (ne_eqb x y n) at h))
    ]

-- where both lists have characters behind the common ones, the first of these decide
compare-behind : (xs ys : List ℕ) → common xs ys < length xs → common xs ys < length ys → compare xs ys ≡ compare (get_or xs (common xs ys) 0 ∷ []) (get_or ys (common xs ys) 0 ∷ [])
unfolding compare common
compare-behind [] ys h l = absurd (not-suc-le-zero h)
compare-behind (x ∷ xs) [] h l = absurd (not-suc-le-zero l)
compare-behind (x ∷ xs) (y ∷ ys) h l =
    elim (ℕ_discrete x y) [
      | yes e ↦ rw (eq-eqb x y e, le-ltb x y (omega arith), le-ltb y x (omega arith)) (compare-behind xs ys (le_of_suc-le-suc (rw (eq-eqb x y e) at h)) (le_of_suc-le-suc (rw (eq-eqb x y e) at l)))
      | no n ↦ rw (ne_eqb x y n) (below_or x y (λ g. rw (lt-ltb x y g)) (λ g. rw (le-ltb x y g, lt-ltb y x (omega arith))))
    ]

-- else the lengths do
compare-ends : (xs ys : List ℕ) → (common xs ys < length xs → common xs ys < length ys → ⊥) → compare xs ys ≡ compare (length xs ∷ []) (length ys ∷ [])
unfolding compare common
compare-ends [] [] d = refl
compare-ends [] (y ∷ ys) d = rw (lt-ltb 0 (suc (length ys)) (suc-le-suc zero-le))
compare-ends (x ∷ xs) [] d = rw (le-ltb (suc (length xs)) 0 zero-le, lt-ltb 0 (suc (length xs)) (suc-le-suc zero-le))
compare-ends (x ∷ xs) (y ∷ ys) d =
    elim (ℕ_discrete x y) [
      | yes e ↦ rw (le-ltb x y (omega arith), le-ltb y x (omega arith))
          (compare-ends xs ys (λ h l. (rw (eq-eqb x y e) at d) (suc-le-suc h) (suc-le-suc l)) ∙ sym (simp leb-suc-suc))
      | no n ↦ absurd ((rw (ne_eqb x y n) at d) (suc-le-suc zero-le) (suc-le-suc zero-le))
    ]

-- where the first characters decide nothing, they are equal, and the rest decides
behind : (x y : ℕ) (o : Ordering) → pick (ltb x y) Less (pick (ltb y x) Greater o) ≡ Equal → (x ≡ y) × (o ≡ Equal)
behind x y o e =
    below_or x y (λ h. let z : ◌≡◌ {A = ℕ} 0 1 = cc (lt-ltb x y h) in absurd (omega arith))
    (λ h. below_or y x (λ l. let z : ◌≡◌ {A = ℕ} 0 1 = cc (le-ltb x y h, lt-ltb y x l) in absurd (omega arith)) (λ l. (omega arith, rw (le-ltb x y h, le-ltb y x l) at e)))

-- two lists compare equal exactly if they are
pub compare-equal : (xs ys : List ℕ) → compare xs ys ≡ Equal → xs ≡ ys
unfolding compare
compare-equal [] [] e = refl
compare-equal [] (y ∷ ys) e = let z : ◌≡◌ {A = ℕ} 0 1 = cc in absurd (omega arith)
compare-equal (x ∷ xs) [] e = let z : ◌≡◌ {A = ℕ} 0 1 = cc in absurd (omega arith)
compare-equal (x ∷ xs) (y ∷ ys) e = let b = behind x y (compare xs ys) e in ap₂ (λ (z : ℕ) (zs : List ℕ). z ∷ zs) b.0 (compare-equal xs ys b.1)

pub compare_same : (xs : List ℕ) → compare xs xs ≡ Equal
unfolding compare
compare_same [] = refl
compare_same (x ∷ xs) = rw (le-ltb x x (omega arith)) (compare_same xs)

-- where two views are not refused, neither is
pub pair_views : (w m ao al n bo bl : ℕ) → first (pair_tests w m ao al n bo bl) ≡ Ok tt → (first (view_tests w m ao al) ≡ Ok tt) × (first (view_tests w n bo bl) ≡ Ok tt)
pair_views w m ao al n bo bl e = apart (ltb (2 ^ 28) m) (ltb (2 ^ 28) n) (ltb (m * per w) (ao + al + trailing * per w)) (ltb (n * per w) (bo + bl + trailing * per w)) e
  where
    apart : (a b c d : Bool) → first ((a, TooLong) ∷ (b, TooLong) ∷ (c, BadView) ∷ (d, BadView) ∷ []) ≡ Ok tt
        → (first ((a, TooLong) ∷ (c, BadView) ∷ []) ≡ Ok tt) × (first ((b, TooLong) ∷ (d, BadView) ∷ []) ≡ Ok tt)
    apart true b c d e = let z : ◌≡◌ {A = ℕ} 0 1 = cc in absurd (omega arith)
    apart false true c d e = let z : ◌≡◌ {A = ℕ} 0 1 = cc in absurd (omega arith)
    apart false false true d e = let z : ◌≡◌ {A = ℕ} 0 1 = cc in absurd (omega arith)
    apart false false false true e = let z : ◌≡◌ {A = ℕ} 0 1 = cc in absurd (omega arith)
    apart false false false false e = (refl, refl)

-- two accepted views are accepted together
pub pair_done : (w m ao al n bo bl : ℕ) → first (view_tests w m ao al) ≡ Ok tt → first (view_tests w n bo bl) ≡ Ok tt → first (pair_tests w m ao al n bo bl) ≡ Ok tt
pair_done w m ao al n bo bl e f =
    let p = view_passed w m ao al e in
    let q = view_passed w n bo bl f in
    simp (p.0, p.1, q.0, q.1)

-- a part of an accepted view is accepted as it is
pub pair_cut : (w m ao al n bo bl at k : ℕ) → first (pair_tests w m ao al n bo bl) ≡ Ok tt → at + k ≤ al → first (pair_tests w m (ao + at) k n bo bl) ≡ Ok tt
pair_cut w m ao al n bo bl at k e h =
    let v = pair_views w m ao al n bo bl e in
    let r = view_accepted w m ao al v.0 in
    pair_done w m (ao + at) k n bo bl (room_done w m (ao + at) k (record { small = r.small; fits = omega (arith, r.fits) })) v.1

pub pair_bits : {w : ℕ} → IsWidth w → (m ao al n bo bl : ℕ) → first (pair_tests w m ao al n bo bl) ≡ Ok tt → Bits w m ao al × Bits w n bo bl
pair_bits {w} W m ao al n bo bl e =
    let v = pair_views w m ao al n bo bl e in
    (view_bits W m ao al v.0, view_bits W n bo bl v.1)

-- the order of two views of which k leading characters are equal and no more
module _ (w : ℕ) (s : List ℕ) (o al : ℕ) (t : List ℕ) (o' bl k : ℕ) (e : k ≡ common (chars w s o al) (chars w t o' bl)) where
  pub order_behind : k < al → k < bl → compare (chars w s o al) (chars w t o' bl) ≡ compare (char_at w s (o + k) ∷ []) (char_at w t (o' + k) ∷ [])
  order_behind h l =
      compare-behind (chars w s o al) (chars w t o' bl) (subst₂ (λ (m n : ℕ). m < n) e (sym (length-chars w s o al)) h) (subst₂ (λ (m n : ℕ). m < n) e (sym (length-chars w t o' bl)) l)
      ∙ ap (λ (m : ℕ). compare (get_or (chars w s o al) m 0 ∷ []) (get_or (chars w t o' bl) m 0 ∷ [])) (sym e)
      ∙ ap₂ (λ (x y : ℕ). compare (x ∷ []) (y ∷ [])) (get_or-chars w s o al k h) (get_or-chars w t o' bl k l)

  pub order_ends : (k < al → k < bl → ⊥) → compare (chars w s o al) (chars w t o' bl) ≡ compare (al ∷ []) (bl ∷ [])
  order_ends d =
      compare-ends (chars w s o al) (chars w t o' bl) (λ h l. d (subst₂ (λ (m n : ℕ). m < n) (sym e) (length-chars w s o al) h) (subst₂ (λ (m n : ℕ). m < n) (sym e) (length-chars w t o' bl) l))
      ∙ ap₂ (λ (m n : ℕ). compare (m ∷ []) (n ∷ [])) (length-chars w s o al) (length-chars w t o' bl)
