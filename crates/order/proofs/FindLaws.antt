-- The laws of standing and of the least place: a text and a pattern by their characters, as functions of the place.
-- Assumes nothing.
use Rattle.std.specs.Prelude.{Some, None}
use mathlib.Core.Bool.{Bool, true, false, ◌&&◌}
use mathlib.Core.List.{List}
use mathlib.Core.Path.{◌≡◌, refl, sym, ap, ◌∙◌}
use Prim.Native.Nat.{ℕ, zero, suc, ◌+◌, ◌*◌, ◌/◌, ◌%◌, ◌^◌, ◌≤◌, ◌<◌, zero-le, suc-le-suc}
use native.Mathlib.Nat.{zero-add, suc-add, add_assoc, le_of_suc-le-suc, lt_of_lt_of_le, not-suc-le-zero}
use native.Mathlib.Omega.{arith}
use lib.Bits.{bit_xor, xor_mod, xor_self}
use lib.Dec.{eqb}
use borrow.Author.Tests.{eq-eqb, eqb-true}
use Rattle.codes.specs.Codes.{IsWidth, pick, char_at, tab, chars}
use Rattle.codes.specs.Words.{word}
use Rattle.codes.proofs.CharLaws.{get_or-chars, chars-ext}
use Rattle.codes.proofs.FieldLaws.{mod_low, word-chars}
use Rattle.codes.proofs.WordLaws.{Below}
use Rattle.order.specs.Order.{common, stands, one_on, place_of}
use Rattle.order.proofs.CommonLaws.{common-chars}
use Rattle.order.proofs.OrderLaws.{from_zero, common-same}

-- m characters g stand among n characters f at k
abbrev pub StandsAt : (ℕ → ℕ) → ℕ → (ℕ → ℕ) → ℕ → ℕ → Type 0
StandsAt f n g m k = (k + m ≤ n) × ((i : ℕ) → i < m → f (k + i) ≡ g i)

stands-all : (m n : ℕ) (f g : ℕ → ℕ) → m ≤ n → ((i : ℕ) → i < m → f i ≡ g i) → stands (tab m g) (tab n f) ≡ true
unfolding stands tab
stands-all zero n f g l h = refl
stands-all (suc m) zero f g l h = absurd (not-suc-le-zero l)
stands-all (suc m) (suc n) f g l h =
    rw (eq-eqb (g 0) (f 0) (sym (h 0 (suc-le-suc zero-le)))) (stands-all m n (λ i. f (suc i)) (λ i. g (suc i)) (le_of_suc-le-suc l) (λ i k. h (suc i) (suc-le-suc k)))

both_true : (a b : Bool) → a && b ≡ true → (a ≡ true) × (b ≡ true)
both_true true b e = (refl, e)
both_true false b e = let z : ◌≡◌ {A = ℕ} 0 1 = cc in absurd (omega arith)

stands-only : (m n : ℕ) (f g : ℕ → ℕ) → stands (tab m g) (tab n f) ≡ true → (m ≤ n) × ((i : ℕ) → i < m → f i ≡ g i)
unfolding stands tab
stands-only zero n f g e = (zero-le, λ i k. absurd (not-suc-le-zero k))
stands-only (suc m) zero f g e = let z : ◌≡◌ {A = ℕ} 0 1 = cc in absurd (omega arith)
stands-only (suc m) (suc n) f g e =
    let b = both_true (eqb (g 0) (f 0)) (stands (tab m (λ i. g (suc i))) (tab n (λ i. f (suc i)))) e in
    let r = stands-only m n (λ i. f (suc i)) (λ i. g (suc i)) b.1 in
    (suc-le-suc r.0, from_zero m (λ i. f i ≡ g i) (sym (eqb-true (g 0) (f 0) b.0)) r.1)

-- at the front
front : (m n : ℕ) (f g : ℕ → ℕ) → stands (tab m g) (tab n f) ≡ true → StandsAt f n g m 0
front m n f g e = let r = stands-only m n f g e in (rw zero-add r.0, λ i h. ap f (zero-add i) ∙ r.1 i h)

stands-not : (m n : ℕ) (f g : ℕ → ℕ) → (StandsAt f n g m 0 → ⊥) → stands (tab m g) (tab n f) ≡ false
stands-not m n f g h = cases (stands (tab m g) (tab n f)) refl
  where
    cases : (b : Bool) → stands (tab m g) (tab n f) ≡ b → stands (tab m g) (tab n f) ≡ false
    cases true e = absurd (h (front m n f g e))
    cases false e = e

stands-front : (m n : ℕ) (f g : ℕ → ℕ) → StandsAt f n g m 0 → stands (tab m g) (tab n f) ≡ true
stands-front m n f g s = stands-all m n f g (rw zero-add at s.0) (λ i h. ap f (sym (zero-add i)) ∙ s.1 i h)

-- one place on in a text is the place in the rest of it
on : (m n : ℕ) (f g : ℕ → ℕ) (k : ℕ) → StandsAt f (suc n) g m (suc k) → StandsAt (λ i. f (suc i)) n g m k
on m n f g k s = (omega (arith, s.0), λ i h. ap f (sym (suc-add k i)) ∙ s.1 i h)

back : (m n : ℕ) (f g : ℕ → ℕ) (k : ℕ) → StandsAt (λ i. f (suc i)) n g m k → StandsAt f (suc n) g m (suc k)
back m n f g k s = (omega (arith, s.0), λ i h. ap f (suc-add k i) ∙ s.1 i h)

-- the first place where a pattern stands is its place
place_at_lem : (k m n : ℕ) (f g : ℕ → ℕ) → StandsAt f n g m k → ((j : ℕ) → j < k → StandsAt f n g m j → ⊥) → place_of (tab m g) (tab n f) ≡ Some k
unfolding place_of tab
place_at_lem zero m zero f g s h = ap (λ (b : Bool). pick b (Some 0) None) (stands-front m zero f g s)
place_at_lem zero m (suc n) f g s h = ap (λ (b : Bool). pick b (Some 0) (one_on (place_of (tab m g) (tab n (λ i. f (suc i)))))) (stands-front m (suc n) f g s)
place_at_lem (suc k) m zero f g s h = absurd (omega (arith, s.0))
place_at_lem (suc k) m (suc n) f g s h =
    ap (λ (b : Bool). pick b (Some 0) (one_on (place_of (tab m g) (tab n (λ i. f (suc i)))))) (stands-not m (suc n) f g (h 0 (suc-le-suc zero-le)))
    ∙ ap one_on (place_at_lem k m n (λ i. f (suc i)) g (on m n f g k s) (λ j l z. h (suc j) (suc-le-suc l) (back m n f g j z)))

-- a pattern that stands nowhere has none
place_none : (m n : ℕ) (f g : ℕ → ℕ) → ((j : ℕ) → StandsAt f n g m j → ⊥) → place_of (tab m g) (tab n f) ≡ None
unfolding place_of tab
place_none m zero f g h = ap (λ (b : Bool). pick b (Some 0) None) (stands-not m zero f g (h 0))
place_none m (suc n) f g h =
    ap (λ (b : Bool). pick b (Some 0) (one_on (place_of (tab m g) (tab n (λ i. f (suc i)))))) (stands-not m (suc n) f g (h 0))
    ∙ ap one_on (place_none m n (λ i. f (suc i)) g (λ j z. h (suc j) (back m n f g j z)))

-- a text view and a pattern view: the pattern stands at k
module _ (w : ℕ) (t : List ℕ) (to tl : ℕ) (p : List ℕ) (po pl : ℕ) where
  abbrev pub Stands : ℕ → Type 0
  Stands k = StandsAt (λ i. char_at w t (to + i)) tl (λ i. char_at w p (po + i)) pl k

  -- what the text at k, as long as the pattern, has in common with it
  abbrev pub common_at : ℕ → ℕ
  common_at k = common (chars w t (to + k) pl) (chars w p po pl)

  pub stands-whole : (k : ℕ) → k + pl ≤ tl → pl ≤ common_at k → Stands k
  stands-whole k h l = (
    h,
    λ i m.
        sym (get_or-chars w t (to + k) pl i m ∙ ap (char_at w t) (add_assoc to k i))
        ∙ common-same (chars w t (to + k) pl) (chars w p po pl) i (lt_of_lt_of_le m l)
        ∙ get_or-chars w p po pl i m,
  )

  pub stands-short : (k : ℕ) → common_at k < pl → Stands k → ⊥
  stands-short k l s =
      let e = common-chars w t (to + k) pl p po pl pl (omega arith) (omega arith) (λ i m. ap (char_at w t) (add_assoc to k i) ∙ s.1 i m) (λ h _ _. omega arith) in
      omega (arith, e)

  -- where it stands, words of the text and of the pattern have the same bits, as many as the pattern has
  pub stands-bits : IsWidth w → Below 8 t → Below 8 p → (k x y n : ℕ) → x % 2 ^ 56 ≡ word 8 t / 2 ^ (w * (to + k)) % 2 ^ 56
      → y % 2 ^ 56 ≡ word 8 p / 2 ^ (w * po) % 2 ^ 56 → n ≤ w * pl → n ≤ 56 → Stands k → bit_xor x y % 2 ^ n ≡ 0
  stands-bits W bt bp k x y n ex ey l m s = xor_mod x y n ∙ ap (λ (z : ℕ). bit_xor z (y % 2 ^ n)) same ∙ xor_self (y % 2 ^ n)
    where
      chars-same : chars w t (to + k) pl ≡ chars w p po pl
      chars-same = chars-ext w t p (to + k) po pl (λ i h. ap (char_at w t) (add_assoc to k i) ∙ s.1 i h)

      views_same : word 8 t / 2 ^ (w * (to + k)) % 2 ^ n ≡ word 8 p / 2 ^ (w * po) % 2 ^ n
      views_same =
          sym (mod_low (word 8 t / 2 ^ (w * (to + k))) n (w * pl) l)
          ∙ ap (λ (z : ℕ). z % 2 ^ n) (sym (word-chars W t bt (to + k) pl) ∙ ap (word w) chars-same ∙ word-chars W p bp po pl)
          ∙ mod_low (word 8 p / 2 ^ (w * po)) n (w * pl) l

      low_of : (a b : ℕ) → a % 2 ^ 56 ≡ b % 2 ^ 56 → a % 2 ^ n ≡ b % 2 ^ n
      low_of a b e = sym (mod_low a n 56 m) ∙ ap (λ (z : ℕ). z % 2 ^ n) e ∙ mod_low b n 56 m

      same : x % 2 ^ n ≡ y % 2 ^ n
      same = low_of x (word 8 t / 2 ^ (w * (to + k))) ex ∙ views_same ∙ sym (low_of y (word 8 p / 2 ^ (w * po)) ey)

  pub found_at : (k : ℕ) → Stands k → ((j : ℕ) → j < k → Stands j → ⊥) → Some k ≡ place_of (chars w p po pl) (chars w t to tl)
  unfolding chars
  found_at k s h = sym (place_at_lem k pl tl (λ i. char_at w t (to + i)) (λ i. char_at w p (po + i)) s h)

  pub found_none : ((j : ℕ) → Stands j → ⊥) → None ≡ place_of (chars w p po pl) (chars w t to tl)
  unfolding chars
  found_none h = sym (place_none pl tl (λ i. char_at w t (to + i)) (λ i. char_at w p (po + i)) h)
