-- Runs of flags: how many flags from the first on are v, by words and by parts of a list, and the runs that a list begins with.
-- Assumes nothing.
use mathlib.Core.List.{List, [], ◌∷◌, ◌++◌}
use mathlib.Core.Path.{◌≡◌, refl, sym, ap, ap₂, ◌∙◌, subst}
use Prim.Native.Nat.{ℕ, zero, suc, ◌+◌, ◌-◌, ◌*◌, ◌/◌, ◌%◌, ◌^◌, ◌≤◌, ◌<◌, min}
use native.Mathlib.Decide.{ℕ_discrete}
use native.Mathlib.Nat.{add-zero, zero-add, one-mul, mul_assoc, div-add-mod', pow-suc, le_refl, le_of_eq, le_of_lt, add-sub_of_le, min-zero, zero-min, suc-min-suc, min-eq_left, min-eq_right}
use native.Mathlib.Omega.{arith}
use borrow.Author.Tests.{eq-eqb, ne_eqb}
use lib.Count.{count_trailing_zeros}
use lib.Dec.{eqb}
use lib.ListN.{length, drop, length-drop, drop_of_length-le}
use lib.Seq.{drop-drop, drop_at}
use Rattle.codes.specs.Codes.{pick, chars}
use Rattle.codes.specs.Words.{word}
use Rattle.codes.proofs.CharLaws.{length-chars, chars-append, chars-fit}
use Rattle.codes.proofs.FieldLaws.{word-chars, mod_low}
use Rattle.codes.specs.Widths.{width_1}
use Rattle.codes.proofs.WidthLaws.{below_or}
use Rattle.codes.proofs.WordLaws.{Below, Below-drop}
use Rattle.fields.specs.Runs.{Run, joined, runs_from, leading}

-- one flag more in front: it is v, or it is not
pub leading-same : (v f : ℕ) (fs : List ℕ) → f ≡ v → leading v (f ∷ fs) ≡ suc (leading v fs)
unfolding leading
leading-same v f fs e = rw (eq-eqb f v e)

pub leading-other : (v f : ℕ) (fs : List ℕ) → (f ≡ v → ⊥) → leading v (f ∷ fs) ≡ 0
unfolding leading
leading-other v f fs n = rw (ne_eqb f v n)

-- they are not more than all
pub leading_le : (v : ℕ) (fs : List ℕ) → leading v fs ≤ length fs
unfolding leading
leading_le v [] = omega arith
leading_le v (f ∷ fs) = elim (ℕ_discrete f v) [ yes e ↦ omega (arith, leading-same v f fs e, leading_le v fs) | no n ↦ omega (arith, leading-other v f fs n) ]

-- flags that are all v go on into those behind them
pub leading-all : (v : ℕ) (a b : List ℕ) → leading v a ≡ length a → leading v (a ++ b) ≡ length a + leading v b
unfolding leading
leading-all v [] b h = sym (zero-add (leading v b))
leading-all v (f ∷ a) b h =
    elim (ℕ_discrete f v) [
      | yes e ↦ leading-same v f (a ++ b) e ∙ omega (arith, leading-all v a b (omega (arith, h, leading-same v f a e)))
      | no n ↦ absurd (omega (arith, h, leading-other v f a n))
    ]

-- and where one is not v, those behind it do not count
pub leading-some : (v : ℕ) (a b : List ℕ) → leading v a < length a → leading v (a ++ b) ≡ leading v a
unfolding leading
leading-some v [] b h = absurd (omega arith)
leading-some v (f ∷ a) b h =
    elim (ℕ_discrete f v) [
      | yes e ↦ leading-same v f (a ++ b) e ∙ ap suc (leading-some v a b (omega (arith, h, leading-same v f a e))) ∙ sym (leading-same v f a e)
      | no n ↦ leading-other v f (a ++ b) n ∙ sym (leading-other v f a n)
    ]

-- behind the flags that are v the next one is not
pub leading-rest : (v : ℕ) (fs : List ℕ) → leading v (drop (leading v fs) fs) ≡ 0
unfolding leading
leading-rest v [] = refl
leading-rest v (f ∷ fs) =
    elim (ℕ_discrete f v) [
      | yes e ↦ ap (λ (k : ℕ). leading v (drop k (f ∷ fs))) (leading-same v f fs e) ∙ leading-rest v fs
      | no n ↦ ap (λ (k : ℕ). leading v (drop k (f ∷ fs))) (leading-other v f fs n) ∙ leading-other v f fs n
    ]

-- the bits of y from the lowest on are 0 where the flags are v, and 1 where they are not
abbrev Marks : ℕ → List ℕ → ℕ → Type 0
Marks v [] y = Unit {0}
Marks v (f ∷ fs) y = (y % 2 ≡ pick (eqb f v) 0 1) × Marks v fs (y / 2)

-- so the zeros below the lowest set bit count them
leading-marks : (v k : ℕ) (fs : List ℕ) (y : ℕ) → length fs ≤ k → Marks v fs y → leading v fs ≡ min (count_trailing_zeros k y) (length fs)
unfolding leading count_trailing_zeros
leading-marks v k [] y l h = sym (min-zero (count_trailing_zeros k y))
leading-marks v zero (f ∷ fs) y l h = absurd (omega arith)
leading-marks v (suc k) (f ∷ fs) y l h =
    elim (ℕ_discrete f v) [
      | yes e ↦ rw (h.0, eq-eqb f v e) (ap suc (leading-marks v k fs (y / 2) (omega arith) h.1) ∙ sym (suc-min-suc (count_trailing_zeros k (y / 2)) (length fs)))
      | no n ↦ rw (h.0, ne_eqb f v n) (sym (zero-min (suc (length fs))))
    ]

-- a flag differs from 0 by itself, and from 1 by what it lacks
differs_0 : (f : ℕ) → f < 2 → pick (eqb f 0) 0 1 ≡ f
differs_0 f l = elim (ℕ_discrete f 0) [ yes e ↦ rw (eq-eqb f 0 e) (sym e) | no n ↦ rw (ne_eqb f 0 n) (omega arith) ]

differs_1 : (f : ℕ) → f < 2 → pick (eqb f 1) 0 1 ≡ 1 - f
differs_1 f l = elim (ℕ_discrete f 1) [ yes e ↦ rw (eq-eqb f 1 e) (omega arith) | no n ↦ rw (ne_eqb f 1 n) (omega arith) ]

-- a multiple of a power of two is twice that of the one before
halves : (q n : ℕ) → q * 2 ^ suc n ≡ q * 2 ^ n * 2
halves q n = ap (λ (x : ℕ). q * x) (pow-suc 2 n) ∙ sym (mul_assoc q (2 ^ n) 2)

-- a number whose lowest bits are the flags marks those that are 0, its complement those that are 1
marks_0 : (fs : List ℕ) → Below 1 fs → (q x : ℕ) → x ≡ q * 2 ^ length fs + word 1 fs → Marks 0 fs x
unfolding word
marks_0 [] h q x e = tt
marks_0 (f ∷ fs) h q x e =
    let d = halves q (length fs) in (omega (arith, h.0, differs_0 f h.0, e, d), marks_0 fs h.1 q (x / 2) (omega (arith, h.0, e, d)))

marks_1 : (fs : List ℕ) → Below 1 fs → (q k y : ℕ) → length fs ≤ k → y + (q * 2 ^ length fs + word 1 fs) + 1 ≡ 2 ^ k → Marks 1 fs y
unfolding word
marks_1 [] h q k y l e = tt
marks_1 (f ∷ fs) h q zero y l e = absurd (omega arith)
marks_1 (f ∷ fs) h q (suc k) y l e =
    let d = halves q (length fs) in
    (omega (arith, h.0, differs_1 f h.0, e, d, pow-suc 2 k), marks_1 fs h.1 q k (y / 2) (omega arith) (omega (arith, h.0, e, d, pow-suc 2 k)))

-- one flag more in front of the runs of those behind it
runs_clear : (i f : ℕ) (fs : List ℕ) → f ≡ 0 → runs_from i (f ∷ fs) ≡ runs_from (suc i) fs
unfolding runs_from
runs_clear i f fs e = rw (eq-eqb f 0 e)

runs_set : (i f : ℕ) (fs : List ℕ) → (f ≡ 0 → ⊥) → runs_from i (f ∷ fs) ≡ joined i (runs_from (suc i) fs)
unfolding runs_from
runs_set i f fs n = rw (ne_eqb f 0 n)

-- no run begins before i
abbrev After : ℕ → List Run → Type 0
After i [] = Unit {0}
After i (r ∷ rs) = i ≤ r.start

-- and so none before an earlier place
after_less : (i : ℕ) (rs : List Run) → After (suc i) rs → After i rs
after_less i [] h = tt
after_less i (r ∷ rs) h = omega (arith, h)

-- a set flag at i begins a run there
joined-after : (i : ℕ) (rs : List Run) → After i (joined i rs)
joined-after i [] = omega arith
joined-after i (r ∷ rs) = elim (ℕ_discrete r.start (suc i)) [ yes e ↦ rw (eq-eqb r.start (suc i) e) (le_refl i) | no n ↦ rw (ne_eqb r.start (suc i) n) (le_refl i) ]

-- a set flag before a run that begins directly behind it, and before one that begins later
joined-next : (i n : ℕ) (rs : List Run) → joined i (record { start = suc i; size = n } ∷ rs) ≡ record { start = i; size = suc n } ∷ rs
joined-next i n rs = rw (eq-eqb (suc i) (suc i) refl)

joined-apart : (i : ℕ) (rs : List Run) → After (suc (suc i)) rs → joined i rs ≡ record { start = i; size = 1 } ∷ rs
joined-apart i [] h = refl
joined-apart i (r ∷ rs) h = rw (ne_eqb r.start (suc i) (λ e. absurd (omega (arith, h, e))))

-- runs begin where the list does, and later where its first flag is clear
runs_after : (i : ℕ) (fs : List ℕ) → After i (runs_from i fs)
unfolding runs_from
runs_after i [] = tt
runs_after i (f ∷ fs) =
    elim (ℕ_discrete f 0) [
      | yes e ↦ subst (After i) (sym (runs_clear i f fs e)) (after_less i (runs_from (suc i) fs) (runs_after (suc i) fs))
      | no n ↦ subst (After i) (sym (runs_set i f fs n)) (joined-after i (runs_from (suc i) fs))
    ]

runs_later : (i : ℕ) (fs : List ℕ) → Below 1 fs → leading 1 fs ≡ 0 → After (suc i) (runs_from i fs)
unfolding runs_from
runs_later i [] h z = tt
runs_later i (f ∷ fs) h z =
    elim (ℕ_discrete f 1) [
      | yes e ↦ absurd (omega (arith, z, leading-same 1 f fs e))
      | no n ↦ subst (After (suc i)) (sym (runs_clear i f fs (omega (arith, h.0)))) (runs_after (suc i) fs)
    ]

slide : (i m : ℕ) → suc i + m ≡ i + suc m
slide i m = omega arith

-- clear flags in front have no run
pub runs_skip : (i : ℕ) (fs : List ℕ) → runs_from i fs ≡ runs_from (i + leading 0 fs) (drop (leading 0 fs) fs)
unfolding runs_from leading
runs_skip i [] = refl
runs_skip i (f ∷ fs) =
    let to : ℕ → List Run = λ k. runs_from (i + k) (drop k (f ∷ fs)) in
    elim (ℕ_discrete f 0) [
      | yes e ↦ runs_clear i f fs e ∙ runs_skip (suc i) fs ∙ ap (λ (j : ℕ). runs_from j (drop (leading 0 fs) fs)) (slide i (leading 0 fs)) ∙ ap to (sym (leading-same 0 f fs e))
      | no n ↦ ap (λ (j : ℕ). runs_from j (f ∷ fs)) (sym (add-zero i)) ∙ ap to (sym (leading-other 0 f fs n))
    ]

-- the run that a list begins with
pub runs_first : (i : ℕ) (fs : List ℕ) → Below 1 fs → 0 < leading 1 fs
    → runs_from i fs ≡ record { start = i; size = leading 1 fs } ∷ runs_from (i + leading 1 fs) (drop (leading 1 fs) fs)
unfolding leading
runs_first i [] h l = absurd (omega arith)
runs_first i (f ∷ fs) h l =
    let m : ℕ = leading 1 fs in
    let to : ℕ → List Run = λ k. record { start = i; size = k } ∷ runs_from (i + k) (drop k (f ∷ fs)) in
    elim (ℕ_discrete f 1) [
      | no n ↦ absurd (omega (arith, l, leading-other 1 f fs n))
      | yes e ↦
          runs_set i f fs (λ z. absurd (omega arith))
          ∙ below_or 0 m
          (λ p. ap (joined i) (runs_first (suc i) fs h.1 p) ∙ joined-next i m _ ∙ ap (λ (j : ℕ). record { start = i; size = suc m } ∷ runs_from j (drop m fs)) (slide i m))
          (λ p.
          let z : m ≡ 0 = omega arith in
          joined-apart i (runs_from (suc i) fs) (runs_later (suc i) fs h.1 z)
          ∙ ap₂ (λ (j k : ℕ). record { start = i; size = suc k } ∷ runs_from j (drop k fs)) (omega arith) (sym z))
          ∙ ap to (sym (leading-same 1 f fs e))
    ]

-- flags that are not clear begin with a run
run-there : (fs : List ℕ) → Below 1 fs → 0 < length fs → leading 0 fs ≡ 0 → 0 < leading 1 fs
run-there [] h l z = absurd (omega arith)
run-there (f ∷ fs) h l z =
    elim (ℕ_discrete f 0) [
      | yes e ↦ absurd (omega (arith, z, leading-same 0 f fs e))
      | no n ↦ omega (arith, leading-same 1 f fs (omega (arith, h.0)))
    ]

-- clear flags alone have no run
pub runs_none : (i : ℕ) (fs : List ℕ) → leading 0 fs ≡ length fs → runs_from i fs ≡ []
unfolding runs_from
runs_none i fs e = runs_skip i fs ∙ ap (runs_from (i + leading 0 fs)) (drop_of_length-le fs (le_of_eq (sym e)))

-- the next run, and the flags behind it
pub runs_next : (i : ℕ) (fs : List ℕ) → Below 1 fs → leading 0 fs < length fs
    → let a : ℕ = leading 0 fs in
    let b : ℕ = leading 1 (drop a fs) in
    (1 ≤ b) × (runs_from i fs ≡ record { start = i + a; size = b } ∷ runs_from (i + a + b) (drop (a + b) fs))
runs_next i fs h l =
    let a : ℕ = leading 0 fs in
    let b : ℕ = leading 1 (drop a fs) in
    let fit : Below 1 (drop a fs) = Below-drop 1 a fs h in
    let some : 0 < b = run-there (drop a fs) fit (omega (arith, length-drop a fs)) (leading-rest 0 fs) in
    (some, runs_skip i fs ∙ runs_first (i + a) (drop a fs) fit some ∙ ap (λ (l : List ℕ). record { start = i + a; size = b } ∷ runs_from (i + a + b) l) (drop-drop b a fs))

module _ (s : List ℕ) where
  -- the flags of a view without the first k
  pub drop-chars : (o n k : ℕ) → k ≤ n → drop k (chars 1 s o n) ≡ chars 1 s (o + k) (n - k)
  drop-chars o n k l =
      ap (λ (m : ℕ). drop k (chars 1 s o m)) (sym (add-sub_of_le l))
      ∙ ap (drop k) (chars-append 1 s o k (n - k))
      ∙ drop_at (chars 1 s o k) (chars 1 s (o + k) (n - k)) k (length-chars 1 s o k)

  -- how many flags from p on are v, up to the place `to`
  abbrev pub same_to : ℕ → ℕ → ℕ → ℕ
  same_to v p to = leading v (chars 1 s p (to - p))

  -- they end at `to` at the latest
  pub same_within : (v p to : ℕ) → p ≤ to → p + same_to v p to ≤ to
  same_within v p to l = omega (arith, leading_le v (chars 1 s p (to - p)), length-chars 1 s p (to - p))

  -- where the first n are v, the others count too, and where they are not, they do not
  same_all : (v p n to : ℕ) → p + n ≤ to → leading v (chars 1 s p n) ≡ n → p + same_to v p to ≡ p + n + same_to v (p + n) to
  same_all v p n to l e =
      let cut : n + (to - (p + n)) ≡ to - p = omega arith in
      ap (λ (k : ℕ). p + leading v (chars 1 s p k)) (sym cut)
      ∙ ap (λ (l : List ℕ). p + leading v l) (chars-append 1 s p n (to - (p + n)))
      ∙ omega (arith, leading-all v (chars 1 s p n) (chars 1 s (p + n) (to - (p + n))) (e ∙ sym (length-chars 1 s p n)), length-chars 1 s p n)

  same_some : (v p n to : ℕ) → p + n ≤ to → leading v (chars 1 s p n) < n → same_to v p to ≡ leading v (chars 1 s p n)
  same_some v p n to l h =
      let cut : n + (to - (p + n)) ≡ to - p = omega arith in
      ap (λ (k : ℕ). leading v (chars 1 s p k)) (sym cut)
      ∙ ap (leading v) (chars-append 1 s p n (to - (p + n)))
      ∙ leading-some v (chars 1 s p n) (chars 1 s (p + n) (to - (p + n))) (subst (λ (k : ℕ). leading v (chars 1 s p n) < k) (sym (length-chars 1 s p n)) h)

  -- a word that begins with n flags shows how many of them are v: its lowest set bit for 0, its lowest clear bit for 1
  module _ (b : Below 8 s) (p n x : ℕ) (few : n ≤ 56) (e : x % 2 ^ 56 ≡ word 8 s / 2 ^ p % 2 ^ 56) where
    flags_word : x ≡ x / 2 ^ n * 2 ^ length (chars 1 s p n) + word 1 (chars 1 s p n)
    flags_word = sym (div-add-mod' x (2 ^ n)) ∙ ap₂ (λ (k y : ℕ). x / 2 ^ n * 2 ^ k + y) (sym (length-chars 1 s p n)) (sym low)
      where
        plain : word 8 s / 2 ^ (1 * p) % 2 ^ (1 * n) ≡ word 8 s / 2 ^ p % 2 ^ n
        plain = simp one-mul

        low : word 1 (chars 1 s p n) ≡ x % 2 ^ n
        low =
            word-chars width_1 s b p n
            ∙ plain
            ∙ sym (mod_low (word 8 s / 2 ^ p) n 56 few)
            ∙ ap (λ (y : ℕ). y % 2 ^ n) (sym e)
            ∙ mod_low x n 56 few

    fits : length (chars 1 s p n) ≤ 64
    fits = omega (arith, few, length-chars 1 s p n)

    word-marks : (v y : ℕ) → Marks v (chars 1 s p n) y → leading v (chars 1 s p n) ≡ min (count_trailing_zeros 64 y) n
    word-marks v y h = leading-marks v 64 (chars 1 s p n) y fits h ∙ ap (min (count_trailing_zeros 64 y)) (length-chars 1 s p n)

    pub zeros_0 : leading 0 (chars 1 s p n) ≡ min (count_trailing_zeros 64 x) n
    zeros_0 = word-marks 0 x (marks_0 (chars 1 s p n) (chars-fit 1 s p n) (x / 2 ^ n) x flags_word)

    pub zeros_1 : (y : ℕ) → y + x + 1 ≡ 2 ^ 64 → leading 1 (chars 1 s p n) ≡ min (count_trailing_zeros 64 y) n
    zeros_1 y h = word-marks 1 y (marks_1 (chars 1 s p n) (chars-fit 1 s p n) (x / 2 ^ n) 64 y fits (ap (λ (k : ℕ). y + k + 1) (sym flags_word) ∙ h))

  -- a loop over the flags from p on, n at a time, of which k are v
  module _ (v p n k to : ℕ) (l : p + n ≤ to) (e : leading v (chars 1 s p n) ≡ min k n) where
    pub same_found : k < n → p + same_to v p to ≡ p + k
    same_found h = let m : min k n ≡ k = min-eq_left (le_of_lt h) in omega (arith, e, m, same_some v p n to l (omega (arith, e, m)))

    pub same_on : n ≤ k → p + same_to v p to ≡ p + n + same_to v (p + n) to
    same_on h = same_all v p n to l (e ∙ min-eq_right h)

  -- at `to` there is none
  pub same_none : (v p to : ℕ) → to ≤ p → same_to v p to ≡ 0
  same_none v p to l = omega (arith, leading_le v (chars 1 s p (to - p)), length-chars 1 s p (to - p))

  -- a run from p on, with number i for p: it ends at q, and the next begins at r
  pub record Turn (i p q r to : ℕ) : Type 0 where
    pub some : p < q
    pub on : q ≤ r
    pub within : r ≤ to
    pub clear : same_to 0 r to ≡ 0
    pub run : runs_from i (chars 1 s p (to - p)) ≡ record { start = i; size = q - p } ∷ runs_from (i + (r - p)) (chars 1 s r (to - r))

  -- at `to` there is no run
  pub runs_over : (i p to : ℕ) → to ≤ p → runs_from i (chars 1 s p (to - p)) ≡ []
  runs_over i p to l = runs_none i (chars 1 s p (to - p)) (omega (arith, same_none 0 p to l, length-chars 1 s p (to - p)))

  -- clear flags are passed
  pub runs_passed : (i p r to : ℕ) → p ≤ to → r ≡ p + same_to 0 p to
      → (p ≤ r) × (r ≤ to) × (same_to 0 r to ≡ 0) × (runs_from i (chars 1 s p (to - p)) ≡ runs_from (i + (r - p)) (chars 1 s r (to - r)))
  runs_passed i p r to l e =
      let fs : List ℕ = chars 1 s p (to - p) in
      let a : ℕ = leading 0 fs in
      let d : a ≡ r - p = omega arith in
      let t : r ≤ to = omega (arith, same_within 0 p to l) in
      let rest : drop a fs ≡ chars 1 s r (to - r) = drop-chars p (to - p) a (omega arith) ∙ ap₂ (λ (j k : ℕ). chars 1 s j k) (sym e) (omega arith) in
      (omega arith, t, ap (leading 0) (sym rest) ∙ leading-rest 0 fs, runs_skip i fs ∙ ap₂ (λ (j : ℕ) (l : List ℕ). runs_from (i + j) l) d rest)

  -- a turn of a loop over the runs
  pub runs_turn : (i p q r to : ℕ) → p < to → same_to 0 p to ≡ 0 → q ≡ p + same_to 1 p to → r ≡ q + same_to 0 q to → Turn i p q r to
  runs_turn i p q r to l z eq er =
      let fs : List ℕ = chars 1 s p (to - p) in
      let b : ℕ = leading 1 fs in
      let d : b ≡ q - p = omega arith in
      let some : 0 < b = run-there fs (chars-fit 1 s p (to - p)) (omega (arith, length-chars 1 s p (to - p))) z in
      let t : q ≤ to = omega (arith, same_within 1 p to (le_of_lt l)) in
      let rest : drop b fs ≡ chars 1 s q (to - q) = drop-chars p (to - p) b (omega arith) ∙ ap₂ (λ (j k : ℕ). chars 1 s j k) (sym eq) (omega arith) in
      let h = runs_passed (i + (q - p)) q r to t er in record {
        some = omega arith;
        on = h.0;
        within = h.1;
        clear = h.2;
        run = runs_first i fs (chars-fit 1 s p (to - p)) some
            ∙ ap₂ (λ (j : ℕ) (l : List ℕ). record { start = i; size = j } ∷ runs_from (i + j) l) d rest
            ∙ ap (λ (l : List Run). record { start = i; size = q - p } ∷ l) (h.3 ∙ ap (λ (j : ℕ). runs_from j (chars 1 s r (to - r))) (omega (arith, h.0)));
      }
