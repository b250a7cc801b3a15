-- The runs of flags as blocks: they lie inside, one behind the other, and what lies under them are the set flags.
-- Assumes nothing.
use mathlib.Core.Bool.{Bool, true, false, not}
use mathlib.Core.List.{List, [], ◌∷◌}
use mathlib.Core.Path.{◌≡◌, refl, sym, ap, ◌∙◌, subst}
use Prim.Native.Nat.{ℕ, zero, suc, ◌+◌, ◌≤◌, ◌<◌}
use native.Mathlib.Decide.{ℕ_discrete}
use native.Mathlib.Nat.{add-zero, zero-add, le_refl, le_trans}
use native.Mathlib.Omega.{arith}
use borrow.Author.Tests.{lt-ltb, le-ltb, le-leb, lt-leb, eq-eqb, ne_eqb}
use lib.Dec.{eqb, leb, ltb}
use lib.ListN.{length, get_or}
use lib.Seq.{ext_get_or}
use Rattle.codes.specs.Codes.{pick, tab}
use Rattle.codes.proofs.TabLaws.{length-tab, get_or-tab, Below-get_or}
use Rattle.codes.proofs.WidthLaws.{ltb-eq}
use Rattle.codes.proofs.WordLaws.{Below}
use Rattle.fields.specs.Runs.{Run, joined, runs_from, runs}
use Rattle.twobit.specs.Blocks.{end, all_inside, apart, under, flag_under}
use Rattle.twobit.proofs.BlockLaws.{Between, clear-below}

-- one block behind the other, from `low` on and up to `high`
abbrev pub Laid : ℕ → ℕ → List Run → Type 0
Laid low high [] = Unit {0}
Laid low high (r ∷ rs) = (low ≤ r.start) × ((end r ≤ high) × Laid (end r) high rs)

-- a lower bound serves too
laid_lower : (k low high : ℕ) (rs : List Run) → k ≤ low → Laid low high rs → Laid k high rs
laid_lower k low high [] l h = tt
laid_lower k low high (r ∷ rs) l h = (le_trans l h.0, h.1)

-- they are inside
pub laid_inside : (low high : ℕ) (rs : List Run) → Laid low high rs → all_inside high rs ≡ true
unfolding all_inside
laid_inside low high [] h = refl
laid_inside low high (r ∷ rs) h = rw (le-leb (end r) high h.1.0) (laid_inside (end r) high rs h.1.1)

-- they lie between the bounds
laid_between : (k low high : ℕ) (rs : List Run) → k ≤ low → Laid low high rs → Between k high rs
laid_between k low high [] l h = tt
laid_between k low high (r ∷ rs) l h = ((λ p. (le_trans l h.0, h.1.0)), laid_between k (end r) high rs (omega arith) h.1.1)

-- no two share a position
pub laid_apart : (low high : ℕ) (rs : List Run) → Laid low high rs → apart rs ≡ true
unfolding apart
laid_apart low high [] h = refl
laid_apart low high (r ∷ rs) h =
    rw (clear-below r (end r) high rs (le_refl (end r)) (laid_between (end r) (end r) high rs (le_refl (end r)) h.1.1)) (laid_apart (end r) high rs h.1.1)

-- nothing before the bound is under them
under-before : (low high : ℕ) (rs : List Run) (p : ℕ) → p < low → Laid low high rs → under rs p ≡ false
unfolding under
under-before low high [] p l h = refl
under-before low high (r ∷ rs) p l h = rw (lt-leb r.start p (omega arith)) (under-before (end r) high rs p (omega arith) h.1.1)

-- ---- a set flag in front of runs

-- they stay one behind the other
joined-laid : (i high : ℕ) (rs : List Run) → suc i ≤ high → Laid (suc i) high rs → Laid i high (joined i rs)
joined-laid i high [] l h = (le_refl i, (omega arith, tt))
joined-laid i high (r ∷ rs) l h =
    elim (ℕ_discrete r.start (suc i)) [
      | yes e ↦
          let q : end r ≡ i + suc r.size = omega arith in
          rw (eq-eqb r.start (suc i) e) (le_refl i, (omega (arith, h.1.0), subst (λ (n : ℕ). Laid n high rs) q h.1.1))
      | no n ↦ rw (ne_eqb r.start (suc i) n) (le_refl i, (omega arith, (omega (arith, h.0), h.1)))
    ]

-- its position is under them
under-here : (i : ℕ) (rs : List Run) → under (joined i rs) i ≡ true
unfolding under
under-here i [] = rw (le-leb i i (le_refl i), lt-ltb i (i + 1) (omega arith))
under-here i (r ∷ rs) =
    elim (ℕ_discrete r.start (suc i)) [
      | yes e ↦ rw (eq-eqb r.start (suc i) e, le-leb i i (le_refl i), lt-ltb i (i + suc r.size) (omega arith))
      | no n ↦ rw (ne_eqb r.start (suc i) n, le-leb i i (le_refl i), lt-ltb i (i + 1) (omega arith))
    ]

-- those behind it are as before
under-behind : (i : ℕ) (rs : List Run) (p : ℕ) → i < p → under (joined i rs) p ≡ under rs p
unfolding under
under-behind i [] p h = rw (le-leb i p (omega arith), le-ltb p (i + 1) (omega arith))
under-behind i (r ∷ rs) p h =
    elim (ℕ_discrete r.start (suc i)) [
      | yes e ↦
          let a : leb r.start p ≡ true = le-leb r.start p (omega arith) in
          let b : ltb p (i + suc r.size) ≡ ltb p (r.start + r.size) = ltb-eq p (i + suc r.size) p (r.start + r.size) (λ l. omega arith) (λ l. omega arith) in
          rw (eq-eqb r.start (suc i) e, le-leb i p (omega arith), a, b)
      | no n ↦ rw (ne_eqb r.start (suc i) n, le-leb i p (omega arith), le-ltb p (i + 1) (omega arith))
    ]

-- ---- the runs of flags

-- they lie one behind the other
runs_laid : (i : ℕ) (fs : List ℕ) → Laid i (i + length fs) (runs_from i fs)
unfolding runs_from
runs_laid i [] = tt
runs_laid i (f ∷ fs) =
    let q : suc i + length fs ≡ i + suc (length fs) = omega arith in
    let h : Laid (suc i) (i + suc (length fs)) (runs_from (suc i) fs) = subst (λ (n : ℕ). Laid (suc i) n (runs_from (suc i) fs)) q (runs_laid (suc i) fs) in
    elim (ℕ_discrete f 0) [
      | yes e ↦ rw (eq-eqb f 0 e) (laid_lower i (suc i) (i + suc (length fs)) (runs_from (suc i) fs) (omega arith) h)
      | no n ↦ rw (ne_eqb f 0 n) (joined-laid i (i + suc (length fs)) (runs_from (suc i) fs) (omega arith) h)
    ]

pub all_laid : (fs : List ℕ) → Laid 0 (length fs) (runs fs)
all_laid fs = subst (λ (n : ℕ). Laid 0 n (runs fs)) (zero-add (length fs)) (runs_laid 0 fs)

-- they are not more than the flags
joined-few : (i : ℕ) (rs : List Run) → length (joined i rs) ≤ suc (length rs)
joined-few i [] = omega arith
joined-few i (r ∷ rs) = elim (ℕ_discrete r.start (suc i)) [ yes e ↦ rw (eq-eqb r.start (suc i) e) (omega arith) | no n ↦ rw (ne_eqb r.start (suc i) n) (omega arith) ]

pub runs_few : (i : ℕ) (fs : List ℕ) → length (runs_from i fs) ≤ length fs
unfolding runs_from
runs_few i [] = omega arith
runs_few i (f ∷ fs) =
    elim (ℕ_discrete f 0) [
      | yes e ↦ rw (eq-eqb f 0 e) (omega (arith, runs_few (suc i) fs))
      | no n ↦ rw (ne_eqb f 0 n) (omega (arith, runs_few (suc i) fs, joined-few i (runs_from (suc i) fs)))
    ]

-- under them are the set flags
under-runs : (i : ℕ) (fs : List ℕ) (j : ℕ) → under (runs_from i fs) (i + j) ≡ not (eqb (get_or fs j 0) 0)
unfolding runs_from under
under-runs i [] j = refl
under-runs i (f ∷ fs) zero =
    elim (ℕ_discrete f 0) [
      | yes e ↦ rw (add-zero i, eq-eqb f 0 e) (under-before (suc i) (suc i + length fs) (runs_from (suc i) fs) i (omega arith) (runs_laid (suc i) fs))
      | no n ↦ rw (add-zero i, ne_eqb f 0 n) (under-here i (runs_from (suc i) fs))
    ]
under-runs i (f ∷ fs) (suc j) =
    let q : i + suc j ≡ suc i + j = omega arith in
    let h : under (runs_from (suc i) fs) (i + suc j) ≡ not (eqb (get_or fs j 0) 0) = ap (under (runs_from (suc i) fs)) q ∙ under-runs (suc i) fs j in
    elim (ℕ_discrete f 0) [
      | yes e ↦ rw (eq-eqb f 0 e) h
      | no n ↦ rw (ne_eqb f 0 n) (under-behind i (runs_from (suc i) fs) (i + suc j) (omega arith) ∙ h)
    ]

-- a flag is 0 or 1
flag_is : (f : ℕ) → f < 2 → pick (not (eqb f 0)) 1 0 ≡ f
flag_is f l = elim (ℕ_discrete f 0) [ yes e ↦ rw (eq-eqb f 0 e) (sym e) | no n ↦ rw (ne_eqb f 0 n) (omega arith) ]

-- so the flags read back
pub flag-back : (fs : List ℕ) → Below 1 fs → (j : ℕ) → flag_under (runs fs) j ≡ get_or fs j 0
unfolding flag_under
flag-back fs h j =
    ap (λ (b : Bool). pick b 1 0) (ap (under (runs fs)) (sym (zero-add j)) ∙ under-runs 0 fs j) ∙ flag_is (get_or fs j 0) (Below-get_or 1 fs h j)

pub flags_back : (fs : List ℕ) → Below 1 fs → tab (length fs) (flag_under (runs fs)) ≡ fs
flags_back fs h =
    ext_get_or 0 (tab (length fs) (flag_under (runs fs))) fs (length-tab (length fs) (flag_under (runs fs)))
    (λ i l. get_or-tab (length fs) (flag_under (runs fs)) i (subst (λ (n : ℕ). i < n) (length-tab (length fs) (flag_under (runs fs))) l) ∙ flag-back fs h i)
