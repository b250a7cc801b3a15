-- The packed bases read back, with code 3 under each set flag.
-- Assumes nothing.
use mathlib.Core.List.{List, [], ◌∷◌, ◌++◌, map, reverse}
use mathlib.Core.Path.{◌≡◌, refl, sym, ap, ◌∙◌}
use Prim.Native.Nat.{ℕ, zero, suc, ◌+◌, ◌-◌, ◌*◌, ◌/◌, ◌%◌, ◌^◌, ◌<◌}
use native.Mathlib.Decide.{ℕ_discrete}
use native.Mathlib.Nat.{div-add-mod'}
use native.Mathlib.Omega.{arith}
use borrow.Author.Tests.{eq-eqb, ne_eqb}
use lib.Dec.{eqb, lit<}
use lib.ListN.{length, get_or, drop, length-map, get_or-append}
use lib.Seq.{get_or-drop}
use Rattle.codes.specs.Codes.{up, pick, tab}
use Rattle.codes.specs.Words.{word}
use Rattle.codes.proofs.TabLaws.{length-tab, get_or-tab, tab-ext, Below-tab, Below-get_or, word_at}
use Rattle.codes.proofs.WordLaws.{Below, Below-reverse}
use Rattle.dna.specs.Dna.{exchanged, high_first, under_t, dna, base_at, bases_at}
use Rattle.twobit.proofs.FileLaws.{length-dna}
use Rattle.dna.proofs.NumberLaws.{get_d_reverse}

-- an element of a list through a function
get_d_map : (f : ℕ → ℕ) (l : List ℕ) (i : ℕ) → i < length l → get_or (map f l) i 0 ≡ f (get_or l i 0)
get_d_map f [] i h = absurd (omega arith)
get_d_map f (x ∷ l) zero h = refl
get_d_map f (x ∷ l) (suc i) h = get_d_map f l i (omega arith)

-- exchanged twice, a code is as it was
exchanged-twice : (c : ℕ) → c < 4 → exchanged (exchanged c) ≡ c
exchanged-twice zero h = refl
exchanged-twice (suc zero) h = refl
exchanged-twice (suc (suc zero)) h = refl
exchanged-twice (suc (suc (suc zero))) h = refl
exchanged-twice (suc (suc (suc (suc c)))) h = absurd (omega arith)

-- exchanged, each is a code of two bits
exchanged-lt : (c : ℕ) → exchanged c < 4
exchanged-lt c = Below-get_or 2 (2 ∷ 1 ∷ 0 ∷ 3 ∷ []) (lit< tt, (lit< tt, (lit< tt, (lit< tt, tt)))) c

pub Below-exchanged : (l : List ℕ) → Below 2 (map exchanged l)
Below-exchanged [] = tt
Below-exchanged (c ∷ l) = (exchanged-lt c, Below-exchanged l)

-- pair 3 - k of four pairs, the first highest
pair_back : (g : ℕ → ℕ) → ((i : ℕ) → g i < 4) → (k : ℕ) → k < 4 → word 2 (reverse (tab 4 g)) / 2 ^ (2 * (3 - k)) % 4 ≡ g k
pair_back g h k l =
    let q : length (tab 4 g) - 1 - (3 - k) ≡ k = omega (arith, length-tab 4 g) in
    word_at 2 (reverse (tab 4 g)) (Below-reverse 2 (tab 4 g) (Below-tab 2 4 g h)) (3 - k)
    ∙ get_d_reverse (tab 4 g) (3 - k) (omega (arith, length-tab 4 g))
    ∙ ap (λ (n : ℕ). get_or (tab 4 g) n 0) q
    ∙ get_or-tab 4 g k l

-- character i of those packed four to a byte
packed-back : (cs : List ℕ) → Below 2 cs → (i : ℕ) → i < length cs → get_or (high_first cs) (i / 4) 0 / 2 ^ (2 * (3 - i % 4)) % 4 ≡ get_or cs i 0
unfolding high_first
packed-back cs h i l =
    ap (λ (x : ℕ). x / 2 ^ (2 * (3 - i % 4)) % 4) (get_or-tab (up 2 (length cs)) (λ b. word 2 (reverse (tab 4 (λ k. get_or cs (b * 4 + k) 0)))) (i / 4) (omega arith))
    ∙ pair_back (λ k. get_or cs (i / 4 * 4 + k) 0) (λ k. Below-get_or 2 cs h (i / 4 * 4 + k)) (i % 4) (omega arith)
    ∙ ap (λ (n : ℕ). get_or cs n 0) (div-add-mod' i 4)

-- code 3 under each set flag, else the base itself
abbrev pub under_three : List ℕ → List ℕ → List ℕ
under_three cs fs = tab (length cs) (λ i. pick (eqb (get_or fs i 0) 0) (get_or cs i 0) 3)

module _ (file : List ℕ) (d : ℕ) (cs fs rest : List ℕ) (e : drop d file ≡ dna cs fs ++ rest) where
  -- the code of base i
  code-back : (i : ℕ) → i < length cs → get_or file (d + i / 4) 0 / 2 ^ (2 * (3 - i % 4)) % 4 ≡ exchanged (pick (eqb (get_or fs i 0) 0) (get_or cs i 0) 2)
  unfolding dna
  code-back i l =
      let u : ℕ → ℕ = λ i. pick (eqb (get_or fs i 0) 0) (get_or cs i 0) 2 in
      let m : List ℕ = map exchanged (under_t cs fs) in
      let long : length (under_t cs fs) ≡ length cs = length-tab (length cs) u in
      let all : length m ≡ length (under_t cs fs) = length-map (under_t cs fs) exchanged in
      let bytes : length (dna cs fs) ≡ up 2 (length cs) = length-dna cs fs in
      ap (λ (x : ℕ). x / 2 ^ (2 * (3 - i % 4)) % 4)
      (sym (get_or-drop d file (i / 4) 0) ∙ ap (λ (l : List ℕ). get_or l (i / 4) 0) e ∙ get_or-append (dna cs fs) rest 0 (i / 4) (omega arith))
      ∙ packed-back m (Below-exchanged (under_t cs fs)) i (omega arith)
      ∙ get_d_map exchanged (under_t cs fs) i (omega arith)
      ∙ ap exchanged (get_or-tab (length cs) u i l)

  -- a base without a flag
  base_back : Below 2 cs → (i : ℕ) → i < length cs → get_or fs i 0 ≡ 0 → base_at file d i ≡ get_or cs i 0
  unfolding base_at
  base_back h i l z =
      ap exchanged (code-back i l ∙ ap (λ (f : ℕ). exchanged (pick (eqb f 0) (get_or cs i 0) 2)) z) ∙ exchanged-twice (get_or cs i 0) (Below-get_or 2 cs h i)

  -- all bases, where the flags are known
  pub bases_back : Below 2 cs → (n : ℕ) (f : ℕ → ℕ) → n ≡ length cs → ((i : ℕ) → f i ≡ get_or fs i 0) → bases_at file d n f ≡ under_three cs fs
  unfolding bases_at
  bases_back h n f q k =
      ap (λ (n : ℕ). tab n (λ i. pick (eqb (f i) 0) (base_at file d i) 3)) q
      ∙ tab-ext (length cs) (λ i. pick (eqb (f i) 0) (base_at file d i) 3) (λ i. pick (eqb (get_or fs i 0) 0) (get_or cs i 0) 3)
      (λ i l.
      elim (ℕ_discrete (get_or fs i 0) 0) [
        | yes z ↦ rw (k i, eq-eqb (get_or fs i 0) 0 z) (base_back h i l z)
        | no z ↦ rw (k i, ne_eqb (get_or fs i 0) 0 z)
      ])
