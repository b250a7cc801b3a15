-- What stands at a place of a file, and behind it; the numbers and the blocks that stand there read back.
-- Assumes nothing.
use mathlib.Core.Bool.{Bool, true, false}
use mathlib.Core.List.{List, [], ◌∷◌, ◌++◌, append_assoc, reverse-reverse}
use mathlib.Core.Path.{◌≡◌, refl, sym, ap, ap₂, ◌∙◌}
use Prim.Native.Nat.{ℕ, suc, ◌+◌, ◌*◌, ◌^◌, ◌≤◌, ◌<◌}
use native.Mathlib.Nat.{mod-eq_of_lt}
use native.Mathlib.Omega.{arith}
use lib.ListN.{length, take, drop, length-append, length-drop}
use lib.Seq.{drop-drop, drop_at, take_at}
use Rattle.codes.specs.Words.{word, chars_of}
use Rattle.codes.proofs.WordLaws.{word-chars_of}
use Rattle.dna.specs.Numbers.{ordered, number_at}
use Rattle.fields.specs.Runs.{Run}
use Rattle.twobit.specs.Blocks.{blocks_from}
use Rattle.twobit.specs.Files.{spelled, each}
use Rattle.twobit.proofs.FileLaws.{length-spelled}
use Rattle.twobit.proofs.LaidLaws.{Laid}

-- an order twice is none
ordered-twice : (big : Bool) (bs : List ℕ) → ordered big (ordered big bs) ≡ bs
ordered-twice false bs = refl
ordered-twice true bs = reverse-reverse bs

module _ (file : List ℕ) where
  -- what stands behind n bytes
  pub behind : (p n : ℕ) (a rest : List ℕ) → length a ≡ n → drop p file ≡ a ++ rest → drop (p + n) file ≡ rest
  behind p n a rest l e = sym (drop-drop n p file) ∙ ap (drop n) e ∙ drop_at a rest n l

  -- some bytes end within the file
  pub within : (p n : ℕ) (a rest : List ℕ) → length a ≡ n → 0 < n → drop p file ≡ a ++ rest → p + n ≤ length file
  within p n a rest l h e = let q : length (drop p file) ≡ length (a ++ rest) = ap length e in omega (arith, length-drop p file, length-append a rest)

  module _ (big : Bool) where
    -- a number
    pub number_back : (k n p : ℕ) (rest : List ℕ) → n < 2 ^ (8 * k) → drop p file ≡ spelled big k n ++ rest → number_at big k file p ≡ n
    unfolding number_at spelled
    number_back k n p rest h e =
        ap (λ (l : List ℕ). word 8 (ordered big (take k l))) e
        ∙ ap (λ (l : List ℕ). word 8 (ordered big l)) (take_at (spelled big k n) rest k (length-spelled big k n))
        ∙ ap (word 8) (ordered-twice big (chars_of 8 k n))
        ∙ word-chars_of 8 k n
        ∙ mod-eq_of_lt h

    -- blocks: their starts from byte p on, their sizes from byte q on
    module _ (p q : ℕ) (f : ℕ → Run) (is : (i : ℕ) → f i ≡ record { start = number_at big 4 file (p + 4 * i); size = number_at big 4 file (q + 4 * i) })
        (high : ℕ) (few : high < 2 ^ 32) where
      pub blocks-back : (rs : List Run) (low i : ℕ) (t u : List ℕ) → Laid low high rs → drop (p + 4 * i) file ≡ each big (λ r. r.start) rs ++ t
          → drop (q + 4 * i) file ≡ each big (λ r. r.size) rs ++ u → blocks_from f i (length rs) ≡ rs
      unfolding blocks_from each
      blocks-back [] low i t u h d e = refl
      blocks-back (r ∷ rs) low i t u h d e =
          let a : List ℕ = each big (λ r. r.start) rs ++ t in
          let b : List ℕ = each big (λ r. r.size) rs ++ u in
          let da : drop (p + 4 * i) file ≡ spelled big 4 r.start ++ a = d ∙ append_assoc (spelled big 4 r.start) (each big (λ r. r.start) rs) t in
          let eb : drop (q + 4 * i) file ≡ spelled big 4 r.size ++ b = e ∙ append_assoc (spelled big 4 r.size) (each big (λ r. r.size) rs) u in
          let x : number_at big 4 file (p + 4 * i) ≡ r.start = number_back 4 r.start (p + 4 * i) a (omega arith) da in
          let y : number_at big 4 file (q + 4 * i) ≡ r.size = number_back 4 r.size (q + 4 * i) b (omega arith) eb in
          let pn : p + 4 * i + 4 ≡ p + 4 * suc i = omega arith in
          let qn : q + 4 * i + 4 ≡ q + 4 * suc i = omega arith in
          ap₂ (λ (r : Run) (l : List Run). r ∷ l) (is i ∙ ap₂ (λ (s n : ℕ). record { start = s; size = n }) x y)
          (blocks-back rs (r.start + r.size) (suc i) t u h.1.1
          (ap (λ (n : ℕ). drop n file) (sym pn) ∙ behind (p + 4 * i) 4 (spelled big 4 r.start) a (length-spelled big 4 r.start) da)
          (ap (λ (n : ℕ). drop n file) (sym qn) ∙ behind (q + 4 * i) 4 (spelled big 4 r.size) b (length-spelled big 4 r.size) eb))
