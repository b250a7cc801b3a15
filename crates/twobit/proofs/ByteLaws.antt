-- The parts of a file are lists of bytes.
-- Assumes nothing.
use mathlib.Core.Bool.{Bool}
use mathlib.Core.List.{List, [], ◌∷◌, ◌++◌, map, reverse}
use mathlib.Core.Path.{◌∙◌, subst}
use Prim.Native.Nat.{ℕ, ◌+◌, ◌*◌, ◌^◌, ◌≤◌, ◌<◌}
use native.Mathlib.Omega.{arith}
use lib.ListN.{length, get_or, length-reverse}
use Rattle.codes.specs.Codes.{up, tab}
use Rattle.codes.specs.Words.{word, chars_of}
use Rattle.codes.proofs.TabLaws.{length-tab, Below-tab, Below-get_or}
use Rattle.codes.proofs.WordLaws.{Below, Below-append, Below-reverse, chars_of-fit, word_lt}
use Rattle.dna.specs.Dna.{dna, high_first, exchanged, under_t}
use Rattle.fields.specs.Runs.{Run, runs}
use Rattle.twobit.specs.Files.{spelled, each, record_of, entry_of, header_of, signature}
use Rattle.twobit.proofs.BaseLaws.{Below-exchanged}
use Rattle.dna.proofs.NumberLaws.{Below-ordered}

-- a number, and a number of each run
Below-spelled : (big : Bool) (k n : ℕ) → Below 8 (spelled big k n)
unfolding spelled
Below-spelled big k n = Below-ordered big (chars_of 8 k n) (chars_of-fit 8 k n)

Below-each : (big : Bool) (f : Run → ℕ) (rs : List Run) → Below 8 (each big f rs)
unfolding each
Below-each big f [] = tt
Below-each big f (r ∷ rs) = Below-append 8 (spelled big 4 (f r)) (each big f rs) (Below-spelled big 4 (f r)) (Below-each big f rs)

-- four characters of two bits
Below-high : (cs : List ℕ) → Below 2 cs → Below 8 (high_first cs)
unfolding high_first
Below-high cs h = Below-tab 8 (up 2 (length cs)) (λ b. word 2 (reverse (four b))) byte
  where
    four : ℕ → List ℕ
    four b = tab 4 (λ k. get_or cs (b * 4 + k) 0)

    byte : (b : ℕ) → word 2 (reverse (four b)) < 2 ^ 8
    byte b =
        subst (λ (n : ℕ). word 2 (reverse (four b)) < 2 ^ (2 * n)) (length-reverse (four b) ∙ length-tab 4 (λ k. get_or cs (b * 4 + k) 0))
        (word_lt 2 (reverse (four b)) (Below-reverse 2 (four b) (Below-tab 2 4 (λ k. get_or cs (b * 4 + k) 0) (λ k. Below-get_or 2 cs h (b * 4 + k)))))

-- the packed bases
Below-dna : (cs fs : List ℕ) → Below 8 (dna cs fs)
unfolding dna
Below-dna cs fs = Below-high (map exchanged (under_t cs fs)) (Below-exchanged (under_t cs fs))

-- the header, an entry of the index, a record
pub Below-header : (big : Bool) (version n : ℕ) → Below 8 (header_of big version n)
unfolding header_of
Below-header big version n =
    let a : ℕ → List ℕ = spelled big 4 in
    let b : (m : ℕ) → Below 8 (a m) = Below-spelled big 4 in
    Below-append 8 (a signature) (a version ++ (a n ++ a 0)) (b signature)
    (Below-append 8 (a version) (a n ++ a 0) (b version) (Below-append 8 (a n) (a 0) (b n) (b 0)))

pub Below-entry : (big : Bool) (k : ℕ) (name : List ℕ) (at : ℕ) → length name ≤ 255 → Below 8 name → Below 8 (entry_of big k name at)
unfolding entry_of
Below-entry big k name at l h = (omega arith, Below-append 8 name (spelled big k at) h (Below-spelled big k at))

pub Below-record : (big : Bool) (cs fs : List ℕ) → Below 8 (record_of big cs fs)
unfolding record_of
Below-record big cs fs =
    let a : ℕ → List ℕ = spelled big 4 in
    let b : (m : ℕ) → Below 8 (a m) = Below-spelled big 4 in
    let starts : List ℕ = each big (λ r. r.start) (runs fs) in
    let sizes : List ℕ = each big (λ r. r.size) (runs fs) in
    Below-append 8 (a (length fs)) (a (length (runs fs)) ++ (starts ++ (sizes ++ (a 0 ++ (a 0 ++ dna cs fs))))) (b (length fs))
    (Below-append 8 (a (length (runs fs))) (starts ++ (sizes ++ (a 0 ++ (a 0 ++ dna cs fs)))) (b (length (runs fs)))
    (Below-append 8 starts (sizes ++ (a 0 ++ (a 0 ++ dna cs fs))) (Below-each big (λ r. r.start) (runs fs))
    (Below-append 8 sizes (a 0 ++ (a 0 ++ dna cs fs)) (Below-each big (λ r. r.size) (runs fs))
    (Below-append 8 (a 0) (a 0 ++ dna cs fs) (b 0) (Below-append 8 (a 0) (dna cs fs) (b 0) (Below-dna cs fs))))))
