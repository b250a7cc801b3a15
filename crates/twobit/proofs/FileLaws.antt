-- The parts of a file: how many bytes each has.
-- Assumes nothing.
use mathlib.Core.Bool.{Bool}
use mathlib.Core.List.{List, [], ◌∷◌, ◌++◌, map, append_assoc}
use mathlib.Core.Path.{◌≡◌, refl, sym, ap, ap₂, ◌∙◌}
use Prim.Native.Nat.{ℕ, suc, ◌+◌, ◌*◌}
use native.Mathlib.Omega.{arith}
use lib.ListN.{length, length-append, length-map}
use Rattle.codes.specs.Codes.{up}
use Rattle.codes.specs.Words.{chars_of}
use Rattle.codes.proofs.TabLaws.{length-tab}
use Rattle.codes.proofs.WordLaws.{length-chars_of}
use Rattle.dna.specs.Dna.{dna, high_first, exchanged, under_t}
use Rattle.fields.specs.Runs.{Run, runs}
use Rattle.twobit.specs.Files.{spelled, each, record_of, record_size, entry_of, entry_size, header_of, header_size, signature, Sequence, index_of, records_of, names_size, index_end, file_of}
use Rattle.dna.proofs.NumberLaws.{length-ordered}

-- a number of k bytes
pub length-spelled : (big : Bool) (k n : ℕ) → length (spelled big k n) ≡ k
unfolding spelled
length-spelled big k n = length-ordered big (chars_of 8 k n) ∙ length-chars_of 8 k n

-- a number of each run
pub length-each : (big : Bool) (f : Run → ℕ) (rs : List Run) → length (each big f rs) ≡ 4 * length rs
unfolding each
length-each big f [] = refl
length-each big f (r ∷ rs) = length-append (spelled big 4 (f r)) (each big f rs) ∙ omega (arith, length-spelled big 4 (f r), length-each big f rs)

-- the packed bases
pub length-dna : (cs fs : List ℕ) → length (dna cs fs) ≡ up 2 (length cs)
unfolding dna high_first
length-dna cs fs =
    let t : List ℕ = map exchanged (under_t cs fs) in
    length-tab (up 2 (length t)) _ ∙ ap (up 2) (length-map (under_t cs fs) exchanged ∙ length-tab (length cs) _)

-- the header, an entry of the index, a record
pub length-header : (big : Bool) (version n : ℕ) → length (header_of big version n) ≡ header_size
unfolding header_of
length-header big version n =
    let a : ℕ → List ℕ = spelled big 4 in
    omega (
      arith,
      length-append (a signature) (a version ++ (a n ++ a 0)),
      length-append (a version) (a n ++ a 0),
      length-append (a n) (a 0),
      length-spelled big 4 signature,
      length-spelled big 4 version,
      length-spelled big 4 n,
      length-spelled big 4 0,
    )

pub length-entry : (big : Bool) (k : ℕ) (name : List ℕ) (at : ℕ) → length (entry_of big k name at) ≡ entry_size k (length name)
unfolding entry_of
length-entry big k name at = ap suc (length-append name (spelled big k at) ∙ ap (λ (m : ℕ). length name + m) (length-spelled big k at))

pub length-record : (big : Bool) (cs fs : List ℕ) → length cs ≡ length fs → length (record_of big cs fs) ≡ record_size fs
unfolding record_of record_size
length-record big cs fs e =
    let a : ℕ → List ℕ = spelled big 4 in
    let starts : List ℕ = each big (λ r. r.start) (runs fs) in
    let sizes : List ℕ = each big (λ r. r.size) (runs fs) in
    let d : length (dna cs fs) ≡ up 2 (length fs) = length-dna cs fs ∙ ap (up 2) e in
    omega (
      arith,
      length-append (a (length fs)) (a (length (runs fs)) ++ (starts ++ (sizes ++ (a 0 ++ (a 0 ++ dna cs fs))))),
      length-append (a (length (runs fs))) (starts ++ (sizes ++ (a 0 ++ (a 0 ++ dna cs fs)))),
      length-append starts (sizes ++ (a 0 ++ (a 0 ++ dna cs fs))),
      length-append sizes (a 0 ++ (a 0 ++ dna cs fs)),
      length-append (a 0) (a 0 ++ dna cs fs),
      length-append (a 0) (dna cs fs),
      length-spelled big 4 (length fs),
      length-spelled big 4 (length (runs fs)),
      length-spelled big 4 0,
      length-each big (λ r. r.start) (runs fs),
      length-each big (λ r. r.size) (runs fs),
      d,
    )

pub length-index : (big : Bool) (k at : ℕ) (ss : List Sequence) → length (index_of big k at ss) ≡ length ss * suc k + names_size ss
unfolding index_of
length-index big k at [] = omega arith
length-index big k at (s ∷ ss) =
    length-append (entry_of big k s.name at) (index_of big k (at + record_size s.flags) ss)
    ∙ omega (arith, length-entry big k s.name at, length-index big k (at + record_size s.flags) ss)

-- the records of sequences whose bases and flags are equal in length
abbrev pub Even : List Sequence → Type 0
Even [] = Unit {0}
Even (s ∷ ss) = (length s.bases ≡ length s.flags) × Even ss

abbrev pub records_size : List Sequence → ℕ
records_size [] = 0
records_size (s ∷ ss) = record_size s.flags + records_size ss

pub length-records : (big : Bool) (ss : List Sequence) → Even ss → length (records_of big ss) ≡ records_size ss
unfolding records_of
length-records big [] e = refl
length-records big (s ∷ ss) e =
    length-append (record_of big s.bases s.flags) (records_of big ss)
    ∙ ap₂ (λ (m n : ℕ). m + n) (length-record big s.bases s.flags e.0) (length-records big ss e.1)

-- the whole file
pub length-file : (big : Bool) (version k : ℕ) (ss : List Sequence) → Even ss
    → length (file_of big version k ss) ≡ index_end k (length ss) (names_size ss) + records_size ss
unfolding file_of
length-file big version k ss e =
    let at : ℕ = index_end k (length ss) (names_size ss) in
    omega (
      arith,
      length-append (header_of big version (length ss)) (index_of big k at ss ++ records_of big ss),
      length-append (index_of big k at ss) (records_of big ss),
      length-header big version (length ss),
      length-index big k at ss,
      length-records big ss e,
    )

-- ---- sequences behind others

pub names_append : (pre ss : List Sequence) → names_size (pre ++ ss) ≡ names_size pre + names_size ss
names_append [] ss = omega arith
names_append (s ∷ pre) ss = omega (arith, names_append pre ss)

pub records_append : (big : Bool) (pre ss : List Sequence) → records_of big (pre ++ ss) ≡ records_of big pre ++ records_of big ss
unfolding records_of
records_append big [] ss = refl
records_append big (s ∷ pre) ss =
    ap (λ (l : List ℕ). record_of big s.bases s.flags ++ l) (records_append big pre ss)
    ∙ sym (append_assoc (record_of big s.bases s.flags) (records_of big pre) (records_of big ss))

pub index_append : (big : Bool) (k at : ℕ) (pre ss : List Sequence)
    → index_of big k at (pre ++ ss) ≡ index_of big k at pre ++ index_of big k (at + records_size pre) ss
unfolding index_of
index_append big k at [] ss = ap (λ (n : ℕ). index_of big k n ss) (let q : at ≡ at + 0 = omega arith in q)
index_append big k at (s ∷ pre) ss =
    let after : ℕ = at + record_size s.flags in
    let q : after + records_size pre ≡ at + (record_size s.flags + records_size pre) = omega arith in
    ap (λ (l : List ℕ). entry_of big k s.name at ++ l)
    (index_append big k after pre ss ∙ ap (λ (n : ℕ). index_of big k after pre ++ index_of big k n ss) q)
    ∙ sym (append_assoc (entry_of big k s.name at) (index_of big k after pre) (index_of big k (at + records_size (s ∷ pre)) ss))
