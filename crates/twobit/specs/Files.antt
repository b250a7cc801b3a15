-- A .2bit file: the header, the index of names and offsets, then a record for each sequence, as bytes.
-- Assumes nothing.
use Rattle.std.specs.Prelude.{Bool, List, [], ◌∷◌, ◌++◌, ℕ, suc, ◌+◌, ◌*◌, length}
use Rattle.codes.specs.Codes.{up}
use Rattle.codes.specs.Words.{chars_of}
use Rattle.dna.specs.Dna.{dna}
use Rattle.dna.specs.Numbers.{ordered}
use Rattle.fields.specs.Runs.{Run, runs}

abbrev pub signature : ℕ
signature = 0x1A41_2743

-- the bytes of the header, and of an index entry's offset
abbrev pub header_size : ℕ
header_size = 16

abbrev pub offset_size : ℕ
offset_size = 4

-- n in k bytes
unfoldable pub spelled : Bool → ℕ → ℕ → List ℕ
spelled big k n = ordered big (chars_of 8 k n)

-- a number of each run, in four bytes
unfoldable pub each : Bool → (Run → ℕ) → List Run → List ℕ
unfolding spelled
each big f [] = []
each big f (r ∷ rs) = spelled big 4 (f r) ++ each big f rs

-- a sequence: its name, its bases and its flags
pub record Sequence : Type 0 where
  pub name : List ℕ
  pub bases : List ℕ
  pub flags : List ℕ

-- its record: its size; its N blocks, their number, their starts, their sizes; no mask blocks; the reserved word; the packed bases
unfoldable pub record_of : Bool → List ℕ → List ℕ → List ℕ
unfolding spelled each
record_of big cs fs =
    spelled big 4 (length fs)
    ++ (spelled big 4 (length (runs fs)) ++ (each big (λ r. r.start) (runs fs) ++ (each big (λ r. r.size) (runs fs)
    ++ (spelled big 4 0 ++ (spelled big 4 0 ++ dna cs fs)))))

-- the bytes of a record with these flags
unfoldable pub record_size : List ℕ → ℕ
record_size fs = 16 + 8 * length (runs fs) + up 2 (length fs)

-- an entry of the index: the name's length in a byte, the name, the record's offset in k bytes
unfoldable pub entry_of : Bool → ℕ → List ℕ → ℕ → List ℕ
unfolding spelled
entry_of big k name at = length name ∷ (name ++ spelled big k at)

-- the bytes of an entry with a name of n bytes
abbrev pub entry_size : ℕ → ℕ → ℕ
entry_size k n = suc (n + k)

-- the index of sequences whose records follow each other from byte `at` on
unfoldable pub index_of : Bool → ℕ → ℕ → List Sequence → List ℕ
unfolding entry_of record_size
index_of big k at [] = []
index_of big k at (s ∷ ss) = entry_of big k s.name at ++ index_of big k (at + record_size s.flags) ss

unfoldable pub records_of : Bool → List Sequence → List ℕ
unfolding record_of
records_of big [] = []
records_of big (s ∷ ss) = record_of big s.bases s.flags ++ records_of big ss

-- the bytes of all names
abbrev pub names_size : List Sequence → ℕ
names_size [] = 0
names_size (s ∷ ss) = length s.name + names_size ss

-- where an index of n entries, whose names have m bytes together, ends
abbrev pub index_end : ℕ → ℕ → ℕ → ℕ
index_end k n m = header_size + (n * suc k + m)

-- the signature, the version, how many sequences, the reserved word
unfoldable pub header_of : Bool → ℕ → ℕ → List ℕ
unfolding spelled
header_of big version n = spelled big 4 signature ++ (spelled big 4 version ++ (spelled big 4 n ++ spelled big 4 0))

-- the file of some sequences, in a byte order, of a version, with offsets of k bytes
unfoldable pub file_of : Bool → ℕ → ℕ → List Sequence → List ℕ
unfolding header_of index_of records_of
file_of big version k ss = header_of big version (length ss) ++ (index_of big k (index_end k (length ss) (names_size ss)) ss ++ records_of big ss)
