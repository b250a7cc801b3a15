-- Writing a .2bit file, one sequence at a time: what each call answers and leaves.
-- Assumes nothing.
use Rattle.std.proofs.Math.Bool.{false}
use Rattle.std.specs.Prelude.{◌&&◌, not, List, [], ◌∷◌, ℕ, ◌+◌, ◌-◌, ◌*◌, ◌^◌, leb, ltb, eqb, length}
use Rattle.std.proofs.lemmas.List.Edits.{sets}
use Rattle.codes.specs.Codes.{chars}
use Rattle.codes.specs.Refusals.{Test, Answer, answer, first, if_done, too_long, bad_view, no_room, view_tests, Outcome}
use Rattle.codes.specs.declared.refusals.Refusal.TheVariants.{BadRange}
use Rattle.twobit.specs.Files.{header_size, header_of, entry_of, entry_size, record_of, record_size, index_end}
use Rattle.twowrite.specs.declared.answers.Writing.{Writing}

-- the state of a file that is written: where the next entry goes and where the index ends; where the next record goes; how many are left
abbrev pub writing : ℕ → ℕ → ℕ → ℕ → Writing
writing entry stop place left = record { entry = entry; stop = stop; place = place; left = left }

-- ---- start: n sequences, whose names have m bytes together; offsets of k bytes

-- more sequences than four bytes count
abbrev pub many_sequences : ℕ → Test
many_sequences n = (leb (2 ^ 32) n, BadRange)

abbrev pub start_tests : ℕ → ℕ → ℕ → ℕ → List Test
start_tests k n m room = many_sequences n ∷ no_room room (index_end k n m) ∷ []

module _ (version k n m : ℕ) (out : List ℕ) where
  unfoldable pub start_outcome : Outcome
  start_outcome = first (start_tests k n m (length out))

  unfoldable pub start_answer : Answer Writing
  unfolding start_outcome
  start_answer = answer start_outcome (writing header_size (index_end k n m) (index_end k n m) n) (writing 0 0 0 0)

  unfoldable pub start_after : List ℕ
  unfolding start_outcome header_of
  start_after = if_done start_outcome (sets out 0 (header_of false version n)) out

-- ---- record_size

module _ (ys : List ℕ) (bo bl : ℕ) where
  unfoldable pub size_answer : Answer ℕ
  unfolding record_size
  size_answer = answer (first (view_tests 1 (length ys) bo bl)) (record_size (chars 1 ys bo bl)) 0

-- ---- add: one sequence more, its name, a view of its bases and a view of its flags

abbrev pub unequal : ℕ → ℕ → Test
unequal m n = (not (eqb m n), BadRange)

abbrev pub long_name : ℕ → Test
long_name n = (ltb 255 n, BadRange)

-- none is left, the entry does not fit into the index, or the index does not end before the record
abbrev pub bad_state : ℕ → Writing → ℕ → Test
bad_state k s n = (not (ltb 0 s.left && (leb (s.entry + entry_size k n) s.stop && leb s.stop s.place)), BadRange)

-- an offset of more than k bytes
abbrev pub far_record : ℕ → ℕ → Test
far_record k at = (leb (2 ^ (8 * k)) at, BadRange)

-- the refusals of views of m and n bytes and a name of so many, with room for so many bytes
abbrev pub add_tests : ℕ → Writing → ℕ → ℕ → ℕ → ℕ → List ℕ → ℕ → ℕ → ℕ → List Test
add_tests k s name m ao al ys bo bl room =
    too_long m ∷ too_long (length ys) ∷ bad_view 2 m ao al ∷ bad_view 1 (length ys) bo bl ∷ unequal al bl ∷ long_name name ∷ bad_state k s name
    ∷ far_record k s.place ∷ no_room room (s.place + record_size (chars 1 ys bo bl)) ∷ []

module _ (k : ℕ) (s : Writing) (name : List ℕ) (xs : List ℕ) (ao al : ℕ) (ys : List ℕ) (bo bl : ℕ) (out : List ℕ) where
  unfoldable pub add_outcome : Outcome
  unfolding record_size
  add_outcome = first (add_tests k s (length name) (length xs) ao al ys bo bl (length out))

  -- the state for the next sequence
  abbrev pub added : Writing
  added = writing (s.entry + entry_size k (length name)) s.stop (s.place + record_size (chars 1 ys bo bl)) (s.left - 1)

  -- a refused call gives the state that it was given
  unfoldable pub add_answer : Answer Writing
  unfolding add_outcome record_size
  add_answer = answer add_outcome added s

  -- the entry and the record; all other bytes stay
  unfoldable pub add_after : List ℕ
  unfolding add_outcome entry_of record_of
  add_after =
      if_done add_outcome (sets (sets out s.entry (entry_of false k name s.place)) s.place (record_of false (chars 2 xs ao al) (chars 1 ys bo bl))) out

-- ---- finish: all have been added, and the index is full

-- sequences are left, the index is not full, it ends before the header does, or it does not end before the next record
abbrev pub unfinished : Writing → Test
unfinished s = (not (eqb s.left 0 && (eqb s.entry s.stop && (leb header_size s.stop && leb s.stop s.place))), BadRange)

-- the file's size
unfoldable pub finish_answer : Writing → Answer ℕ
finish_answer s = answer (first (unfinished s ∷ [])) s.place 0
