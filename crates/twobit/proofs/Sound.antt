-- A file is accepted just where it is a sound one; and of an accepted file no entry is refused, nor any record that has room.
-- Assumes nothing.
use Rattle.std.specs.Prelude.{Ok}
use mathlib.Core.Bool.{Bool, true, false, ◌&&◌}
use mathlib.Core.List.{List, [], ◌∷◌}
use mathlib.Core.Path.{◌≡◌, refl, ap}
use Prim.Native.Nat.{ℕ, zero, suc, ◌+◌, ◌^◌, ◌≤◌, ◌<◌}
use native.Mathlib.Omega.{arith}
use borrow.Author.Tests.{le-leb, lt-leb, lt-ltb, le-ltb, leb-true}
use lib.Dec.{leb}
use lib.ListN.{length}
use Rattle.codes.specs.Codes.{up, trailing}
use Rattle.codes.specs.Refusals.{answer, first}
use Rattle.codes.proofs.RefusalLaws.{both}
use Rattle.twobit.specs.Files.{header_size, offset_size}
use Rattle.twobit.specs.Reading.{good_header, is_big, sequences, size_at, blocks_end, dna_place, is_record, entry_end, offset_at, are_entries, is_two_bit, bad_form}
use Rattle.twobit.specs.Reading.{check_answer, first_answer, entry_outcome, record_outcome}

-- ---- check: done just where the file is sound

told : (b : Bool) (n : ℕ) → (answer (first (bad_form b ∷ [])) n 0).no ≡ 0 → b ≡ true
told true n e = refl
told false n e = absurd (omega arith)

pub accepted_sound : (file : List ℕ) → (check_answer file).no ≡ 0 → is_two_bit file ≡ true
unfolding check_answer
accepted_sound file e = told (is_two_bit file) (sequences file) e

pub sound_accepted : (file : List ℕ) → is_two_bit file ≡ true → check_answer file ≡ answer (Ok tt) (sequences file) 0
unfolding check_answer
sound_accepted file e = ap (λ (b : Bool). answer (first (bad_form b ∷ [])) (sequences file) 0) e

-- ---- the cursors of a file: entry i of the index, counted from byte `at`

unfoldable pub place_from : Bool → List ℕ → ℕ → ℕ → ℕ → ℕ
place_from big file k at zero = at
place_from big file k at (suc i) = place_from big file k (entry_end big file k at) i

-- the next cursor is the byte behind the entry
pub place_next : (big : Bool) (file : List ℕ) (k at i : ℕ) → place_from big file k at (suc i) ≡ entry_end big file k (place_from big file k at i)
unfolding place_from
place_next big file k at zero = refl
place_next big file k at (suc i) = place_next big file k (entry_end big file k at) i

-- a record begins within the file
pub record_within : (big : Bool) (file : List ℕ) (r : ℕ) → is_record big file r ≡ true → r < length file
unfolding is_record blocks_end
record_within big file r e =
    let h = leb-true (dna_place big file r + up 2 (size_at big file r)) (length file) (both _ _ e).0 in
    omega (arith, h)

-- an entry of which nothing is cut, with a sound record
pub record Sound (big : Bool) (file : List ℕ) (k at : ℕ) : Type 0 where
  pub whole : entry_end big file k at ≤ length file
  pub right : is_record big file (offset_at big file k at) ≡ true

-- the first of several entries, and the others
first_entry : (big : Bool) (file : List ℕ) (k n at : ℕ) → are_entries big file k (suc n) at ≡ true → Sound big file k at × (are_entries big file k n (entry_end big file k at) ≡ true)
unfolding are_entries
first_entry big file k n at e =
    let more : Bool = are_entries big file k n (entry_end big file k at) in
    let h = both (leb (entry_end big file k at) (length file)) (is_record big file (offset_at big file k at) && more) e in
    let g = both (is_record big file (offset_at big file k at)) more h.1 in
    (record { whole = leb-true (entry_end big file k at) (length file) h.0; right = g.0 }, g.1)

entry_sound_lem : (big : Bool) (file : List ℕ) (k n at i : ℕ) → are_entries big file k n at ≡ true → i < n → Sound big file k (place_from big file k at i)
unfolding place_from
entry_sound_lem big file k zero at i e l = absurd (omega arith)
entry_sound_lem big file k (suc n) at zero e l = (first_entry big file k n at e).0
entry_sound_lem big file k (suc n) at (suc i) e l = entry_sound_lem big file k n (entry_end big file k at) i (first_entry big file k n at e).1 (omega arith)

module _ (file : List ℕ) (sound : is_two_bit file ≡ true) where
  abbrev pub place_of : ℕ → ℕ
  place_of i = place_from (is_big file) file offset_size header_size i

  header : good_header file ≡ true
  unfolding is_two_bit
  header = (both (good_header file) (are_entries (is_big file) file offset_size (sequences file) header_size) sound).0

  pub entries_sound : (i : ℕ) → i < sequences file → Sound (is_big file) file offset_size (place_of i)
  unfolding is_two_bit
  entries_sound i l =
      entry_sound_lem (is_big file) file offset_size (sequences file) header_size i (both (good_header file) (are_entries (is_big file) file offset_size (sequences file) header_size) sound).1 l

  pub first_done : first_answer file ≡ answer (Ok tt) (0, place_of 0) (0, 0)
  unfolding first_answer place_from
  first_done = ap (λ (b : Bool). answer (first (bad_form b ∷ [])) (0, header_size) (0, 0)) header

  -- no entry is refused
  pub entry_done : (i : ℕ) → i < sequences file → entry_outcome offset_size file i (place_of i) ≡ Ok tt
  unfolding entry_outcome
  entry_done i l =
      let s = entries_sound i l in
      simp (header, lt-leb (sequences file) i l, le-leb _ _ s.whole, lt-ltb _ _ (record_within (is_big file) file (offset_at (is_big file) file offset_size (place_of i)) s.right))

  -- nor any record that has room
  pub record_done : (i : ℕ) → i < sequences file → (bases flags : List ℕ) → let r = offset_at (is_big file) file offset_size (place_of i) in
      length bases ≤ 2 ^ 28 → length flags ≤ 2 ^ 28 → up 2 (size_at (is_big file) file r) + trailing ≤ length bases → up 1 (size_at (is_big file) file r) + trailing ≤ length flags
      → record_outcome file r bases flags ≡ Ok tt
  unfolding record_outcome
  record_done i l bases flags a b c d =
      let s = entries_sound i l in
      simp (le-ltb _ _ a, le-ltb _ _ b, header, s.right, le-ltb _ _ c, le-ltb _ _ d)
