-- Reading a .2bit file of either byte order: what a sound file is, and what each call answers and leaves.
-- Assumes nothing.
use Rattle.std.specs.Prelude.{Bool, false, ◌&&◌, ◌||◌, not, List, [], ◌∷◌, ltb, eqb, length, get_or}
use Rattle.std.proofs.Math.Bool.{true}
use Prim.Native.Nat.{ℕ, zero, suc, ◌+◌, ◌*◌}
use Rattle.std.proofs.Math.Dec.{leb}
use Rattle.codes.specs.Codes.{up, trailing, tab}
use Rattle.codes.specs.Refusals.{Test, Answer, answer, first, if_done, too_long, no_room, Outcome}
use Rattle.codes.specs.Words.{packed}
use Rattle.codes.specs.declared.refusals.Refusal.TheVariants.{BadRange, BadForm}
use Rattle.dna.specs.Dna.{bases_at}
use Rattle.dna.specs.Numbers.{number_at}
use Rattle.fields.specs.Runs.{Run}
use Rattle.forms.specs.Reading.{filled_with}
use Rattle.twobit.specs.Blocks.{blocks_from, all_inside, apart, flag_under}
use Rattle.twobit.specs.Files.{signature, header_size, offset_size, entry_size}

-- ---- the header: the byte order is the one in which the signature stands

abbrev pub signed : Bool → List ℕ → Bool
signed big file = eqb (number_at big 4 file 0) signature

abbrev pub is_big : List ℕ → Bool
is_big file = signed true file

-- 16 bytes, the signature, version 0
unfoldable pub good_header : List ℕ → Bool
unfolding number_at
good_header file = leb header_size (length file) && ((signed false file || signed true file) && eqb (number_at (is_big file) 4 file 4) 0)

unfoldable pub sequences : List ℕ → ℕ
unfolding number_at
sequences file = number_at (is_big file) 4 file 8

module _ (big : Bool) (file : List ℕ) where
  -- ---- blocks from byte p on: how many; their starts; their sizes

  unfoldable pub block_count : ℕ → ℕ
  unfolding number_at
  block_count p = number_at big 4 file p

  unfoldable pub block_at : ℕ → ℕ → Run
  unfolding number_at block_count
  block_at p i = record { start = number_at big 4 file (p + 4 + 4 * i); size = number_at big 4 file (p + 4 + 4 * (block_count p + i)) }

  unfoldable pub blocks_at : ℕ → List Run
  unfolding block_count block_at
  blocks_at p = blocks_from (block_at p) 0 (block_count p)

  -- the byte behind them
  unfoldable pub blocks_end : ℕ → ℕ
  unfolding block_count
  blocks_end p = p + 4 + 8 * block_count p

  -- ---- the record at byte r: its size, its N blocks, its mask blocks, the reserved word, the packed bases

  unfoldable pub size_at : ℕ → ℕ
  unfolding number_at
  size_at r = number_at big 4 file r

  abbrev pub masks_place : ℕ → ℕ
  masks_place r = blocks_end (r + 4)

  abbrev pub dna_place : ℕ → ℕ
  dna_place r = blocks_end (masks_place r) + 4

  -- it does not end early, no block is outside the sequence, and no N blocks overlap
  unfoldable pub is_record : ℕ → Bool
  unfolding blocks_at blocks_end size_at
  is_record r =
      leb (dna_place r + up 2 (size_at r)) (length file)
      && (all_inside (size_at r) (blocks_at (r + 4)) && (all_inside (size_at r) (blocks_at (masks_place r)) && apart (blocks_at (r + 4))))

  -- ---- the entry at byte `at`, with an offset of k bytes

  abbrev pub name_size : ℕ → ℕ
  name_size at = get_or file at 0

  abbrev pub entry_end : ℕ → ℕ → ℕ
  entry_end k at = at + entry_size k (name_size at)

  unfoldable pub offset_at : ℕ → ℕ → ℕ
  unfolding number_at
  offset_at k at = number_at big k file (suc at + name_size at)

  -- n entries from byte `at` on, each with a record
  unfoldable pub are_entries : ℕ → ℕ → ℕ → Bool
  unfolding is_record offset_at
  are_entries k zero at = true
  are_entries k (suc n) at = leb (entry_end k at) (length file) && (is_record (offset_at k at) && are_entries k n (entry_end k at))

-- what reading accepts
unfoldable pub is_two_bit : List ℕ → Bool
unfolding good_header sequences are_entries
is_two_bit file = good_header file && are_entries (is_big file) file offset_size (sequences file) header_size

abbrev pub bad_form : Bool → Test
bad_form good = (not good, BadForm)

-- ---- check: the number of sequences of a sound file

unfoldable pub check_answer : List ℕ → Answer ℕ
unfolding is_two_bit sequences
check_answer file = answer (first (bad_form (is_two_bit file) ∷ [])) (sequences file) 0

-- ---- first: the number of the first entry, and its place

unfoldable pub first_answer : List ℕ → Answer (ℕ × ℕ)
unfolding good_header
first_answer file = answer (first (bad_form (good_header file) ∷ [])) (0, header_size) (0, 0)

-- ---- entry: at a cursor, the name's place and size, the record's offset, and the next cursor

abbrev pub past_last : List ℕ → ℕ → Test
past_last file number = (leb (sequences file) number, BadRange)

abbrev pub entry_tests : ℕ → List ℕ → ℕ → ℕ → List Test
entry_tests k file number at =
    bad_form (good_header file) ∷ past_last file number ∷ bad_form (leb (entry_end (is_big file) file k at) (length file))
    ∷ bad_form (ltb (offset_at (is_big file) file k at) (length file)) ∷ []

abbrev pub Entered : Type 0
Entered = (ℕ × ℕ) × (ℕ × (ℕ × ℕ))

abbrev pub no_entry : Entered
no_entry = ((0, 0), (0, (0, 0)))

module _ (k : ℕ) (file : List ℕ) (number at : ℕ) where
  unfoldable pub entry_outcome : Outcome
  unfolding good_header sequences offset_at
  entry_outcome = first (entry_tests k file number at)

  unfoldable pub entry_answer : Answer Entered
  unfolding entry_outcome offset_at
  entry_answer =
      answer entry_outcome
      ((suc at, name_size (is_big file) file at), (offset_at (is_big file) file k at, (suc number, entry_end (is_big file) file k at)))
      no_entry

-- ---- record_info: the size of the sequence of the record at byte r, and how many N blocks and mask blocks it has

abbrev pub Informed : Type 0
Informed = ℕ × (ℕ × ℕ)

abbrev pub no_info : Informed
no_info = (0, (0, 0))

abbrev pub bad_record : List ℕ → ℕ → Test
bad_record file r = bad_form (good_header file && is_record (is_big file) file r)

module _ (file : List ℕ) (r : ℕ) where
  unfoldable pub info_outcome : Outcome
  unfolding good_header is_record
  info_outcome = first (bad_record file r ∷ [])

  unfoldable pub info_answer : Answer Informed
  unfolding info_outcome size_at block_count blocks_end
  info_answer =
      answer info_outcome
      (size_at (is_big file) file r, (block_count (is_big file) file (r + 4), block_count (is_big file) file (masks_place (is_big file) file r))) no_info

-- ---- record: the sequence of the record at byte r into two stores

-- the flags, and the bases with code 3 under each N
unfoldable pub flags_of : Bool → List ℕ → ℕ → List ℕ
unfolding size_at blocks_at flag_under tab
flags_of big file r = tab (size_at big file r) (flag_under (blocks_at big file (r + 4)))

unfoldable pub bases_of : Bool → List ℕ → ℕ → List ℕ
unfolding size_at blocks_at blocks_end flag_under bases_at
bases_of big file r = bases_at file (dna_place big file r) (size_at big file r) (flag_under (blocks_at big file (r + 4)))

abbrev pub record_tests : List ℕ → ℕ → ℕ → ℕ → List Test
record_tests file r m n =
    too_long m ∷ too_long n ∷ bad_record file r ∷ no_room m (up 2 (size_at (is_big file) file r) + trailing)
    ∷ no_room n (up 1 (size_at (is_big file) file r) + trailing) ∷ []

module _ (file : List ℕ) (r : ℕ) (bases flags : List ℕ) where
  unfoldable pub record_outcome : Outcome
  unfolding good_header is_record size_at
  record_outcome = first (record_tests file r (length bases) (length flags))

  -- the sequence's size, and how many mask blocks it has
  unfoldable pub record_answer : Answer (ℕ × ℕ)
  unfolding record_outcome size_at block_count blocks_end
  record_answer = answer record_outcome (size_at (is_big file) file r, block_count (is_big file) file (masks_place (is_big file) file r)) (0, 0)

  unfoldable pub bases_after : List ℕ
  unfolding record_outcome bases_of
  bases_after = if_done record_outcome (filled_with (packed 2 (bases_of (is_big file) file r)) bases) bases

  unfoldable pub flags_after : List ℕ
  unfolding record_outcome flags_of
  flags_after = if_done record_outcome (filled_with (packed 1 (flags_of (is_big file) file r)) flags) flags
