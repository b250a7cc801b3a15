-- What is written reads back: the file of some sequences is accepted, and walking it gives those sequences.
-- Assumes nothing.
use mathlib.Core.Bool.{Bool, true, false, ◌||◌, not}
use mathlib.Core.List.{List, [], ◌∷◌, ◌++◌, append_assoc, append-nil, reverse}
use mathlib.Core.Path.{◌≡◌, refl, sym, ap, ◌∙◌}
use Prim.Native.Nat.{ℕ, suc, ◌+◌, ◌*◌, ◌^◌, ◌≤◌, ◌<◌}
use borrow.Author.Tests.{le-leb}
use lib.Dec.{eqb, lit<}
use lib.ListN.{length, take, drop}
use Rattle.codes.specs.Words.{word, chars_of}
use Rattle.codes.proofs.WordLaws.{Below, Below-append}
use Rattle.dna.specs.Numbers.{number_at}
use Rattle.twobit.specs.Files.{signature, header_size, offset_size, spelled, Sequence, record_of, record_size, entry_of, index_of, records_of, names_size, index_end, header_of, file_of}
use Rattle.twobit.specs.Reading.{is_big, signed, good_header, sequences, block_count, masks_place, is_record, name_size, entry_end, offset_at, are_entries, is_two_bit, flags_of, bases_of}
use Rattle.twobit.proofs.BackLaws.{sound_back, record_flags, record_bases, masks_back, name_back, offset-back, entry_within, entry_behind}
use Rattle.twobit.proofs.BaseLaws.{under_three}
use Rattle.twobit.proofs.ByteLaws.{Below-header, Below-entry, Below-record}
use Rattle.twobit.proofs.FileLaws.{length-spelled, length-header, length-index, length-record}
use Rattle.twobit.proofs.PlaceLaws.{behind, within, number_back}

-- a sequence that a file can hold
pub record Fit (s : Sequence) : Type 0 where
  pub short : length s.name ≤ 255
  pub letters : Below 8 s.name
  pub codes : Below 2 s.bases
  pub marks : Below 1 s.flags
  pub equal : length s.bases ≡ length s.flags
  pub few : length s.flags < 2 ^ 32

abbrev pub AllFit : List Sequence → Type 0
AllFit [] = Unit {0}
AllFit (s ∷ ss) = Fit s × AllFit ss

-- every record's offset, the first record standing at byte `at`, is a number of k bytes
abbrev pub Near : ℕ → ℕ → List Sequence → Type 0
Near k at [] = Unit {0}
Near k at (s ∷ ss) = (at < 2 ^ (8 * k)) × Near k (at + record_size s.flags) ss

-- what the entry at byte `at` and its record give
pub record Gives (big : Bool) (file : List ℕ) (k at : ℕ) (s : Sequence) : Type 0 where
  pub whole : entry_end big file k at ≤ length file
  pub name : take (name_size big file at) (drop (suc at) file) ≡ s.name
  pub sound : is_record big file (offset_at big file k at) ≡ true
  pub flags : flags_of big file (offset_at big file k at) ≡ s.flags
  pub bases : bases_of big file (offset_at big file k at) ≡ under_three s.bases s.flags
  pub masks : block_count big file (masks_place big file (offset_at big file k at)) ≡ 0

-- from byte `at` on, walking gives these sequences
abbrev pub Walks : Bool → List ℕ → ℕ → ℕ → List Sequence → Type 0
Walks big file k at [] = Unit {0}
Walks big file k at (s ∷ ss) = Gives big file k at s × Walks big file k (entry_end big file k at) ss

module _ (big : Bool) (file : List ℕ) (k : ℕ) where
  -- an entry, and the record that it names
  entry_gives : (at off : ℕ) (s : Sequence) (rest post : List ℕ) → Fit s → off < 2 ^ (8 * k) → drop at file ≡ entry_of big k s.name off ++ rest
      → drop off file ≡ record_of big s.bases s.flags ++ post → Gives big file k at s
  entry_gives at off s rest post f l d e =
      record {
        whole = entry_within big file k at s.name off rest d;
        name = name_back big file k at s.name off rest d;
        sound = rw o (sound_back big file off s.bases s.flags post f.equal f.few e);
        flags = rw o (record_flags big file off s.bases s.flags post f.equal f.few e f.marks);
        bases = rw o (record_bases big file off s.bases s.flags post f.equal f.few e f.codes f.marks);
        masks = rw o (masks_back big file off s.bases s.flags post f.equal f.few e);
      }
    where
      o : offset_at big file k at ≡ off
      o = offset-back big file k at s.name off rest d l

  -- an index at byte `at`, whose first record stands at byte `off`
  index_walks : (ss : List Sequence) (at off : ℕ) (rest post : List ℕ) → AllFit ss → Near k off ss → drop at file ≡ index_of big k off ss ++ rest
      → drop off file ≡ records_of big ss ++ post → Walks big file k at ss
  unfolding index_of records_of
  index_walks [] at off rest post f l d e = tt
  index_walks (s ∷ ss) at off rest post f l d e =
      let after : ℕ = off + record_size s.flags in
      let more : List ℕ = index_of big k after ss ++ rest in
      let last : List ℕ = records_of big ss ++ post in
      let here : drop at file ≡ entry_of big k s.name off ++ more = d ∙ append_assoc (entry_of big k s.name off) (index_of big k after ss) rest in
      let there : drop off file ≡ record_of big s.bases s.flags ++ last = e ∙ append_assoc (record_of big s.bases s.flags) (records_of big ss) post in (
        entry_gives at off s more last f.0 l.0 here there,
        index_walks ss (entry_end big file k at) after rest post f.1 l.1 (entry_behind big file k at s.name off more here)
            (behind file off (record_size s.flags) (record_of big s.bases s.flags) last (length-record big s.bases s.flags f.0.equal) there),
      )

  -- what walks is accepted
  walks_accepted : (ss : List Sequence) (at : ℕ) → Walks big file k at ss → are_entries big file k (length ss) at ≡ true
  unfolding are_entries
  walks_accepted [] at w = refl
  walks_accepted (s ∷ ss) at w =
      rw (le-leb (entry_end big file k at) (length file) w.0.whole, w.0.sound) (walks_accepted ss (entry_end big file k at) w.1)

-- two byte orders are the same
abbrev same_order : Bool → Bool → Bool
same_order false b = not b
same_order true b = b

same_true : (b : Bool) → same_order b true ≡ b
same_true false = refl
same_true true = refl

-- the signature in an order, read in another
signature-as : (big other : Bool) (file rest : List ℕ) → drop 0 file ≡ spelled big 4 signature ++ rest → signed other file ≡ same_order big other
unfolding number_at spelled word chars_of
signature-as false false file rest e = ap (λ (l : List ℕ). eqb (word 8 (take 4 l)) signature) e
signature-as false true file rest e = ap (λ (l : List ℕ). eqb (word 8 (reverse (take 4 l))) signature) e
signature-as true false file rest e = ap (λ (l : List ℕ). eqb (word 8 (take 4 l)) signature) e
signature-as true true file rest e = ap (λ (l : List ℕ). eqb (word 8 (reverse (take 4 l))) signature) e

-- an index and records are of bytes
index_bytes : (big : Bool) (k at : ℕ) (ss : List Sequence) → AllFit ss → Below 8 (index_of big k at ss)
unfolding index_of
index_bytes big k at [] f = tt
index_bytes big k at (s ∷ ss) f =
    let after : ℕ = at + record_size s.flags in
    Below-append 8 (entry_of big k s.name at) (index_of big k after ss) (Below-entry big k s.name at f.0.short f.0.letters) (index_bytes big k after ss f.1)

records_bytes : (big : Bool) (ss : List Sequence) → Below 8 (records_of big ss)
unfolding records_of
records_bytes big [] = tt
records_bytes big (s ∷ ss) =
    Below-append 8 (record_of big s.bases s.flags) (records_of big ss) (Below-record big s.bases s.flags) (records_bytes big ss)

module _ (big : Bool) (version k : ℕ) (ss : List Sequence) where
  abbrev first : ℕ
  first = index_end k (length ss) (names_size ss)

  abbrev file : List ℕ
  file = file_of big version k ss

  abbrev after-header : List ℕ
  after-header = index_of big k first ss ++ records_of big ss

  at_header : drop 0 (file_of big version k ss) ≡ header_of big version (length ss) ++ after-header
  unfolding file_of
  at_header = refl

  pub at_index : drop header_size (file_of big version k ss) ≡ after-header
  at_index = behind file 0 header_size (header_of big version (length ss)) after-header (length-header big version (length ss)) at_header

  pub at_records : drop first (file_of big version k ss) ≡ records_of big ss ++ []
  at_records =
      behind file header_size (length ss * suc k + names_size ss) (index_of big k first ss) (records_of big ss) (length-index big k first ss) at_index ∙ sym (append-nil (records_of big ss))

  -- it is of bytes
  pub bytes : AllFit ss → Below 8 (file_of big version k ss)
  unfolding file_of
  bytes f =
      Below-append 8 (header_of big version (length ss)) after-header (Below-header big version (length ss))
      (Below-append 8 (index_of big k first ss) (records_of big ss) (index_bytes big k first ss f) (records_bytes big ss))

  -- walking the file of some sequences gives them
  pub walked : AllFit ss → Near k (index_end k (length ss) (names_size ss)) ss → Walks big (file_of big version k ss) k header_size ss
  walked f l = index_walks big file k ss header_size first (records_of big ss) [] f l at_index at_records

  -- ---- the header

  -- what stands behind the version, and behind the signature
  abbrev from-number : List ℕ
  from-number = spelled big 4 (length ss) ++ (spelled big 4 0 ++ after-header)

  abbrev from-version : List ℕ
  from-version = spelled big 4 version ++ from-number

  at_signature : drop 0 (file_of big version k ss) ≡ spelled big 4 signature ++ from-version
  unfolding file_of header_of
  at_signature = simp append_assoc

  at_version : drop 4 (file_of big version k ss) ≡ from-version
  at_version = behind file 0 4 (spelled big 4 signature) from-version (length-spelled big 4 signature) at_signature

  at_number : drop 8 (file_of big version k ss) ≡ from-number
  at_number = behind file 4 4 (spelled big 4 version) from-number (length-spelled big 4 version) at_version

  -- its byte order is the one in which it was written
  pub ordered-as : is_big (file_of big version k ss) ≡ big
  ordered-as = signature-as big true file from-version at_signature ∙ same_true big

  -- the number of sequences reads back
  pub counted : length ss < 2 ^ 32 → sequences (file_of big version k ss) ≡ length ss
  unfolding sequences
  counted h = rw ordered-as (number_back file big 4 (length ss) 8 (spelled big 4 0 ++ after-header) h at_number)

-- ---- the file is accepted

-- the signature stands in one of the two orders
some_order : (big : Bool) → same_order big false || big ≡ true
some_order false = refl
some_order true = refl

module _ (big : Bool) (ss : List Sequence) where
  abbrev made : List ℕ
  made = file_of big 0 offset_size ss

  header_fits : header_size ≤ length (file_of big 0 offset_size ss)
  header_fits =
      within made 0 header_size (header_of big 0 (length ss)) (after-header big 0 offset_size ss) (length-header big 0 (length ss)) (lit< tt) (at_header big 0 offset_size ss)

  pub header_good : good_header (file_of big 0 offset_size ss) ≡ true
  unfolding good_header
  header_good =
      let little : signed false made ≡ same_order big false = signature-as big false made (from-version big 0 offset_size ss) (at_signature big 0 offset_size ss) in
      let version : number_at big 4 made 4 ≡ 0 = number_back made big 4 0 4 (from-number big 0 offset_size ss) (lit< tt) (at_version big 0 offset_size ss) in
      rw (le-leb header_size (length made) header_fits, ordered-as big 0 offset_size ss, little, some_order big, version)

  -- the header, the entries and their records are sound
  pub accepted : length ss < 2 ^ 32 → AllFit ss → Near offset_size (index_end offset_size (length ss) (names_size ss)) ss → is_two_bit (file_of big 0 offset_size ss) ≡ true
  unfolding is_two_bit
  accepted h f l =
      rw (header_good, counted big 0 offset_size ss h, ordered-as big 0 offset_size ss)
      (walks_accepted big made offset_size ss header_size (walked big 0 offset_size ss f l))
