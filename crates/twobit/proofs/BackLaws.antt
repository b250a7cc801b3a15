-- A record that stands in a file reads back: its size, its blocks, its flags and its bases; and so does an entry of the index.
-- Assumes nothing.
use mathlib.Core.Bool.{Bool, true}
use mathlib.Core.List.{List, [], ◌∷◌, ◌++◌, append_assoc}
use mathlib.Core.Path.{◌≡◌, refl, sym, ap, ap₂, ◌∙◌}
use Prim.Native.Nat.{ℕ, suc, ◌+◌, ◌*◌, ◌^◌, ◌≤◌, ◌<◌}
use native.Mathlib.Nat.{add-zero}
use native.Mathlib.Omega.{arith}
use borrow.Author.Tests.{le-leb}
use lib.Dec.{lit<}
use lib.ListN.{length, get_or, take, drop}
use lib.Seq.{get_or-drop, take_at}
use Rattle.codes.specs.Codes.{up}
use Rattle.codes.proofs.WordLaws.{Below}
use Rattle.dna.specs.Dna.{dna}
use Rattle.dna.specs.Numbers.{number_at}
use Rattle.fields.specs.Runs.{Run, runs}
use Rattle.twobit.specs.Blocks.{blocks_from, all_inside, flag_under}
use Rattle.twobit.specs.Files.{spelled, each, record_of, record_size, entry_of}
use Rattle.twobit.specs.Reading.{block_count, block_at, blocks_at, blocks_end, size_at, masks_place, dna_place, is_record, name_size, entry_end, offset_at, flags_of, bases_of}
use Rattle.twobit.proofs.BaseLaws.{under_three, bases_back}
use Rattle.twobit.proofs.FileLaws.{length-spelled, length-each, length-record, length-entry}
use Rattle.twobit.proofs.PlaceLaws.{behind, within, number_back, blocks-back}
use Rattle.twobit.proofs.LaidLaws.{all_laid, runs_few, laid_inside, laid_apart, flag-back, flags_back}

-- ---- a record

module _ (big : Bool) (file : List ℕ) (r : ℕ) (cs fs rest : List ℕ) (equal : length cs ≡ length fs) (few : length fs < 2 ^ 32)
    (e : drop r file ≡ record_of big cs fs ++ rest) where
  -- what stands behind each of its parts
  abbrev from-reserved : List ℕ
  from-reserved = spelled big 4 0 ++ (dna cs fs ++ rest)

  abbrev from-masks : List ℕ
  from-masks = spelled big 4 0 ++ from-reserved

  abbrev from-sizes : List ℕ
  from-sizes = each big (λ r. r.size) (runs fs) ++ from-masks

  abbrev from-starts : List ℕ
  from-starts = each big (λ r. r.start) (runs fs) ++ from-sizes

  abbrev from-count : List ℕ
  from-count = spelled big 4 (length (runs fs)) ++ from-starts

  at_size : drop r file ≡ spelled big 4 (length fs) ++ from-count
  unfolding record_of
  at_size = e ∙ simp append_assoc

  at_count : drop (r + 4) file ≡ from-count
  at_count = behind file r 4 (spelled big 4 (length fs)) from-count (length-spelled big 4 (length fs)) at_size

  at_starts : drop (r + 4 + 4) file ≡ from-starts
  at_starts = behind file (r + 4) 4 (spelled big 4 (length (runs fs))) from-starts (length-spelled big 4 (length (runs fs))) at_count

  at_sizes : drop (r + 4 + 4 + 4 * length (runs fs)) file ≡ from-sizes
  at_sizes = behind file (r + 4 + 4) (4 * length (runs fs)) (each big (λ r. r.start) (runs fs)) from-sizes (length-each big (λ r. r.start) (runs fs)) at_starts

  -- the numbers
  pub size_back : size_at big file r ≡ length fs
  unfolding size_at
  size_back = number_back file big 4 (length fs) r from-count few at_size

  pub count_back : block_count big file (r + 4) ≡ length (runs fs)
  unfolding block_count
  count_back = number_back file big 4 (length (runs fs)) (r + 4) from-starts (omega (arith, runs_few 0 fs)) at_count

  masks_place_lem : masks_place big file r ≡ r + 4 + 4 + 4 * length (runs fs) + 4 * length (runs fs)
  unfolding blocks_end
  masks_place_lem = omega (arith, count_back)

  at_masks : drop (masks_place big file r) file ≡ from-masks
  at_masks =
      ap (λ (n : ℕ). drop n file) masks_place_lem
      ∙ behind file (r + 4 + 4 + 4 * length (runs fs)) (4 * length (runs fs)) (each big (λ r. r.size) (runs fs)) from-masks (length-each big (λ r. r.size) (runs fs)) at_sizes

  pub masks_back : block_count big file (masks_place big file r) ≡ 0
  unfolding block_count
  masks_back = number_back file big 4 0 (masks_place big file r) from-reserved (lit< tt) at_masks

  dna-place : dna_place big file r ≡ masks_place big file r + 4 + 4
  unfolding blocks_end
  dna-place = omega (arith, masks_back)

  at_dna : drop (dna_place big file r) file ≡ dna cs fs ++ rest
  at_dna =
      ap (λ (n : ℕ). drop n file) dna-place
      ∙ behind file (masks_place big file r + 4) 4 (spelled big 4 0) (dna cs fs ++ rest) (length-spelled big 4 0)
      (behind file (masks_place big file r) 4 (spelled big 4 0) from-reserved (length-spelled big 4 0) at_masks)

  -- the blocks
  block-is : (i : ℕ) → block_at big file (r + 4) i
      ≡ record { start = number_at big 4 file (r + 4 + 4 + 4 * i); size = number_at big 4 file (r + 4 + 4 + 4 * length (runs fs) + 4 * i) }
  unfolding block_at
  block-is i =
      let q : r + 4 + 4 + 4 * (block_count big file (r + 4) + i) ≡ r + 4 + 4 + 4 * length (runs fs) + 4 * i = omega (arith, count_back) in
      ap (λ (n : ℕ). record { start = number_at big 4 file (r + 4 + 4 + 4 * i); size = number_at big 4 file n }) q

  runs_back : blocks_at big file (r + 4) ≡ runs fs
  unfolding blocks_at
  runs_back =
      ap (blocks_from (block_at big file (r + 4)) 0) count_back
      ∙ blocks-back file big (r + 4 + 4) (r + 4 + 4 + 4 * length (runs fs)) (block_at big file (r + 4)) block-is (length fs) few (runs fs) 0 0 from-sizes from-masks
      (all_laid fs) (rw (add-zero (r + 4 + 4)) at_starts) (rw (add-zero (r + 4 + 4 + 4 * length (runs fs))) at_sizes)

  masks_none : blocks_at big file (masks_place big file r) ≡ []
  unfolding blocks_at blocks_from
  masks_none = ap (blocks_from (block_at big file (masks_place big file r)) 0) masks_back

  -- the end
  record_end_lem : dna_place big file r + up 2 (size_at big file r) ≤ length file
  unfolding record_size
  record_end_lem =
      let n : up 2 (size_at big file r) ≡ up 2 (length fs) = ap (up 2) size_back in
      omega (arith, dna-place, masks_place_lem, within file r (record_size fs) (record_of big cs fs) rest (length-record big cs fs equal) (omega arith) e)

  pub sound_back : is_record big file r ≡ true
  unfolding is_record all_inside
  sound_back =
      rw (
        le-leb (dna_place big file r + up 2 (size_at big file r)) (length file) record_end_lem,
        size_back,
        runs_back,
        masks_none,
        laid_inside 0 (length fs) (runs fs) (all_laid fs),
        laid_apart 0 (length fs) (runs fs) (all_laid fs),
      )

  -- the sequence
  pub record_flags : Below 1 fs → flags_of big file r ≡ fs
  unfolding flags_of
  record_flags h = rw (size_back, runs_back) (flags_back fs h)

  pub record_bases : Below 2 cs → Below 1 fs → bases_of big file r ≡ under_three cs fs
  unfolding bases_of
  record_bases h k =
      bases_back file (dna_place big file r) cs fs rest at_dna h (size_at big file r) (flag_under (blocks_at big file (r + 4))) (size_back ∙ sym equal)
      (λ i. ap (λ (bs : List Run). flag_under bs i) runs_back ∙ flag-back fs k i)

-- ---- an entry

module _ (big : Bool) (file : List ℕ) (k at : ℕ) (name : List ℕ) (off : ℕ) (rest : List ℕ) (e : drop at file ≡ entry_of big k name off ++ rest) where
  -- its name's size, its name, the record's offset
  pub name-size : name_size big file at ≡ length name
  unfolding entry_of
  name-size = ap (λ (n : ℕ). get_or file n 0) (let q : at ≡ at + 0 = omega arith in q) ∙ sym (get_or-drop at file 0 0) ∙ ap (λ (l : List ℕ). get_or l 0 0) e

  at_name : drop (suc at) file ≡ name ++ (spelled big k off ++ rest)
  unfolding entry_of
  at_name =
      ap (λ (n : ℕ). drop n file) (let q : suc at ≡ at + 1 = omega arith in q)
      ∙ behind file at 1 (length name ∷ []) ((name ++ spelled big k off) ++ rest) refl e
      ∙ append_assoc name (spelled big k off) rest

  pub name_back : take (name_size big file at) (drop (suc at) file) ≡ name
  name_back = ap₂ take name-size at_name ∙ take_at name (spelled big k off ++ rest) (length name) refl

  pub offset-back : off < 2 ^ (8 * k) → offset_at big file k at ≡ off
  unfolding offset_at
  offset-back h =
      ap (λ (n : ℕ). number_at big k file (suc at + n)) name-size
      ∙ number_back file big k off (suc at + length name) rest h (behind file (suc at) (length name) name (spelled big k off ++ rest) refl at_name)

  -- its end, and what stands behind
  pub entry_end_lem : entry_end big file k at ≡ at + suc (length name + k)
  entry_end_lem = ap (λ (n : ℕ). at + suc (n + k)) name-size

  pub entry_within : entry_end big file k at ≤ length file
  entry_within = omega (arith, entry_end_lem, within file at (suc (length name + k)) (entry_of big k name off) rest (length-entry big k name off) (omega arith) e)

  pub entry_behind : drop (entry_end big file k at) file ≡ rest
  entry_behind = ap (λ (n : ℕ). drop n file) entry_end_lem ∙ behind file at (suc (length name + k)) (entry_of big k name off) rest (length-entry big k name off) e
