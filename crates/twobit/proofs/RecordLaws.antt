-- The parts of a record, one behind the other: where one is cut, the record ends behind the file.
-- Assumes nothing.
use Rattle.std.specs.Prelude.{Option, Some, None}
use mathlib.Core.Bool.{Bool, true, false, ◌&&◌}
use mathlib.Core.List.{List}
use mathlib.Core.Path.{◌≡◌, sym, ap, ap₂, ◌∙◌, subst}
use Prim.Native.Nat.{ℕ, ◌+◌, ◌*◌, ◌≤◌, ◌<◌}
use native.Mathlib.Omega.{arith}
use borrow.Author.Tests.{leb-true, leb-false, le-leb}
use lib.Dec.{leb}
use lib.ListN.{length}
use Rattle.codes.specs.Codes.{pick, up}
use Rattle.twobit.specs.Blocks.{all_inside, apart}
use Rattle.twobit.specs.Inner.{Places, parts_of}
use Rattle.twobit.specs.Reading.{block_count, blocks_end, blocks_at, size_at, masks_place, dna_place, is_record}
use Rattle.twobit.proofs.PickLaws.{and_false, found_none, found_some, found-cut, found-whole, none_test, some_test, some_value}

module _ (big : Bool) (file : List ℕ) where
  -- blocks from byte p on, of which there are n
  abbrev pub table_found : ℕ → Option (ℕ × ℕ)
  table_found p = pick (leb (blocks_end big file p) (length file)) (Some (block_count big file p, blocks_end big file p)) None

  -- they are cut, or end within the file
  pub table-cut : (p n : ℕ) → n ≡ block_count big file p → length file < p + 4 + 8 * n → None ≡ table_found p
  unfolding blocks_end
  table-cut p n e h = found-cut (p + 4 + 8 * block_count big file p) (length file) (block_count big file p, p + 4 + 8 * block_count big file p) (omega (arith, e, h))

  pub table-whole : (p n : ℕ) → n ≡ block_count big file p → p + 4 + 8 * n ≤ length file → Some (n, p + 4 + 8 * n) ≡ table_found p
  unfolding blocks_end
  table-whole p n e h =
      found-whole (p + 4 + 8 * block_count big file p) (length file) (block_count big file p, p + 4 + 8 * block_count big file p) (n, p + 4 + 8 * n) (omega (arith, e, h))
      (ap (λ (m : ℕ). (m, p + 4 + 8 * m)) e)

  -- at p, n blocks that end at `end` within the file
  pub record Tabled (p n end : ℕ) : Type 0 where
    pub count : n ≡ block_count big file p
    pub behind : end ≡ blocks_end big file p
    pub within : end ≤ length file

  -- none were found, or some
  pub table_none : (p : ℕ) → table_found p ≡ None → length file < blocks_end big file p
  table_none p e = leb-false (blocks_end big file p) (length file) (none_test (leb (blocks_end big file p) (length file)) (block_count big file p, blocks_end big file p) e)

  pub table-some : (p n end : ℕ) → table_found p ≡ Some (n, end) → Tabled p n end
  table-some p n end e =
      let t = leb (blocks_end big file p) (length file) in
      let x : ℕ × ℕ = (block_count big file p, blocks_end big file p) in
      let v : (n, end) ≡ x = some_value t x (n, end) e in
      let l : blocks_end big file p ≤ length file = leb-true (blocks_end big file p) (length file) (some_test t x (n, end) e) in
      let b : end ≡ blocks_end big file p = ap (λ (q : ℕ × ℕ). q.1) v in
      record { count = ap (λ (q : ℕ × ℕ). q.0) v; behind = b; within = omega (arith, b, l) }

  -- blocks take the four bytes of their number, and more
  pub blocks-front : (p : ℕ) → p + 4 ≤ blocks_end big file p
  unfolding blocks_end
  blocks-front p = omega arith

  -- ---- the record at byte r
  module _ (r : ℕ) where
    -- the byte behind it
    abbrev pub record_end : ℕ
    record_end = dna_place big file r + up 2 (size_at big file r)

    abbrev pub parts_found : Option Places
    parts_found = pick (leb record_end (length file)) (Some (parts_of big file r)) None

    parts_cut : length file < record_end → None ≡ parts_found
    parts_cut h = found-cut record_end (length file) (parts_of big file r) h

    -- the mask blocks and the reserved word end before it does
    end_after : blocks_end big file (masks_place big file r) + 4 ≤ record_end
    end_after = omega arith

    -- the first number, the N blocks, the mask blocks, the reserved word or the bases are cut
    pub parts_short : length file < r + 4 → None ≡ parts_found
    parts_short h =
        parts_cut
        (omega (arith, h, blocks-front (r + 4), blocks-front (masks_place big file r), end_after))

    pub parts_first : table_found (r + 4) ≡ None → None ≡ parts_found
    parts_first e = parts_cut (omega (arith, table_none (r + 4) e, blocks-front (masks_place big file r), end_after))

    module _ (n p : ℕ) (t : Tabled (r + 4) n p) where
      pub parts_second : table_found p ≡ None → None ≡ parts_found
      parts_second e =
          parts_cut
          (omega (arith, table_none (masks_place big file r) (subst (λ (q : ℕ). table_found q ≡ None) t.behind e), end_after))

      module _ (m q : ℕ) (u : Tabled p m q) where
        -- where the mask blocks end
        behind_masks : q ≡ blocks_end big file (masks_place big file r)
        behind_masks = u.behind ∙ ap (blocks_end big file) t.behind

        pub parts_third : length file < q + 4 → None ≡ parts_found
        parts_third h = parts_cut (omega (arith, h, behind_masks, end_after))

        -- where the record ends
        ends : (size bytes : ℕ) → size ≡ size_at big file r → bytes ≡ up 2 size → q + 4 + bytes ≡ record_end
        ends size bytes s b = ap₂ (λ (i j : ℕ). i + 4 + j) behind_masks (b ∙ ap (up 2) s)

        pub parts_fourth : (size bytes : ℕ) → size ≡ size_at big file r → bytes ≡ up 2 size → length file < q + 4 + bytes → None ≡ parts_found
        parts_fourth size bytes s b h = parts_cut (subst (λ (i : ℕ). length file < i) (ends size bytes s b) h)

        -- all parts
        pub parts_whole : (size bytes : ℕ) → size ≡ size_at big file r → bytes ≡ up 2 size → q + 4 + bytes ≤ length file → Some (size, (n, (m, (p, q + 4)))) ≡ parts_found
        parts_whole size bytes s b h =
            found-whole record_end (length file) (parts_of big file r) (size, (n, (m, (p, q + 4)))) (subst (λ (i : ℕ). i ≤ length file) (ends size bytes s b) h)
            (ap₂ (λ (i : ℕ) (x : ℕ × (ℕ × (ℕ × ℕ))). (i, x)) s
            (ap₂ (λ (i : ℕ) (x : ℕ × (ℕ × ℕ)). (i, x)) t.count
            (ap₂ (λ (i : ℕ) (x : ℕ × ℕ). (i, x)) (u.count ∙ ap (block_count big file) t.behind) (ap₂ (λ (i j : ℕ). (i, j + 4)) t.behind behind_masks))))

    -- the parts that were found
    pub record Parted (x : Places) : Type 0 where
      pub whole : x ≡ parts_of big file r
      pub within : record_end ≤ length file

    pub parts_some : (x : Places) → parts_found ≡ Some x → Parted x
    parts_some x e =
        let t = leb record_end (length file) in
        record {
          whole = some_value t (parts_of big file r) x e;
          within = leb-true record_end (length file) (some_test t (parts_of big file r) x e);
        }

    -- the record, where it is sound
    abbrev pub record_found : Option Places
    record_found = pick (is_record big file r) (Some (parts_of big file r)) None

    -- what follows the test of its end
    abbrev tests : Places → Bool
    tests x = all_inside x.0 (blocks_at big file (r + 4)) && (all_inside x.0 (blocks_at big file x.1.1.1.0) && apart (blocks_at big file (r + 4)))

    record_none : is_record big file r ≡ false → None ≡ record_found
    record_none e = found_none (is_record big file r) (parts_of big file r) e

    -- some part is cut
    pub record_cut : parts_found ≡ None → None ≡ record_found
    unfolding is_record
    record_cut e = record_none (ap (λ (t : Bool). t && tests (parts_of big file r)) (none_test (leb record_end (length file)) (parts_of big file r) e))

    module _ (x : Places) (p : Parted x) where
      -- the N blocks lie in the file
      pub blocks-count : x.1.0 ≡ block_count big file (r + 4)
      blocks-count = ap (λ (x : Places). x.1.0) p.whole

      pub blocks-within : blocks_end big file (r + 4) ≤ length file
      blocks-within = omega (arith, p.within, blocks-front (masks_place big file r), end_after)

      -- the other tests decide
      record_is : is_record big file r ≡ tests x
      unfolding is_record
      record_is = ap (λ (t : Bool). t && tests (parts_of big file r)) (le-leb record_end (length file) p.within) ∙ sym (ap tests p.whole)

      -- the three tests
      abbrev pub blocks_in : Bool
      blocks_in = all_inside x.0 (blocks_at big file (r + 4))

      abbrev pub masks_in : Bool
      masks_in = all_inside x.0 (blocks_at big file x.1.1.1.0)

      abbrev pub blocks_apart : Bool
      blocks_apart = apart (blocks_at big file (r + 4))

      -- an N block outside; a mask block outside; N blocks that overlap; none of these
      pub record_blocks : blocks_in ≡ false → None ≡ record_found
      record_blocks e = record_none (record_is ∙ ap (λ (t : Bool). t && (masks_in && blocks_apart)) e)

      pub record_masks : masks_in ≡ false → None ≡ record_found
      record_masks e = record_none (record_is ∙ ap (λ (t : Bool). blocks_in && (t && blocks_apart)) e ∙ and_false blocks_in)

      pub record_shared : blocks_apart ≡ false → None ≡ record_found
      record_shared e =
          record_none (record_is ∙ ap (λ (t : Bool). blocks_in && (masks_in && t)) e ∙ ap (λ (t : Bool). blocks_in && t) (and_false masks_in) ∙ and_false blocks_in)

      pub record_good : blocks_in ≡ true → masks_in ≡ true → blocks_apart ≡ true → Some x ≡ record_found
      record_good e f g =
          found_some (is_record big file r) (parts_of big file r) x (record_is ∙ ap₂ (λ (s t : Bool). s && t) e (ap₂ (λ (s t : Bool). s && t) f g)) p.whole
