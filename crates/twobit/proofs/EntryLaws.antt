-- The header and an entry of the index: what is found of them, and what that tells.
-- Assumes nothing.
use Rattle.std.specs.Prelude.{Option, Some, None}
use mathlib.Core.Bool.{Bool, true, false, ◌&&◌, ◌||◌}
use mathlib.Core.List.{List}
use mathlib.Core.Path.{◌≡◌, refl, sym, ap, ap₂, ◌∙◌}
use Prim.Native.Nat.{ℕ, zero, suc, ◌+◌, ◌-◌, ◌≤◌, ◌<◌}
use native.Mathlib.Numerals.{add-one}
use native.Mathlib.Omega.{arith}
use borrow.Author.Tests.{le-leb, lt-leb, leb-true, leb-false}
use lib.Dec.{leb, eqb}
use lib.ListN.{length}
use Rattle.codes.specs.Codes.{pick}
use Rattle.codes.proofs.RefusalLaws.{both}
use Rattle.dna.specs.Numbers.{number_at}
use Rattle.twobit.specs.Inner.{entry_found, entry_sound}
use Rattle.twobit.specs.Reading.{signed, is_big, good_header, sequences, name_size, offset_at, entry_end, is_record, are_entries}
use Rattle.twobit.proofs.PickLaws.{and_false, and_and, found_none, found_some, found-cut, found-whole, none_test, some_test, some_value}

module _ (file : List ℕ) where
  -- the header, where it is a right one
  abbrev pub header_found : Option (Bool × ℕ)
  header_found = pick (good_header file) (Some (is_big file, sequences file)) None

  -- what follows the size's test
  abbrev rest : Bool
  rest = (signed false file || signed true file) && eqb (number_at (is_big file) 4 file 4) 0

  header_none : good_header file ≡ false → None ≡ header_found
  header_none e = found_none (good_header file) (is_big file, sequences file) e

  -- too few bytes; no signature; another version
  pub header_short : length file < 16 → None ≡ header_found
  unfolding good_header
  header_short h = header_none (ap (λ (t : Bool). t && rest) (lt-leb 16 (length file) h))

  pub header_unsigned : signed false file ≡ false → signed true file ≡ false → None ≡ header_found
  unfolding good_header
  header_unsigned e f =
      header_none
      (ap (λ (t : Bool). leb 16 (length file) && (t && eqb (number_at (is_big file) 4 file 4) 0)) (ap₂ (λ (s t : Bool). s || t) e f) ∙ and_false (leb 16 (length file)))

  pub header_other : eqb (number_at (is_big file) 4 file 4) 0 ≡ false → None ≡ header_found
  unfolding good_header
  header_other e =
      header_none
      (ap (λ (t : Bool). leb 16 (length file) && ((signed false file || signed true file) && t)) e
      ∙ ap (λ (t : Bool). leb 16 (length file) && t) (and_false (signed false file || signed true file))
      ∙ and_false (leb 16 (length file)))

  -- a right header
  pub header_good : (big : Bool) (n : ℕ) → 16 ≤ length file → (signed false file || signed true file) ≡ true → eqb (number_at (is_big file) 4 file 4) 0 ≡ true → big ≡ is_big file
      → n ≡ number_at (is_big file) 4 file 8 → Some (big, n) ≡ header_found
  unfolding good_header sequences
  header_good big n h s v b e =
      found_some (good_header file) (is_big file, sequences file) (big, n)
      (ap (λ (t : Bool). t && rest) (le-leb 16 (length file) h) ∙ ap₂ (λ (s t : Bool). s && t) s v)
      (ap₂ (λ (b : Bool) (m : ℕ). (b, m)) b e)

  -- the header that was found
  pub record Headed (big : Bool) (n : ℕ) : Type 0 where
    pub good : good_header file ≡ true
    pub order : big ≡ is_big file
    pub count : n ≡ sequences file

  -- no right one
  pub header_bad : header_found ≡ None → good_header file ≡ false
  header_bad e = none_test (good_header file) (is_big file, sequences file) e

  pub header_some : (big : Bool) (n : ℕ) → header_found ≡ Some (big, n) → Headed big n
  header_some big n e =
      let v : ◌≡◌ {A = Bool × ℕ} (big, n) (is_big file, sequences file) = some_value (good_header file) (is_big file, sequences file) (big, n) e in
      record {
        good = some_test (good_header file) (is_big file, sequences file) (big, n) e;
        order = ap (λ (x : Bool × ℕ). x.0) v;
        count = ap (λ (x : Bool × ℕ). x.1) v;
      }

module _ (big : Bool) (k : ℕ) (file : List ℕ) (at : ℕ) where
  -- an entry that is cut, and a whole one
  pub entry_cut : length file < entry_end big file k at → None ≡ entry_found big k file at
  entry_cut h = found-cut (entry_end big file k at) (length file) (name_size big file at, (offset_at big file k at, entry_end big file k at)) h

  pub entry_whole : (o : ℕ) → entry_end big file k at ≤ length file → o ≡ number_at big k file (at + 1 + name_size big file at)
      → Some (name_size big file at, (o, at + 1 + name_size big file at + k)) ≡ entry_found big k file at
  unfolding offset_at
  entry_whole o h e =
      found-whole (entry_end big file k at) (length file) (name_size big file at, (offset_at big file k at, entry_end big file k at))
      (name_size big file at, (o, at + 1 + name_size big file at + k)) h
      (ap₂ (λ (m n : ℕ). (name_size big file at, (m, n))) (e ∙ ap (λ (n : ℕ). number_at big k file (n + name_size big file at)) (add-one at)) (omega arith))

  -- the entry that was found
  pub record Noted (size offset end : ℕ) : Type 0 where
    pub named : size ≡ name_size big file at
    pub placed : offset ≡ offset_at big file k at
    pub behind : end ≡ entry_end big file k at
    pub within : entry_end big file k at ≤ length file

  -- none was found
  pub entry_none : entry_found big k file at ≡ None → length file < entry_end big file k at
  entry_none e =
      leb-false (entry_end big file k at) (length file)
      (none_test (leb (entry_end big file k at) (length file)) (name_size big file at, (offset_at big file k at, entry_end big file k at)) e)

  pub entry_some : (size offset end : ℕ) → entry_found big k file at ≡ Some (size, (offset, end)) → Noted size offset end
  entry_some size offset end e =
      let t = leb (entry_end big file k at) (length file) in
      let x : ℕ × (ℕ × ℕ) = (name_size big file at, (offset_at big file k at, entry_end big file k at)) in
      let v : (size, (offset, end)) ≡ x = some_value t x (size, (offset, end)) e in
      record {
        named = ap (λ (y : ℕ × (ℕ × ℕ)). y.0) v;
        placed = ap (λ (y : ℕ × (ℕ × ℕ)). y.1.0) v;
        behind = ap (λ (y : ℕ × (ℕ × ℕ)). y.1.1) v;
        within = leb-true (entry_end big file k at) (length file) (some_test t x (size, (offset, end)) e);
      }

  -- ---- whether it and its record are sound

  abbrev in_file : Bool
  in_file = leb (entry_end big file k at) (length file)

  abbrev sound_record : Bool
  sound_record = is_record big file (offset_at big file k at)

  sound_none : (in_file && sound_record) ≡ false → None ≡ entry_sound big k file at
  sound_none e = found_none (in_file && sound_record) (entry_end big file k at, offset_at big file k at) e

  -- the entry is cut; its record is bad; both are sound
  pub sound_cut : entry_found big k file at ≡ None → None ≡ entry_sound big k file at
  sound_cut e = sound_none (ap (λ (t : Bool). t && sound_record) (lt-leb (entry_end big file k at) (length file) (entry_none e)))

  module _ (size offset end : ℕ) (h : Noted size offset end) where
    pub sound_bad : is_record big file offset ≡ false → None ≡ entry_sound big k file at
    sound_bad e = sound_none (ap (λ (t : Bool). in_file && t) (ap (is_record big file) (sym h.placed) ∙ e) ∙ and_false in_file)

    pub sound_good : is_record big file offset ≡ true → Some (end, offset) ≡ entry_sound big k file at
    sound_good e =
        found_some (in_file && sound_record) (entry_end big file k at, offset_at big file k at) (end, offset)
        (ap₂ (λ (s t : Bool). s && t) (le-leb (entry_end big file k at) (length file) h.within) (ap (is_record big file) (sym h.placed) ∙ e))
        (ap₂ (λ (m n : ℕ). (m, n)) h.behind h.placed)

  -- ---- n entries from here on

  -- the first one, then the others
  entries_first : (n : ℕ) → are_entries big file k (suc n) at ≡ ((in_file && sound_record) && are_entries big file k n (entry_end big file k at))
  unfolding are_entries
  entries_first n = and_and in_file sound_record (are_entries big file k n (entry_end big file k at))

  -- none; a bad one; a sound one, and the others
  pub entries_none : are_entries big file k 0 at ≡ true
  unfolding are_entries
  entries_none = refl

  pub entries_bad : (n : ℕ) → 0 < n → entry_sound big k file at ≡ None → are_entries big file k n at ≡ false
  entries_bad zero l e = absurd (omega arith)
  entries_bad (suc n) l e =
      entries_first n
      ∙ ap (λ (t : Bool). t && are_entries big file k n (entry_end big file k at)) (none_test (in_file && sound_record) (entry_end big file k at, offset_at big file k at) e)

  module _ (end offset : ℕ) (e : entry_sound big k file at ≡ Some (end, offset)) where
    abbrev found : ℕ × ℕ
    found = (entry_end big file k at, offset_at big file k at)

    value : ◌≡◌ {A = ℕ × ℕ} (end, offset) found
    value = some_value (in_file && sound_record) found (end, offset) e

    pub entries_next : (n : ℕ) → 0 < n → are_entries big file k n at ≡ are_entries big file k (n - 1) end
    entries_next zero l = absurd (omega arith)
    entries_next (suc n) l =
        let m : n ≡ suc n - 1 = omega arith in
        entries_first n
        ∙ ap (λ (t : Bool). t && are_entries big file k n (entry_end big file k at)) (some_test (in_file && sound_record) found (end, offset) e)
        ∙ ap₂ (are_entries big file k) m (sym (ap (λ (x : ℕ × ℕ). x.0) value))

    -- its record is sound
    pub record_sound : is_record big file offset ≡ true
    record_sound =
        ap (λ (x : ℕ × ℕ). is_record big file x.1) value ∙ (both in_file sound_record (some_test (in_file && sound_record) found (end, offset) e)).1
