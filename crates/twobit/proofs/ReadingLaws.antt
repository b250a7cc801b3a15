-- The answers of check, first and entry, from what was found.
-- Assumes nothing.
use Rattle.std.specs.Prelude.{Ok, Err, None}
use mathlib.Core.Bool.{Bool, true, false, ◌&&◌, not}
use mathlib.Core.List.{List, [], ◌∷◌}
use mathlib.Core.Path.{◌≡◌, refl, sym, ap, ap₂, ◌∙◌, subst}
use Prim.Native.Nat.{ℕ, suc, ◌+◌, ◌≤◌, ◌<◌}
use native.Mathlib.Numerals.{add-one}
use borrow.Author.Tests.{le-leb, lt-leb, lt-ltb, le-ltb}
use lib.Dec.{leb, ltb}
use lib.ListN.{length}
use Rattle.codes.specs.Refusals.{Test, answer, first}
use Rattle.codes.specs.declared.refusals.Refusal.TheVariants.{BadRange, BadForm}
use Rattle.codes.proofs.OutcomeLaws.{answer_done}
use Rattle.codes.proofs.TestLaws.{first_at, answer_at}
use Rattle.twobit.specs.Inner.{entry_found}
use Rattle.twobit.specs.Files.{header_size, offset_size}
use Rattle.twobit.specs.Reading.{is_big, good_header, sequences, name_size, offset_at, entry_end, are_entries, is_two_bit, bad_form, check_answer, first_answer, Entered, no_entry, entry_tests, entry_answer}
use Rattle.twobit.proofs.EntryLaws.{header_found, Headed, header_bad, Noted, entry_none}

module _ (file : List ℕ) where
  -- the index and the records of a file with a right header
  abbrev body : Bool
  body = are_entries (is_big file) file offset_size (sequences file) header_size

  -- check: no sound file
  check_bad : is_two_bit file ≡ false → answer (Err BadForm) 0 0 ≡ check_answer file
  unfolding check_answer
  check_bad e = answer_at 0 (bad_form (is_two_bit file) ∷ []) BadForm (sequences file) 0 refl (ap not e)

  -- check, first: no right header
  pub check_header : header_found file ≡ None → answer (Err BadForm) 0 0 ≡ check_answer file
  unfolding is_two_bit
  check_header e = check_bad (ap (λ (t : Bool). t && body) (header_bad file e))

  pub first_header : header_found file ≡ None → answer {A = ℕ × ℕ} (Err BadForm) (0, 0) (0, 0) ≡ first_answer file
  unfolding first_answer
  first_header e = answer_at 0 (bad_form (good_header file) ∷ []) BadForm (0, header_size) (0, 0) refl (ap not (header_bad file e))

  module _ (big : Bool) (n : ℕ) (h : Headed file big n) where
    -- check: behind a right header the entries decide
    check_is : is_two_bit file ≡ are_entries big file offset_size n header_size
    unfolding is_two_bit
    check_is = ap (λ (t : Bool). t && body) h.good ∙ sym (ap₂ (λ (b : Bool) (m : ℕ). are_entries b file offset_size m header_size) h.order h.count)

    pub check_entries : are_entries big file offset_size n header_size ≡ false → answer (Err BadForm) 0 0 ≡ check_answer file
    check_entries e = check_bad (check_is ∙ e)

    pub check_done : are_entries big file offset_size n header_size ≡ true → answer (Ok tt) n 0 ≡ check_answer file
    unfolding check_answer
    check_done e =
        answer_done (first (bad_form (is_two_bit file) ∷ [])) n (sequences file) 0 (sym (first_at 1 (bad_form (is_two_bit file) ∷ []) (ap not (check_is ∙ e), tt))) h.count

    -- first: behind it the index begins
    pub first_done : answer {A = ℕ × ℕ} (Ok tt) (0, header_size) (0, 0) ≡ first_answer file
    unfolding first_answer
    first_done =
        answer_done (first (bad_form (good_header file) ∷ [])) (0, header_size) (0, header_size) (0, 0) (sym (first_at 1 (bad_form (good_header file) ∷ []) (ap not h.good, tt))) refl

module _ (k : ℕ) (file : List ℕ) (number at : ℕ) where
  abbrev tests : List Test
  tests = entry_tests k file number at

  -- the values of an answer that is given
  abbrev values : Entered
  values = ((suc at, name_size (is_big file) file at), (offset_at (is_big file) file k at, (suc number, entry_end (is_big file) file k at)))

  -- no right header
  pub entry_header : header_found file ≡ None → answer (Err BadForm) no_entry no_entry ≡ entry_answer k file number at
  unfolding entry_answer
  entry_header e = answer_at 0 tests BadForm values no_entry refl (ap not (header_bad file e))

  module _ (big : Bool) (n : ℕ) (h : Headed file big n) where
    -- the header's number of sequences is the definition's
    past : leb n number ≡ leb (sequences file) number
    past = ap (λ (m : ℕ). leb m number) h.count

    -- no such entry
    pub entry_past : n ≤ number → answer (Err BadRange) no_entry no_entry ≡ entry_answer k file number at
    unfolding entry_answer
    entry_past l = answer_at 1 tests BadRange values no_entry refl (ap not h.good, sym past ∙ le-leb n number l)

    module _ (l : number < n) where
      known : leb (sequences file) number ≡ false
      known = sym past ∙ lt-leb n number l

      -- the entry is cut
      pub entry_short : entry_found big k file at ≡ None → answer (Err BadForm) no_entry no_entry ≡ entry_answer k file number at
      unfolding entry_answer
      entry_short e =
          answer_at 2 tests BadForm values no_entry refl (
            ap not h.good,
            (
              known,
              ap not
                  (lt-leb (entry_end (is_big file) file k at) (length file) (entry_none (is_big file) k file at (subst (λ (b : Bool). entry_found b k file at ≡ None) h.order e))),
            ),
          )

      module _ (size offset end : ℕ) (w : Noted big k file at size offset end) where
        -- in the file's byte order
        v : Noted (is_big file) k file at size offset end
        v = subst (λ (b : Bool). Noted b k file at size offset end) h.order w

        in_file : not (leb (entry_end (is_big file) file k at) (length file)) ≡ false
        in_file = ap not (le-leb (entry_end (is_big file) file k at) (length file) v.within)

        -- the offset that was read is the definition's
        far : ltb offset (length file) ≡ ltb (offset_at (is_big file) file k at) (length file)
        far = ap (λ (m : ℕ). ltb m (length file)) v.placed

        -- a record behind the file
        pub entry_far : length file ≤ offset → answer (Err BadForm) no_entry no_entry ≡ entry_answer k file number at
        unfolding entry_answer
        entry_far g =
            answer_at 3 tests BadForm values no_entry refl (ap not h.good, (known, (in_file, ap not (sym far ∙ le-ltb offset (length file) g))))

        -- an entry that is given
        pub entry_done : offset < length file → answer {A = Entered} (Ok tt) ((at + 1, size), (offset, (number + 1, end))) no_entry ≡ entry_answer k file number at
        unfolding entry_answer
        entry_done g =
            answer_done (first tests) ((at + 1, size), (offset, (number + 1, end))) values no_entry
            (sym (first_at 4 tests (ap not h.good, (known, (in_file, (ap not (sym far ∙ lt-ltb offset (length file) g), tt))))))
            (ap₂ (λ (a : ℕ × ℕ) (b : ℕ × (ℕ × ℕ)). (a, b)) (ap₂ (λ (a b : ℕ). (a, b)) (add-one at) v.named)
            (ap₂ (λ (a : ℕ) (b : ℕ × ℕ). (a, b)) v.placed (ap₂ (λ (a b : ℕ). (a, b)) (add-one number) v.behind)))
