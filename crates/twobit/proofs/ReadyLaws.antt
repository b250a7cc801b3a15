-- Whether a record can be read: the refusals in their order; what holds where none applies.
-- Assumes nothing.
use Rattle.std.specs.Prelude.{Ok, Err, Some, None}
use mathlib.Core.Bool.{Bool, true, false, ◌&&◌, not}
use mathlib.Core.List.{List, [], ◌∷◌}
use mathlib.Core.Path.{◌≡◌, refl, sym, ap, ap₂, ◌∙◌, subst}
use Prim.Native.Nat.{ℕ, ◌+◌, ◌^◌, ◌≤◌}
use native.Mathlib.Omega.{arith}
use borrow.Author.Tests.{leb-true, ltb-false, not-false}
use lib.Dec.{leb, ltb}
use lib.ListN.{length}
use Rattle.codes.specs.Codes.{up, trailing, char_at, tab}
use Rattle.codes.specs.Refusals.{Test, Answer, answer, first, too_long, bad_store}
use Rattle.codes.specs.Words.{packed}
use Rattle.codes.specs.declared.refusals.Refusal.TheVariants.{TooLong, BadForm, NoRoom}
use Rattle.codes.proofs.OutcomeLaws.{answer_done}
use Rattle.codes.proofs.RefusalLaws.{answer-outcome, answer-values, both}
use Rattle.codes.specs.Widths.{width_2}
use Rattle.codes.proofs.WidthLaws.{up-hi}
use Rattle.dna.specs.Dna.{bases_at}
use Rattle.forms.specs.Reading.{filled_with}
use Rattle.codes.proofs.TestLaws.{first_at, first_none, answer_at}
use Rattle.twobit.specs.Blocks.{all_inside, flag_under}
use Rattle.twobit.specs.Inner.{Places, parts_of, Held, none_held, held_at}
use Rattle.twobit.specs.Reading.{block_count, blocks_end, blocks_at, size_at, masks_place, dna_place, is_record, is_big, good_header, flags_of, bases_of}
use Rattle.twobit.specs.Reading.{no_info, bad_record, info_outcome, info_answer, record_tests}
use Rattle.twobit.proofs.PickLaws.{and_false, none_test, some_test, some_value}
use Rattle.twobit.proofs.EntryLaws.{header_found, Headed, header_bad}
use Rattle.twobit.proofs.FillLaws.{bases_filled}
use Rattle.twobit.proofs.RecordLaws.{record_found, blocks-front}

-- ---- a header and a record, whatever the buffers are

module _ (file : List ℕ) (r : ℕ) where
  abbrev good : Bool
  good = good_header file && is_record (is_big file) file r

  -- no right header, or no sound record
  good_header_lem : header_found file ≡ None → good ≡ false
  good_header_lem e = ap (λ (t : Bool). t && is_record (is_big file) file r) (header_bad file e)

  module _ (big : Bool) (k : ℕ) (h : Headed file big k) where
    good_record : record_found big file r ≡ None → good ≡ false
    good_record e =
        ap (λ (t : Bool). good_header file && t)
        (ap (λ (b : Bool). is_record b file r) (sym h.order) ∙ none_test (is_record big file r) (parts_of big file r) e)
        ∙ and_false (good_header file)

    module _ (x : Places) (e : record_found big file r ≡ Some x) where
      -- its parts, in the file's byte order
      whole : x ≡ parts_of (is_big file) file r
      whole = some_value (is_record big file r) (parts_of big file r) x e ∙ ap (λ (b : Bool). parts_of b file r) h.order

      sound : not good ≡ false
      sound =
          ap not
          (ap₂ (λ (s t : Bool). s && t) h.good
          (ap (λ (b : Bool). is_record b file r) (sym h.order) ∙ some_test (is_record big file r) (parts_of big file r) x e))

      -- what is told of it
      pub info_done : (len : ℕ) → len ≡ x.0 → answer (Ok tt) (len, (x.1.0, x.1.1.0)) no_info ≡ info_answer file r
      unfolding info_answer info_outcome
      info_done len el =
          answer_done (info_outcome file r) (len, (x.1.0, x.1.1.0)) _ no_info (sym (first_at 1 (bad_record file r ∷ []) (sound, tt)))
          (ap (λ (n : ℕ). (n, (x.1.0, x.1.1.0))) el ∙ ap (λ (y : Places). (y.0, (y.1.0, y.1.1.0))) whole)

    pub info_record : record_found big file r ≡ None → answer (Err BadForm) no_info no_info ≡ info_answer file r
    unfolding info_answer info_outcome
    info_record e = answer_at 0 (bad_record file r ∷ []) BadForm _ no_info refl (ap not (good_record e))

  pub info_header : header_found file ≡ None → answer (Err BadForm) no_info no_info ≡ info_answer file r
  unfolding info_answer info_outcome
  info_header e = answer_at 0 (bad_record file r ∷ []) BadForm _ no_info refl (ap not (good_header_lem e))

module _ (file : List ℕ) (r m n : ℕ) where
  abbrev tests : List Test
  tests = record_tests file r m n

  -- what is held where no test holds
  abbrev pub ready_answer : Answer Held
  ready_answer = answer (first tests) (held_at file r) none_held

  -- the first buffer is too long, or the second
  pub ready_first : (too_long m).0 ≡ true → answer (Err TooLong) none_held none_held ≡ ready_answer
  ready_first e = answer_at 0 tests TooLong (held_at file r) none_held refl e

  module _ (em : (too_long m).0 ≡ false) where
    pub ready_second : (too_long n).0 ≡ true → answer (Err TooLong) none_held none_held ≡ ready_answer
    ready_second e = answer_at 1 tests TooLong (held_at file r) none_held refl (em, e)

    module _ (en : (too_long n).0 ≡ false) where
      ready_bad : good file r ≡ false → answer (Err BadForm) none_held none_held ≡ ready_answer
      ready_bad e = answer_at 2 tests BadForm (held_at file r) none_held refl (em, (en, ap not e))

      -- no right header, or no sound record
      pub ready_header : header_found file ≡ None → answer (Err BadForm) none_held none_held ≡ ready_answer
      ready_header e = ready_bad (good_header_lem file r e)

      module _ (big : Bool) (k : ℕ) (h : Headed file big k) where
        pub ready_record : record_found big file r ≡ None → answer (Err BadForm) none_held none_held ≡ ready_answer
        ready_record e = ready_bad (good_record file r big k h e)

        module _ (x : Places) (e : record_found big file r ≡ Some x) where
          size_is : x.0 ≡ size_at (is_big file) file r
          size_is = ap (λ (y : Places). y.0) (whole file r big k h x e)

          right : not (good file r) ≡ false
          right = sound file r big k h x e

          -- whether a store of that length fits k bytes
          fits : (w k len : ℕ) (b : Bool) → len ≡ x.0 → b ≡ (bad_store w k len).0 → ltb k (up w (size_at (is_big file) file r) + trailing) ≡ b
          fits w k len b el eb = sym (eb ∙ ap (λ (i : ℕ). ltb k (up w i + trailing)) (el ∙ size_is))

          -- no room for the bases, or none for the flags; else the record is ready
          pub ready_bases : (len : ℕ) → len ≡ x.0 → true ≡ (bad_store 2 m len).0 → answer (Err NoRoom) none_held none_held ≡ ready_answer
          ready_bases len el eb = answer_at 3 tests NoRoom (held_at file r) none_held refl (em, (en, (right, fits 2 m len true el eb)))

          module _ (len : ℕ) (el : len ≡ x.0) (eb : false ≡ (bad_store 2 m len).0) where
            pub ready_flags : true ≡ (bad_store 1 n len).0 → answer (Err NoRoom) none_held none_held ≡ ready_answer
            ready_flags eb' =
                answer_at 4 tests NoRoom (held_at file r) none_held refl (em, (en, (right, (fits 2 m len false el eb, fits 1 n len true el eb'))))

            pub ready_done : false ≡ (bad_store 1 n len).0 → answer {A = Held} (Ok tt) (big, (x.0, (x.1.0, (x.1.1.0, x.1.1.1.1)))) none_held ≡ ready_answer
            ready_done eb' =
                answer_done (first tests) (big, (x.0, (x.1.0, (x.1.1.0, x.1.1.1.1)))) (held_at file r) none_held
                (sym (first_at 5 tests (em, (en, (right, (fits 2 m len false el eb, (fits 1 n len false el eb', tt)))))))
                (ap₂ (λ (b : Bool) (y : Places). (b, (y.0, (y.1.0, (y.1.1.0, y.1.1.1.1))))) h.order (whole file r big k h x e))

  -- ---- a record that can be read

  -- its byte order, size, number of N blocks and place of bases are the definition's, and lie where they are asked to
  pub record Readable (x : Held) : Type 0 where
    pub done : first tests ≡ Ok tt
    pub whole : x ≡ held_at file r
    pub count : x.1.1.0 ≡ block_count x.0 file (r + 4)
    pub inside : all_inside x.1.0 (blocks_at x.0 file (r + 4)) ≡ true
    pub within : blocks_end x.0 file (r + 4) ≤ length file
    pub bases_in : x.1.1.1.1 + up 2 x.1.0 ≤ length file
    pub base_room : up 2 x.1.0 + trailing ≤ m
    pub flag-room : up 1 x.1.0 + trailing ≤ n
    pub few : x.1.0 ≤ 2 ^ 32

  held_readable : first tests ≡ Ok tt → Readable (held_at file r)
  unfolding is_record
  held_readable e =
      let t = first_none tests e in
      let big = is_big file in
      let size = size_at big file r in
      let g = (both (good_header file) (is_record big file r) (not-false (good file r) t.1.1.0)).1 in
      let p = both (leb (dna_place big file r + up 2 size) (length file)) _ g in
      let q = both (all_inside size (blocks_at big file (r + 4))) _ p.1 in
      let l : dna_place big file r + up 2 size ≤ length file = leb-true (dna_place big file r + up 2 size) (length file) p.0 in
      let b : up 2 size + trailing ≤ m = ltb-false m (up 2 size + trailing) t.1.1.1.0 in
      record {
        done = e;
        whole = refl;
        count = refl;
        inside = q.0;
        within = omega (arith, l, blocks-front big file (masks_place big file r));
        bases_in = l;
        base_room = b;
        flag-room = ltb-false n (up 1 size + trailing) t.1.1.1.1.0;
        few = omega (arith, b, ltb-false (2 ^ 28) m t.0, up-hi width_2 size);
      }

  pub readable : (x : Held) → answer (Ok tt) x none_held ≡ ready_answer → Readable x
  readable x e =
      let d = sym (answer-outcome (Ok tt) (first tests) x (held_at file r) none_held none_held e) in
      let v = answer-values x (held_at file r) none_held none_held (e ∙ ap (λ (o : _). answer o (held_at file r) none_held) d) in
      subst Readable (sym v) (held_readable d)

  module _ (x : Held) (h : Readable x) where
    -- the flags that are read are the definition's
    abbrev flags_read : List ℕ
    flags_read = tab x.1.0 (flag_under (blocks_at x.0 file (r + 4)))

    pub flags_read_lem : flags_read ≡ flags_of (is_big file) file r
    unfolding flags_of
    flags_read_lem = ap (λ (y : Held). tab y.1.0 (flag_under (blocks_at y.0 file (r + 4)))) h.whole

    -- and so are the bases, under a store of those flags
    pub bases_read : (old new : List ℕ) → new ≡ filled_with (packed 1 flags_read) old → bases_at file x.1.1.1.1 x.1.0 (char_at 1 new) ≡ bases_of (is_big file) file r
    unfolding bases_of
    bases_read old new e =
        ap (λ (s : List ℕ). bases_at file x.1.1.1.1 x.1.0 (char_at 1 s)) e
        ∙ bases_filled file x.1.1.1.1 x.1.0 (blocks_at x.0 file (r + 4)) old
        ∙ ap (λ (y : Held). bases_at file y.1.1.1.1 y.1.0 (flag_under (blocks_at y.0 file (r + 4)))) h.whole
