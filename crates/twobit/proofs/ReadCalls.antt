-- What the calls answer on a file of sequences, in either byte order, and what they leave in the two lent buffers: of whatever satisfies
-- their contracts. The sequence that is looked at stands behind some others and before some others.
-- Assumes nothing.
use Rattle.std.specs.Prelude.{Ok}
use mathlib.Core.Bool.{Bool, true, false}
use mathlib.Core.List.{List, [], ◌∷◌, ◌++◌, append_assoc}
use mathlib.Core.Path.{◌≡◌, sym, ap, ap₂, ◌∙◌, subst}
use Prim.Native.Nat.{ℕ, suc, ◌+◌, ◌*◌, ◌/◌, ◌%◌, ◌^◌, ◌≤◌, ◌<◌}
use native.Mathlib.Nat.{div-lt_iff_lt-mul}
use native.Mathlib.Omega.{arith}
use borrow.Author.Tests.{le-leb, lt-leb, lt-ltb, le-ltb}
use lib.Dec.{eqb, lit<}
use lib.ListN.{length, get_or, take, drop, replicate, length-append, length-replicate, get_or-append}
use lib.Seq.{take_at, drop_at, drop-drop}
use Rattle.codes.specs.Codes.{IsWidth, per, up, trailing, pick, char_at, chars}
use Rattle.codes.specs.Refusals.{answer}
use Rattle.codes.specs.Words.{packed}
use Rattle.codes.proofs.CharLaws.{chars-ext, unpacked}
use Rattle.codes.proofs.Permitted.{Called}
use Rattle.codes.proofs.OutcomeLaws.{answer_done, gives_done}
use Rattle.codes.proofs.RefusalLaws.{says-once}
use Rattle.codes.proofs.TabLaws.{Below-tab, Below-get_or, length-tab}
use Rattle.codes.specs.Widths.{width_1, width_2}
use Rattle.codes.proofs.WidthLaws.{per_pos, up-hi}
use Rattle.codes.proofs.WordLaws.{Below}
use Rattle.fields.specs.Runs.{runs}
use Rattle.forms.specs.Reading.{filled_with}
use Rattle.forms.proofs.TrackLaws.{length-packed}
use Rattle.twobit.specs.Files.{Sequence, header_size, offset_size, entry_size, entry_of, record_of, record_size, index_of, records_of, names_size, index_end, file_of}
use Rattle.twobit.specs.Reading.{is_big, good_header, sequences, block_count, size_at, masks_place, is_record, offset_at, entry_end, no_entry, no_info}
use Rattle.twobit.specs.Reading.{check_answer, first_answer, entry_outcome, entry_answer, info_outcome, info_answer, record_outcome, record_answer, bases_after, flags_after}
use Rattle.twobit.proofs.BackLaws.{size_back, count_back, masks_back, sound_back, record_flags, record_bases, name-size, name_back, offset-back, entry_end_lem, entry_within}
use Rattle.twobit.proofs.BaseLaws.{under_three}
use Rattle.codes.proofs.AnswerLaws.{told}
use Rattle.twobit.proofs.Decided.{cursor_told, entry_told, info_told, read_told}
use Rattle.twobit.proofs.FileLaws.{length-index, records_size, Even, length-records, names_append, records_append, index_append}
use Rattle.twobit.proofs.PlaceLaws.{behind}
use Rattle.twobit.proofs.ReadBack.{Fit, AllFit, Near, accepted, counted, ordered-as, header_good, at_index, at_records}
use Rattle.twobit.proofs.Sound.{sound_accepted, place_from, first_done, record_within}
use Rattle.twobit.proofs.reading.check.Kinds as check·kinds
use Rattle.twobit.proofs.reading.check.Reads as check
use Rattle.twobit.proofs.reading.first.Kinds as first·kinds
use Rattle.twobit.proofs.reading.first.Reads as first
use Rattle.twobit.proofs.reading.entry.Kinds as entry·kinds
use Rattle.twobit.proofs.reading.entry.Reads as entry
use Rattle.twobit.proofs.reading.record_info.Kinds as record-info·kinds
use Rattle.twobit.proofs.reading.record_info.Reads as record-info
use Rattle.twobit.proofs.reading.record.Kinds as record·kinds
use Rattle.twobit.proofs.reading.record.Reads as record·reads

-- ---- a store that was filled

-- a buffer holds these n characters as a store: their bytes, 48 zeros, and later bytes as they were
pub record Holds (w n : ℕ) (cs old new : List ℕ) : Type 0 where
  pub characters : chars w new 0 n ≡ cs
  pub bytes : take (up w n) new ≡ packed w cs
  pub zeros : take trailing (drop (up w n) new) ≡ replicate trailing 0
  pub later : drop (up w n + trailing) new ≡ drop (up w n + trailing) old

-- what is filled holds its characters
module _ {w : ℕ} (W : IsWidth w) (cs old zs : List ℕ) (t : ℕ) (few : length zs ≡ t) where
  abbrev new : List ℕ
  new = packed w cs ++ (zs ++ drop (length (packed w cs) + t) old)

  behind_bytes : drop (up w (length cs)) new ≡ zs ++ drop (length (packed w cs) + t) old
  behind_bytes = drop_at (packed w cs) (zs ++ drop (length (packed w cs) + t) old) (up w (length cs)) (length-packed W cs)

  filled-chars : Below w cs → chars w new 0 (length cs) ≡ cs
  unfolding char_at
  filled-chars b =
      chars-ext w new (packed w cs) 0 0 (length cs)
      (λ i l. ap (λ (c : ℕ). c / 2 ^ (w * ((0 + i) % per w)) % 2 ^ w)
      (get_or-append (packed w cs) (zs ++ drop (length (packed w cs) + t) old) 0 ((0 + i) / per w)
      ((div-lt_iff_lt-mul (per_pos W)).1 (omega (arith, up-hi W (length cs), ap (λ (n : ℕ). n * per w) (length-packed W cs))))))
      ∙ unpacked W cs b

  filled-bytes : take (up w (length cs)) new ≡ packed w cs
  filled-bytes = take_at (packed w cs) (zs ++ drop (length (packed w cs) + t) old) (up w (length cs)) (length-packed W cs)

  filled-zeros : take t (drop (up w (length cs)) new) ≡ zs
  filled-zeros = ap (take t) behind_bytes ∙ take_at zs (drop (length (packed w cs) + t) old) t few

  filled-later : drop (up w (length cs) + t) new ≡ drop (up w (length cs) + t) old
  filled-later =
      sym (drop-drop t (up w (length cs)) new) ∙ ap (drop t) behind_bytes ∙ drop_at zs (drop (length (packed w cs) + t) old) t few
      ∙ ap (λ (n : ℕ). drop (n + t) old) (length-packed W cs)

filled-holds : {w : ℕ} → IsWidth w → (cs old : List ℕ) → Below w cs → Holds w (length cs) cs old (filled_with (packed w cs) old)
filled-holds W cs old b =
    let few = length-replicate {A = ℕ} trailing 0 in
    record {
      characters = filled-chars W cs old (replicate trailing 0) trailing few b;
      bytes = filled-bytes W cs old (replicate trailing 0) trailing few;
      zeros = filled-zeros W cs old (replicate trailing 0) trailing few;
      later = filled-later W cs old (replicate trailing 0) trailing few;
    }

-- code 3 under each flag is a code, and there are as many
three_fits : (b : Bool) (c : ℕ) → c < 4 → pick b c 3 < 4
three_fits true c h = h
three_fits false c h = lit< tt

Below-three : (cs fs : List ℕ) → Below 2 cs → Below 2 (under_three cs fs)
Below-three cs fs b = Below-tab 2 (length cs) _ (λ i. three_fits (eqb (get_or fs i 0) 0) (get_or cs i 0) (Below-get_or 2 cs b i))

three_holds : (cs fs old : List ℕ) → length cs ≡ length fs → Below 2 cs → Holds 2 (length fs) (under_three cs fs) old (filled_with (packed 2 (under_three cs fs)) old)
three_holds cs fs old e b =
    subst (λ (n : ℕ). Holds 2 n (under_three cs fs) old (filled_with (packed 2 (under_three cs fs)) old)) (length-tab (length cs) _ ∙ e)
    (filled-holds width_2 (under_three cs fs) old (Below-three cs fs b))

-- ---- an entry and a record that stand in a file with a good header

module _ (big : Bool) (file : List ℕ) (order : is_big file ≡ big) (good : good_header file ≡ true) where
  module _ (at off i : ℕ) (name rest : List ℕ) (l : off < 2 ^ (8 * offset_size)) (d : drop at file ≡ entry_of big offset_size name off ++ rest) where
    offset-is : offset_at (is_big file) file offset_size at ≡ off
    offset-is = rw order (offset-back big file offset_size at name off rest d l)

    end_is : entry_end (is_big file) file offset_size at ≡ at + entry_size offset_size (length name)
    end_is = entry_end_lem big file offset_size at name off rest d

    entry_outcome_lem : i < sequences file → off < length file → entry_outcome offset_size file i at ≡ Ok tt
    unfolding entry_outcome
    entry_outcome_lem h m =
        let within : entry_end (is_big file) file offset_size at ≤ length file = entry_within big file offset_size at name off rest d in
        let there : offset_at (is_big file) file offset_size at < length file = rw offset-is m in
        simp (good, lt-leb (sequences file) i h, le-leb _ _ within, lt-ltb _ _ there)

    entry_is : i < sequences file → off < length file
        → entry_answer offset_size file i at ≡ answer (Ok tt) ((suc at, length name), (off, (suc i, at + entry_size offset_size (length name)))) no_entry
    unfolding entry_answer
    entry_is h m =
        sym
        (answer_done (entry_outcome offset_size file i at) _ _ no_entry (entry_outcome_lem h m)
        (λ t. ((suc at, sym (name-size big file offset_size at name off rest d) t), (sym offset-is t, (suc i, sym end_is t)))))

  module _ (r : ℕ) (cs fs rest : List ℕ) (equal : length cs ≡ length fs) (few : length fs < 2 ^ 32) (e : drop r file ≡ record_of big cs fs ++ rest) where
    long : size_at (is_big file) file r ≡ length fs
    long = rw order (size_back big file r cs fs rest equal few e)

    unmasked : block_count (is_big file) file (masks_place (is_big file) file r) ≡ 0
    unmasked = rw order (masks_back big file r cs fs rest equal few e)

    sound : is_record (is_big file) file r ≡ true
    sound = rw order (sound_back big file r cs fs rest equal few e)

    info_is : info_answer file r ≡ answer (Ok tt) (length fs, (length (runs fs), 0)) no_info
    unfolding info_answer info_outcome
    info_is =
        let done : info_outcome file r ≡ Ok tt = simp (good, sound) in
        let blocks : block_count (is_big file) file (r + 4) ≡ length (runs fs) = rw order (count_back big file r cs fs rest equal few e) in
        sym (answer_done (info_outcome file r) (length fs, (length (runs fs), 0)) _ no_info done (λ t. (sym long t, (sym blocks t, sym unmasked t))))

    module _ (bases flags : List ℕ) where
      record_outcome_lem : length bases ≤ 2 ^ 28 → length flags ≤ 2 ^ 28 → up 2 (length fs) + trailing ≤ length bases → up 1 (length fs) + trailing ≤ length flags
          → record_outcome file r bases flags ≡ Ok tt
      unfolding record_outcome
      record_outcome_lem a b c d =
          let m : up 2 (size_at (is_big file) file r) + trailing ≤ length bases = rw long c in
          let n : up 1 (size_at (is_big file) file r) + trailing ≤ length flags = rw long d in
          simp (le-ltb _ _ a, le-ltb _ _ b, good, sound, le-ltb _ _ m, le-ltb _ _ n)

      module _ (done : record_outcome file r bases flags ≡ Ok tt) where
        record_is : record_answer file r bases flags ≡ answer (Ok tt) (length fs, 0) (0, 0)
        unfolding record_answer
        record_is =
            sym
            (answer_done (record_outcome file r bases flags) (length fs, 0)
            (size_at (is_big file) file r, block_count (is_big file) file (masks_place (is_big file) file r)) (0, 0) done
            (ap₂ (λ (m n : ℕ). (m, n)) (sym long) (sym unmasked)))

        record_base_bytes : Below 2 cs → Below 1 fs → bases_after file r bases flags ≡ filled_with (packed 2 (under_three cs fs)) bases
        unfolding bases_after
        record_base_bytes codes marks =
            sym (gives_done (record_outcome file r bases flags) _ bases done)
            ∙ ap (λ (l : List ℕ). filled_with (packed 2 l) bases) (rw order (record_bases big file r cs fs rest equal few e codes marks))

        record_flag_bytes : Below 1 fs → flags_after file r bases flags ≡ filled_with (packed 1 fs) flags
        unfolding flags_after
        record_flag_bytes marks =
            sym (gives_done (record_outcome file r bases flags) _ flags done)
            ∙ ap (λ (l : List ℕ). filled_with (packed 1 l) flags) (rw order (record_flags big file r cs fs rest equal few e marks))

-- ---- where the entries and the records stand

-- the sequence behind some others fits, and its record's offset is a number of k bytes
fit_at : (pre : List Sequence) (s : Sequence) (post : List Sequence) → AllFit (pre ++ s ∷ post) → Fit s
fit_at [] s post f = f.0
fit_at (p ∷ pre) s post f = fit_at pre s post f.1

near_at : (k at : ℕ) (pre : List Sequence) (s : Sequence) (post : List Sequence) → Near k at (pre ++ s ∷ post) → at + records_size pre < 2 ^ (8 * k)
near_at k at [] s post n = subst (λ (m : ℕ). m < 2 ^ (8 * k)) (let q : at ≡ at + 0 = omega arith in q) n.0
near_at k at (p ∷ pre) s post n =
    let q : at + record_size p.flags + records_size pre ≡ at + (record_size p.flags + records_size pre) = omega arith in
    subst (λ (m : ℕ). m < 2 ^ (8 * k)) q (near_at k (at + record_size p.flags) pre s post n.1)

fit_even : (pre ss : List Sequence) → AllFit (pre ++ ss) → Even pre
fit_even [] ss f = tt
fit_even (p ∷ pre) ss f = (f.0.equal, fit_even pre ss f.1)

-- the byte of the entry behind those of some sequences; of all the entries' end, the byte of the record behind theirs
abbrev pub entry_place : List Sequence → ℕ
entry_place pre = index_end offset_size (length pre) (names_size pre)

abbrev pub record_place : List Sequence → List Sequence → ℕ
record_place ss pre = entry_place ss + records_size pre

-- ---- what the calls answer of a file

-- of the sequence behind some others
pub record OneRead (file : List ℕ) (ss pre : List Sequence) (s : Sequence) : Type 0 where
  -- at its cursor: its name's place and size, its record's offset, and the next cursor
  pub entry : Called 1 entry·kinds.ps entry·kinds.r entry.Post
      (λ κs a x e. a.0.now ≡ file → a.1.0 ≡ length pre → a.1.1.0 ≡ entry_place pre
      → x ≡ Ok (record { name = suc (entry_place pre); size = length s.name; offset = record_place ss pre; number = suc (length pre); at = entry_place (pre ++ s ∷ []) }))
  -- its name stands there
  pub name : take (length s.name) (drop (suc (entry_place pre)) file) ≡ s.name
  -- at its record's offset: how long it is, how many runs of flags, no mask blocks
  pub info : Called 1 record-info·kinds.ps record-info·kinds.r record-info.Post
      (λ κs a x e. a.0.now ≡ file → a.1.0 ≡ record_place ss pre → x ≡ Ok (record { len = record { 0 = length s.flags }; blocks = length (runs s.flags); masks = 0 }))
  -- and into buffers that have room: the length, no mask blocks, and the two stores
  pub sequence : Called 3 record·kinds.ps record·kinds.r record·reads.Post
      (λ κs a x e. let bases = a.1.1.0.now in
      let flags = a.1.1.1.0.now in
      a.0.now ≡ file → a.1.0 ≡ record_place ss pre → length bases ≤ 2 ^ 28 → length flags ≤ 2 ^ 28
      → up 2 (length s.flags) + trailing ≤ length bases → up 1 (length s.flags) + trailing ≤ length flags
      → (x ≡ Ok (record { len = record { 0 = length s.flags }; masks = 0 }))
      × (Holds 2 (length s.flags) (under_three s.bases s.flags) bases e.1.1.0.now × Holds 1 (length s.flags) s.flags flags e.1.1.1.0.now))

pub record AllRead (file : List ℕ) (ss : List Sequence) : Type 0 where
  -- it is judged sound, and its sequences are counted
  pub check : Called 1 check·kinds.ps check·kinds.r check.Post (λ κs a x e. a.0.now ≡ file → x ≡ Ok (length ss))
  -- the first cursor
  pub first : Called 1 first·kinds.ps first·kinds.r first.Post (λ κs a x e. a.0.now ≡ file → x ≡ Ok (record { number = 0; at = entry_place [] }))
  pub each : (pre : List Sequence) (s : Sequence) (post : List Sequence) → ss ≡ pre ++ s ∷ post → OneRead file ss pre s

module _ (big : Bool) (pre : List Sequence) (s : Sequence) (post : List Sequence) where
  abbrev ss : List Sequence
  ss = pre ++ s ∷ post

  abbrev file : List ℕ
  file = file_of big 0 offset_size (pre ++ s ∷ post)

  -- what stands from the entry on, and from the record on
  abbrev more : List ℕ
  more = index_of big offset_size (record_place ss pre + record_size s.flags) post ++ records_of big ss

  abbrev last : List ℕ
  last = records_of big post ++ []

  at_entry : drop (entry_place pre) (file_of big 0 offset_size (pre ++ s ∷ post)) ≡ entry_of big offset_size s.name (record_place (pre ++ s ∷ post) pre) ++ more
  unfolding index_of
  at_entry =
      let here : List ℕ = index_of big offset_size (entry_place ss) pre in
      let there : List ℕ = index_of big offset_size (record_place ss pre) (s ∷ post) in
      behind file header_size (length pre * suc offset_size + names_size pre) here (there ++ records_of big ss) (length-index big offset_size (entry_place ss) pre)
      (at_index big 0 offset_size ss ∙ ap (λ (l : List ℕ). l ++ records_of big ss) (index_append big offset_size (entry_place ss) pre (s ∷ post))
      ∙ append_assoc here there (records_of big ss))
      ∙ append_assoc (entry_of big offset_size s.name (record_place ss pre)) (index_of big offset_size (record_place ss pre + record_size s.flags) post) (records_of big ss)

  at_record : Even pre → drop (record_place (pre ++ s ∷ post) pre) (file_of big 0 offset_size (pre ++ s ∷ post)) ≡ record_of big s.bases s.flags ++ last
  unfolding records_of
  at_record even =
      behind file (entry_place ss) (records_size pre) (records_of big pre) (records_of big (s ∷ post) ++ []) (length-records big pre even)
      (at_records big 0 offset_size ss ∙ ap (λ (l : List ℕ). l ++ []) (records_append big pre (s ∷ post)) ∙ append_assoc (records_of big pre) (records_of big (s ∷ post)) [])
      ∙ append_assoc (record_of big s.bases s.flags) (records_of big post) []

  -- ---- the calls

  module _ (few : length (pre ++ s ∷ post) < 2 ^ 32) (fit : AllFit (pre ++ s ∷ post)) (near : Near offset_size (entry_place (pre ++ s ∷ post)) (pre ++ s ∷ post)) where
    fits : Fit s
    fits = fit_at pre s post fit

    from-record : drop (record_place (pre ++ s ∷ post) pre) (file_of big 0 offset_size (pre ++ s ∷ post)) ≡ record_of big s.bases s.flags ++ last
    from-record = at_record (fit_even pre (s ∷ post) fit)

    abbrev off : ℕ
    off = record_place (pre ++ s ∷ post) pre

    order : is_big (file_of big 0 offset_size (pre ++ s ∷ post)) ≡ big
    order = ordered-as big 0 offset_size (pre ++ s ∷ post)

    good : good_header (file_of big 0 offset_size (pre ++ s ∷ post)) ≡ true
    good = header_good big (pre ++ s ∷ post)

    numbered : length pre < sequences (file_of big 0 offset_size (pre ++ s ∷ post))
    numbered = omega (arith, counted big 0 offset_size ss few, length-append pre (s ∷ post))

    next : entry_place pre + entry_size offset_size (length s.name) ≡ entry_place (pre ++ s ∷ [])
    next = omega (arith, length-append pre (s ∷ []), names_append pre (s ∷ []))

    inside : record_place (pre ++ s ∷ post) pre < length (file_of big 0 offset_size (pre ++ s ∷ post))
    inside = record_within big file off (sound_back big file off s.bases s.flags last fits.equal fits.few from-record)

    one_read : OneRead (file_of big 0 offset_size (pre ++ s ∷ post)) (pre ++ s ∷ post) pre s
    one_read =
        record {
          entry =
              λ κs a x e p f i c.
              says-once entry_told x (Ok (record { name = suc (entry_place pre); size = length s.name; offset = record_place ss pre; number = suc (length pre); at = entry_place (pre ++ s ∷ []) }))
              (p
              ∙ (λ t. entry_answer offset_size (f t) (i t) (c t))
              ∙ entry_is big file order good (entry_place pre) off (length pre) s.name more (near_at offset_size (entry_place ss) pre s post near) at_entry numbered inside
              ∙ ap (λ (n : ℕ). answer (Ok tt) ((suc (entry_place pre), length s.name), (off, (suc (length pre), n))) no_entry) next);
          name =
              ap (λ (n : ℕ). take n (drop (suc (entry_place pre)) file)) (sym (name-size big file offset_size (entry_place pre) s.name off more at_entry))
              ∙ name_back big file offset_size (entry_place pre) s.name off more at_entry;
          info =
              λ κs a x e p f o.
              says-once info_told x (Ok (record { len = record { 0 = length s.flags }; blocks = length (runs s.flags); masks = 0 }))
              (p ∙ ap₂ info_answer f o ∙ info_is big file order good off s.bases s.flags last fits.equal fits.few from-record);
          sequence =
              λ κs a x e p f o k l m n.
              let bases = a.1.1.0.now in
              let flags = a.1.1.1.0.now in
              let done = record_outcome_lem big file order good off s.bases s.flags last fits.equal fits.few from-record bases flags k l m n in (
                says-once read_told x (Ok (record { len = record { 0 = length s.flags }; masks = 0 }))
                    (p.0 ∙ ap₂ (λ (d : List ℕ) (r : ℕ). record_answer d r bases flags) f o
                    ∙ record_is big file order good off s.bases s.flags last fits.equal fits.few from-record bases flags done),
                (
                  subst (Holds 2 (length s.flags) (under_three s.bases s.flags) bases)
                      (sym
                      (p.1.0 ∙ ap₂ (λ (d : List ℕ) (r : ℕ). bases_after d r bases flags) f o
                      ∙ record_base_bytes big file order good off s.bases s.flags last fits.equal fits.few from-record bases flags done fits.codes fits.marks))
                      (three_holds s.bases s.flags bases fits.equal fits.codes),
                  subst (Holds 1 (length s.flags) s.flags flags)
                      (sym
                      (p.1.1 ∙ ap₂ (λ (d : List ℕ) (r : ℕ). flags_after d r bases flags) f o
                      ∙ record_flag_bytes big file order good off s.bases s.flags last fits.equal fits.few from-record bases flags done fits.marks))
                      (filled-holds width_1 s.flags flags fits.marks),
                ),
              );
        }

-- ---- the theorem: of the file of some sequences, in either byte order

pub all_read : (big : Bool) (ss : List Sequence) → length ss < 2 ^ 32 → AllFit ss → Near offset_size (index_end offset_size (length ss) (names_size ss)) ss
    → AllRead (file_of big 0 offset_size ss) ss
unfolding place_from
all_read big ss few fit near =
    record {
      check =
          λ κs a x e p f.
          says-once told x (Ok (length ss))
          (p ∙ ap check_answer f ∙ sound_accepted (file_of big 0 offset_size ss) (accepted big ss few fit near)
          ∙ ap (λ (n : ℕ). answer (Ok tt) n 0) (counted big 0 offset_size ss few));
      first =
          λ κs a x e p f.
          says-once cursor_told x (Ok (record { number = 0; at = entry_place [] })) (p ∙ ap first_answer f ∙ first_done (file_of big 0 offset_size ss) (accepted big ss few fit near));
      each =
          λ pre s post q.
          subst (λ (l : List Sequence). length l < 2 ^ 32 → AllFit l → Near offset_size (entry_place l) l → OneRead (file_of big 0 offset_size l) l pre s) (sym q)
          (one_read big pre s post) few fit near;
    }
