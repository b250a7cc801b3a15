-- A file that is started, filled with its sequences and finished, every call done: the front of the output is exactly that file, and the rest stays.
-- The bytes are followed in parts: what stands before the next entry, the gap up to the index's end, the records, and what was there before.
-- Assumes nothing.
use Rattle.std.specs.Prelude.{Ok}
use mathlib.Core.Bool.{false, ◌&&◌}
use mathlib.Core.List.{List, [], ◌∷◌, ◌++◌, map, append_assoc, append-nil}
use mathlib.Core.Path.{◌≡◌, refl, sym, ap, ap₂, ◌∙◌}
use Prim.Native.Nat.{ℕ, suc, ◌+◌, ◌*◌, ◌≤◌}
use native.Mathlib.Omega.{arith}
use borrow.Author.Tests.{ltb-false, eqb-true}
use lib.Dec.{leb, eqb}
use lib.ListN.{length, take, drop, length-append, length-drop, take-append-drop}
use lib.Seq.{sets, sets-eq, take_at, drop_at, drop-drop, length-take-le}
use Rattle.codes.specs.Codes.{chars}
use Rattle.codes.specs.Refusals.{Answer, first, number_of, Outcome}
use Rattle.codes.proofs.CharLaws.{length-chars}
use Rattle.codes.proofs.OutcomeLaws.{gives_done}
use Rattle.codes.proofs.RefusalLaws.{outcome_at, outcome_at_number}
use Rattle.codes.proofs.TestLaws.{first_none}
use Rattle.twobit.specs.Files.{Sequence, file_of, header_of, header_size, index_of, index_end, records_of, record_of, record_size, entry_of, entry_size, names_size}
use Rattle.twowrite.specs.Writing.{writing, start_answer, start_after, start_outcome, add_outcome, add_answer, add_after, added, start_tests, unfinished, finish_answer}
use Rattle.twowrite.specs.declared.answers.Writing.{Writing}
use Rattle.twobit.proofs.FileLaws.{length-header, length-entry, length-record, length-index}
use Rattle.twowrite.proofs.StepLaws.{all_hold, Addable, add_done}

-- what a call of add is given
pub record Given : Type 0 where
  pub name : List ℕ
  pub bases : List ℕ
  pub base_offset : ℕ
  pub base_length : ℕ
  pub flags : List ℕ
  pub flag_offset : ℕ
  pub flag_length : ℕ

-- the sequence that it adds
abbrev pub sequence_of : Given → Sequence
sequence_of g = record { name = g.name; bases = chars 2 g.bases g.base_offset g.base_length; flags = chars 1 g.flags g.flag_offset g.flag_length }

module _ (k : ℕ) (s : Writing) (g : Given) (out : List ℕ) where
  abbrev pub outcome_of : Outcome
  outcome_of = add_outcome k s g.name g.bases g.base_offset g.base_length g.flags g.flag_offset g.flag_length out

  abbrev pub answer_of : Answer Writing
  answer_of = add_answer k s g.name g.bases g.base_offset g.base_length g.flags g.flag_offset g.flag_length out

  abbrev pub after_of : List ℕ
  after_of = add_after k s g.name g.bases g.base_offset g.base_length g.flags g.flag_offset g.flag_length out

-- calls of add one after the other, all of them done: from a state and an output to a state and an output
abbrev pub AllAdded : ℕ → Writing → List ℕ → List Given → Writing → List ℕ → Type 0
AllAdded k s out [] t after = (t ≡ s) × (after ≡ out)
AllAdded k s out (g ∷ gs) t after = ((answer_of k s g out).no ≡ 0) × AllAdded k (answer_of k s g out).values (after_of k s g out) gs t after

-- ---- what a done call passed

is_done : (o : Outcome) → number_of o ≡ 0 → o ≡ Ok tt
is_done o e = sym (outcome_at_number o) ∙ ap outcome_at e ∙ outcome_at_number (Ok tt)

pub fitted : (k : ℕ) (s : Writing) (g : Given) (out : List ℕ) → (answer_of k s g out).no ≡ 0 → outcome_of k s g out ≡ Ok tt
unfolding add_answer
fitted k s g out e = is_done (outcome_of k s g out) e

pub fits : (k : ℕ) (s : Writing) (g : Given) (out : List ℕ) → outcome_of k s g out ≡ Ok tt
    → Addable k s (length g.name) (length g.bases) g.base_offset g.base_length g.flags g.flag_offset g.flag_length (length out)
unfolding add_outcome
fits k s g out e = add_done k s (length g.name) (length g.bases) g.base_offset g.base_length g.flags g.flag_offset g.flag_length (length out) e

record_long : (k : ℕ) (s : Writing) (g : Given) (out : List ℕ) → outcome_of k s g out ≡ Ok tt
    → length (record_of false (sequence_of g).bases (sequence_of g).flags) ≡ record_size (sequence_of g).flags
record_long k s g out o =
    length-record false (sequence_of g).bases (sequence_of g).flags
    (length-chars 2 g.bases g.base_offset g.base_length ∙ (fits k s g out o).same ∙ sym (length-chars 1 g.flags g.flag_offset g.flag_length))

pub added-state : (k : ℕ) (s : Writing) (g : Given) (out : List ℕ) → outcome_of k s g out ≡ Ok tt
    → (answer_of k s g out).values ≡ added k s g.name g.bases g.base_offset g.base_length g.flags g.flag_offset g.flag_length out
unfolding add_answer
added-state k s g out o = sym (gives_done (outcome_of k s g out) _ s o)

-- ---- bytes over a part

-- bytes set behind others
sets_behind : (pre l bs : List ℕ) (n : ℕ) → length pre ≡ n → length bs ≤ length l → sets (pre ++ l) n bs ≡ pre ++ (bs ++ drop (length bs) l)
sets_behind pre l bs n e h =
    sets-eq bs (pre ++ l) n (omega (arith, e, h, length-append pre l))
    ∙ append_assoc (take n (pre ++ l)) bs (drop (n + length bs) (pre ++ l))
    ∙ ap₂ (λ (x y : List ℕ). x ++ (bs ++ y)) (take_at pre l n e) (sym (drop-drop (length bs) n (pre ++ l)) ∙ ap (drop (length bs)) (drop_at pre l n e))

-- bytes that are left of a part in front
drop-front : (n : ℕ) (p q : List ℕ) → n ≤ length p → drop n (p ++ q) ≡ drop n p ++ q
drop-front n p q h =
    ap (λ (l : List ℕ). drop n (l ++ q)) (sym (take-append-drop n p))
    ∙ ap (drop n) (append_assoc (take n p) (drop n p) q)
    ∙ drop_at (take n p) (drop n p ++ q) n (length-take-le n p h)

-- ---- the parts of an output: what stands before the next entry, the gap, the records, and what was there before

record Parts (A gap R rest : List ℕ) (s : Writing) (out : List ℕ) : Type 0 where
  bytes : out ≡ A ++ (gap ++ (R ++ rest))
  entry : length A ≡ s.entry
  until : s.entry + length gap ≡ s.stop
  place : s.stop + length R ≡ s.place

module _ (k : ℕ) where
  -- one sequence more
  one : (A gap R rest : List ℕ) (s : Writing) (g : Given) (out : List ℕ) → Parts A gap R rest s out → outcome_of k s g out ≡ Ok tt
      → let e = entry_of false k g.name s.place in
      let r = record_of false (sequence_of g).bases (sequence_of g).flags in
      Parts (A ++ e) (drop (length e) gap) (R ++ r) (drop (length r) rest) (answer_of k s g out).values (after_of k s g out)
  unfolding add_answer add_after
  one A gap R rest s g out p o = record { bytes = bytes-are; entry = entry_is; until = until_is; place = place_is }
    where
      e : List ℕ
      e = entry_of false k g.name s.place

      r : List ℕ
      r = record_of false (sequence_of g).bases (sequence_of g).flags

      f : Addable k s (length g.name) (length g.bases) g.base_offset g.base_length g.flags g.flag_offset g.flag_length (length out)
      f = fits k s g out o

      short : length e ≡ entry_size k (length g.name)
      short = length-entry false k g.name s.place

      long : length r ≡ record_size (sequence_of g).flags
      long = record_long k s g out o

      gap_room : length e ≤ length gap
      gap_room = omega (arith, short, f.index, p.until)

      rest_room : length r ≤ length rest
      rest_room =
          omega (
            arith,
            long,
            f.fits,
            ap (λ (l : List ℕ). length l) p.bytes,
            length-append A (gap ++ (R ++ rest)),
            length-append gap (R ++ rest),
            length-append R rest,
            p.entry,
            p.until,
            p.place,
          )

      entered : sets out s.entry e ≡ (A ++ (e ++ (drop (length e) gap ++ R))) ++ rest
      entered =
          ap (λ (l : List ℕ). sets l s.entry e) p.bytes
          ∙ sets_behind A (gap ++ (R ++ rest)) e s.entry p.entry (omega (arith, gap_room, length-append gap (R ++ rest)))
          ∙ ap (λ (l : List ℕ). A ++ (e ++ l)) (drop-front (length e) gap (R ++ rest) gap_room ∙ sym (append_assoc (drop (length e) gap) R rest))
          ∙ ap (λ (l : List ℕ). A ++ l) (sym (append_assoc e (drop (length e) gap ++ R) rest))
          ∙ sym (append_assoc A (e ++ (drop (length e) gap ++ R)) rest)

      front : length (A ++ (e ++ (drop (length e) gap ++ R))) ≡ s.place
      front =
          omega (
            arith,
            length-append A (e ++ (drop (length e) gap ++ R)),
            length-append e (drop (length e) gap ++ R),
            length-append (drop (length e) gap) R,
            length-drop (length e) gap,
            gap_room,
            p.entry,
            p.until,
            p.place,
          )

      bytes-are : after_of k s g out ≡ (A ++ e) ++ (drop (length e) gap ++ ((R ++ r) ++ drop (length r) rest))
      bytes-are =
          sym (gives_done (outcome_of k s g out) _ out o)
          ∙ ap (λ (l : List ℕ). sets l s.place r) entered
          ∙ sets_behind (A ++ (e ++ (drop (length e) gap ++ R))) rest r s.place front rest_room
          ∙ append_assoc A (e ++ (drop (length e) gap ++ R)) (r ++ drop (length r) rest)
          ∙ ap (λ (l : List ℕ). A ++ l) (append_assoc e (drop (length e) gap ++ R) (r ++ drop (length r) rest))
          ∙ sym (append_assoc A e ((drop (length e) gap ++ R) ++ (r ++ drop (length r) rest)))
          ∙ ap (λ (l : List ℕ). (A ++ e) ++ l)
          (append_assoc (drop (length e) gap) R (r ++ drop (length r) rest) ∙ ap (λ (l : List ℕ). drop (length e) gap ++ l) (sym (append_assoc R r (drop (length r) rest))))

      state : (answer_of k s g out).values ≡ added k s g.name g.bases g.base_offset g.base_length g.flags g.flag_offset g.flag_length out
      state = added-state k s g out o

      entry_is : length (A ++ e) ≡ (answer_of k s g out).values.entry
      entry_is = length-append A e ∙ omega (arith, p.entry, short) ∙ sym (ap (λ (t : Writing). t.entry) state)

      until_is : (answer_of k s g out).values.entry + length (drop (length e) gap) ≡ (answer_of k s g out).values.stop
      until_is =
          ap (λ (t : Writing). t.entry + length (drop (length e) gap)) state
          ∙ omega (arith, length-drop (length e) gap, gap_room, short, p.until) ∙ sym (ap (λ (t : Writing). t.stop) state)

      place_is : (answer_of k s g out).values.stop + length (R ++ r) ≡ (answer_of k s g out).values.place
      place_is =
          ap (λ (t : Writing). t.stop + length (R ++ r)) state ∙ omega (arith, length-append R r, long, p.place) ∙ sym (ap (λ (t : Writing). t.place) state)

  -- all of them: the index grows into the gap, the records grow over what was there before
  record Ended (A R rest : List ℕ) (s : Writing) (ss : List Sequence) (t : Writing) (after : List ℕ) : Type 0 where
    gap : List ℕ
    bytes : after ≡ (A ++ index_of false k s.place ss) ++ (gap ++ ((R ++ records_of false ss) ++ drop (length (records_of false ss)) rest))
    entry : t.entry ≡ s.entry + (length ss * suc k + names_size ss)
    until : t.entry + length gap ≡ t.stop
    stop : t.stop ≡ s.stop
    place : t.place ≡ s.place + length (records_of false ss)
    left : s.left ≡ t.left + length ss

  -- what the later ones end with, from before the first
  more : (g : Given) (gs : List Given) (A gap R rest : List ℕ) (s : Writing) (out : List ℕ) (t : Writing) (after : List ℕ) → outcome_of k s g out ≡ Ok tt → Parts A gap R rest s out
      → let e = entry_of false k g.name s.place in
      let r = record_of false (sequence_of g).bases (sequence_of g).flags in
      Ended (A ++ e) (R ++ r) (drop (length r) rest) (answer_of k s g out).values (map sequence_of gs) t after → Ended A R rest s (map sequence_of (g ∷ gs)) t after
  unfolding index_of records_of add_answer
  more g gs A gap R rest s out t after o p z =
      record {
        gap = z.gap;
        bytes =
            z.bytes
            ∙ ap₂ (λ (x y : List ℕ). x ++ (z.gap ++ y))
            (ap (λ (w : Writing). (A ++ e) ++ index_of false k w.place ss) state ∙ append_assoc A e (index_of false k (s.place + record_size (sequence_of g).flags) ss))
            (ap₂ (λ (x y : List ℕ). x ++ y) (append_assoc R r rs)
            (drop-drop (length rs) (length r) rest ∙ ap (λ (n : ℕ). drop n rest) (sym (length-append r rs))));
        entry = z.entry ∙ ap (λ (w : Writing). w.entry + (length ss * suc k + names_size ss)) state ∙ omega arith;
        until = z.until;
        stop = z.stop ∙ ap (λ (w : Writing). w.stop) state;
        place = z.place ∙ ap (λ (w : Writing). w.place + length rs) state ∙ omega (arith, length-append r rs, long);
        left = omega (arith, z.left, ap (λ (w : Writing). w.left) state, (fits k s g out o).some);
      }
    where
      ss : List Sequence
      ss = map sequence_of gs

      e : List ℕ
      e = entry_of false k g.name s.place

      r : List ℕ
      r = record_of false (sequence_of g).bases (sequence_of g).flags

      rs : List ℕ
      rs = records_of false ss

      long : length r ≡ record_size (sequence_of g).flags
      long = record_long k s g out o

      state : (answer_of k s g out).values ≡ added k s g.name g.bases g.base_offset g.base_length g.flags g.flag_offset g.flag_length out
      state = added-state k s g out o

  all : (gs : List Given) (A gap R rest : List ℕ) (s : Writing) (out : List ℕ) (t : Writing) (after : List ℕ) → Parts A gap R rest s out → AllAdded k s out gs t after
      → Ended A R rest s (map sequence_of gs) t after
  unfolding index_of records_of
  all [] A gap R rest s out t after p (a, b) =
      record {
        gap = gap;
        bytes = b ∙ p.bytes ∙ ap₂ (λ (x y : List ℕ). x ++ (gap ++ (y ++ rest))) (sym (append-nil A)) (sym (append-nil R));
        entry = ap (λ (w : Writing). w.entry) a ∙ omega arith;
        until = ap (λ (w : Writing). w.entry + length gap) a ∙ p.until ∙ sym (ap (λ (w : Writing). w.stop) a);
        stop = ap (λ (w : Writing). w.stop) a;
        place = ap (λ (w : Writing). w.place) a ∙ omega arith;
        left = sym (ap (λ (w : Writing). w.left) a) ∙ omega arith;
      }
  all (g ∷ gs) A gap R rest s out t after p (a, b) =
      more g gs A gap R rest s out t after o p
      (all gs (A ++ e) (drop (length e) gap) (R ++ r) (drop (length r) rest) _ _ t after (one A gap R rest s g out p o) b)
    where
      o : outcome_of k s g out ≡ Ok tt
      o = fitted k s g out a

      e : List ℕ
      e = entry_of false k g.name s.place

      r : List ℕ
      r = record_of false (sequence_of g).bases (sequence_of g).flags

-- ---- the theorem

-- what the calls leave, of sequences ss
pub record Written (version k n m : ℕ) (out : List ℕ) (ss : List Sequence) (t : Writing) (after : List ℕ) : Type 0 where
  pub bytes : after ≡ file_of false version k ss ++ drop (length (file_of false version k ss)) out
  pub size : (finish_answer t).values ≡ length (file_of false version k ss)
  pub count : n ≡ length ss
  pub names : m ≡ names_size ss

module _ (version k n m : ℕ) (out : List ℕ) (started : (start_answer version k n m out).no ≡ 0) where
  pub start_done : start_outcome version k n m out ≡ Ok tt
  unfolding start_answer
  start_done = is_done (start_outcome version k n m out) started

  start-room : index_end k n m ≤ length out
  unfolding start_outcome
  start-room = ltb-false (length out) (index_end k n m) (first_none (start_tests k n m (length out)) start_done).1.0

  pub start-state : (start_answer version k n m out).values ≡ writing header_size (index_end k n m) (index_end k n m) n
  unfolding start_answer
  start-state = sym (gives_done (start_outcome version k n m out) _ _ start_done)

  abbrev header : List ℕ
  header = header_of false version n

  -- the header, the gap for the index, no record yet
  start-parts : Parts header (take (n * suc k + m) (drop header_size out)) [] (drop (index_end k n m) out) (start_answer version k n m out).values (start_after version k n m out)
  unfolding start_after
  start-parts =
      record {
        bytes =
            sym (gives_done (start_outcome version k n m out) _ out start_done)
            ∙ sets_behind [] out header 0 refl (omega (arith, long, start-room))
            ∙ ap (λ (l : List ℕ). header ++ l)
            (ap (λ (j : ℕ). drop j out) long ∙ sym (take-append-drop q (drop header_size out)) ∙ ap (λ (l : List ℕ). take q (drop header_size out) ++ l) (drop-drop q header_size out));
        entry = long ∙ sym (ap (λ (w : Writing). w.entry) start-state);
        until =
            ap (λ (w : Writing). w.entry + length (take q (drop header_size out))) start-state
            ∙ omega (arith, length-take-le q (drop header_size out) (omega (arith, length-drop header_size out, start-room)))
            ∙ sym (ap (λ (w : Writing). w.stop) start-state);
        place = ap (λ (w : Writing). w.stop + 0) start-state ∙ omega arith ∙ sym (ap (λ (w : Writing). w.place) start-state);
      }
    where
      q : ℕ
      q = n * suc k + m

      long : length header ≡ header_size
      long = length-header false version n

-- no bytes
none_left : (l : List ℕ) → length l ≡ 0 → l ≡ []
none_left [] e = refl
none_left (x ∷ l) e = absurd (omega arith)

pub written-file : (version k n m : ℕ) (out : List ℕ) (gs : List Given) (t : Writing) (after : List ℕ) → (start_answer version k n m out).no ≡ 0
    → AllAdded k (start_answer version k n m out).values (start_after version k n m out) gs t after → (finish_answer t).no ≡ 0
    → Written version k n m out (map sequence_of gs) t after
unfolding finish_answer file_of
written-file version k n m out gs t after a b c = record { bytes = bytes-are; size = size_is; count = count_is; names = names_are }
  where
    ss : List Sequence
    ss = map sequence_of gs

    s : Writing
    s = (start_answer version k n m out).values

    z : Ended k (header_of false version n) [] (drop (index_end k n m) out) s ss t after
    z = all k gs _ _ [] _ s (start_after version k n m out) t after (start-parts version k n m out a) b

    st : s ≡ writing header_size (index_end k n m) (index_end k n m) n
    st = start-state version k n m out a

    finished : first (unfinished t ∷ []) ≡ Ok tt
    finished = is_done (first (unfinished t ∷ [])) c

    tests : (t.left ≡ 0) × (t.entry ≡ t.stop)
    tests =
        let h = all_hold (eqb t.left 0) (eqb t.entry t.stop) (leb header_size t.stop && leb t.stop t.place) (first_none (unfinished t ∷ []) finished).0 in
        (eqb-true t.left 0 h.0, eqb-true t.entry t.stop h.1)

    count_is : n ≡ length ss
    count_is = sym (ap (λ (w : Writing). w.left) st) ∙ z.left ∙ omega (arith, tests.0)

    index : ℕ
    index = length ss * suc k + names_size ss

    ends : index_end k n m ≡ header_size + index
    ends =
        sym (ap (λ (w : Writing). w.stop) st) ∙ sym z.stop ∙ sym tests.1 ∙ z.entry ∙ ap (λ (w : Writing). w.entry + index) st

    names_are : m ≡ names_size ss
    names_are =
        let e : n * suc k ≡ length ss * suc k = ap (λ (j : ℕ). j * suc k) count_is in
        omega (arith, ends, e)

    gap_none : z.gap ≡ []
    gap_none = none_left z.gap (omega (arith, z.until, tests.1))

    rs : List ℕ
    rs = records_of false ss

    ix : List ℕ
    ix = index_of false k (index_end k (length ss) (names_size ss)) ss

    h : List ℕ
    h = header_of false version (length ss)

    long : length (h ++ (ix ++ rs)) ≡ index_end k n m + length rs
    long = omega (arith, length-append h (ix ++ rs), length-append ix rs, length-header false version (length ss), length-index false k (index_end k (length ss) (names_size ss)) ss, ends)

    bytes-are : after ≡ (h ++ (ix ++ rs)) ++ drop (length (h ++ (ix ++ rs))) out
    bytes-are =
        z.bytes
        ∙ ap₂ (λ (x y : List ℕ). x ++ y)
        (ap₂ (λ (x y : List ℕ). x ++ y) (ap (header_of false version) count_is)
        (ap (λ (j : ℕ). index_of false k j ss) (ap (λ (w : Writing). w.place) st ∙ ap₂ (index_end k) count_is names_are)))
        (ap (λ (l : List ℕ). l ++ (rs ++ drop (length rs) (drop (index_end k n m) out))) gap_none
        ∙ ap (λ (l : List ℕ). rs ++ l) (drop-drop (length rs) (index_end k n m) out ∙ ap (λ (j : ℕ). drop j out) (sym long)))
        ∙ sym (append_assoc (h ++ ix) rs (drop (length (h ++ (ix ++ rs))) out))
        ∙ ap (λ (l : List ℕ). l ++ drop (length (h ++ (ix ++ rs))) out) (append_assoc h ix rs)

    size_is : (finish_answer t).values ≡ length (h ++ (ix ++ rs))
    size_is =
        sym (gives_done (first (unfinished t ∷ [])) t.place 0 finished) ∙ z.place ∙ ap (λ (w : Writing). w.place + length rs) st ∙ sym long
