-- Sequences that fit, numbers that are right and room enough: starting a file, adding each sequence in turn and finishing are all done. So what is
-- said of files whose calls are all done, that they hold just their sequences and read back, is said of these. Followed from call to call is what is
-- still ahead: so many sequences, an index that they fill, records that lie in reach and have room.
-- Assumes nothing.
use Rattle.std.specs.Prelude.{Ok, Err}
use mathlib.Core.Bool.{Bool, true, false, ◌&&◌, not}
use mathlib.Core.List.{List, [], ◌∷◌, map}
use mathlib.Core.Path.{◌≡◌, refl, sym, ap, ◌∙◌, subst}
use Prim.Native.Nat.{ℕ, suc, ◌+◌, ◌-◌, ◌*◌, ◌^◌, ◌≤◌, ◌<◌}
use native.Mathlib.Omega.{arith}
use borrow.Author.Tests.{lt-ltb, le-ltb, le-leb, lt-leb, eq-eqb}
use lib.Dec.{leb, ltb}
use lib.ListN.{length, length-map}
use lib.Seq.{sets, length-sets}
use Rattle.codes.specs.Codes.{chars}
use Rattle.codes.specs.Refusals.{first, if_done, number_of, view_tests, Outcome}
use Rattle.codes.proofs.CharLaws.{length-chars}
use Rattle.codes.proofs.TestLaws.{first_at}
use Rattle.codes.proofs.Viewed.{view_passed}
use Rattle.twobit.specs.Files.{Sequence, header_size, header_of, entry_of, entry_size, record_of, record_size, names_size, index_end, file_of}
use Rattle.twobit.proofs.FileLaws.{Even, records_size, length-file}
use Rattle.twobit.proofs.ReadBack.{Near}
use Rattle.twowrite.specs.Writing.{writing, start_tests, start_outcome, start_answer, start_after, add_tests, add_outcome, add_answer, add_after, finish_answer}
use Rattle.twowrite.specs.declared.answers.Writing.{Writing}
use Rattle.twowrite.proofs.StepLaws.{Addable, finish_done}
use Rattle.twowrite.proofs.WrittenFile.{Given, sequence_of, outcome_of, answer_of, after_of, AllAdded, added-state, start-state}

-- what is given to a call of add can stand in a file: accepted views of equal length, and a name of at most 255 bytes
pub record Good (g : Given) : Type 0 where
  pub base_view : first (view_tests 2 (length g.bases) g.base_offset g.base_length) ≡ Ok tt
  pub flag-view : first (view_tests 1 (length g.flags) g.flag_offset g.flag_length) ≡ Ok tt
  pub same : g.base_length ≡ g.flag_length
  pub short : length g.name ≤ 255

abbrev pub AllGood : List Given → Type 0
AllGood [] = Unit {0}
AllGood (g ∷ gs) = Good g × AllGood gs

-- their tracks are equal in length
good_even : (gs : List Given) → AllGood gs → Even (map sequence_of gs)
good_even [] h = tt
good_even (g ∷ gs) h = (
  length-chars 2 g.bases g.base_offset g.base_length ∙ h.0.same ∙ sym (length-chars 1 g.flags g.flag_offset g.flag_length),
  good_even gs h.1,
)

-- ---- one call

-- three conditions that hold
all_three : (a b c : Bool) → a ≡ true → b ≡ true → c ≡ true → not (a && (b && c)) ≡ false
all_three a b c ea eb ec = rw (ea, eb, ec)

-- what can be added is added
add_goes : (k : ℕ) (s : Writing) (name m ao al : ℕ) (ys : List ℕ) (bo bl room : ℕ) → Addable k s name m ao al ys bo bl room
    → first (add_tests k s name m ao al ys bo bl room) ≡ Ok tt
add_goes k s name m ao al ys bo bl room h =
    let v = view_passed 2 m ao al h.base_view in
    let w = view_passed 1 (length ys) bo bl h.flag-view in
    sym
    (first_at 9 (add_tests k s name m ao al ys bo bl room) (
      v.0,
      (
        w.0,
        (
          v.1,
          (
            w.1,
            (
              ap not (eq-eqb al bl h.same),
              (
                le-ltb 255 name h.short,
                (
                  all_three (ltb 0 s.left) (leb (s.entry + entry_size k name) s.stop) (leb s.stop s.place) (lt-ltb 0 s.left h.some)
                      (le-leb (s.entry + entry_size k name) s.stop h.index) (le-leb s.stop s.place h.behind),
                  (lt-leb (2 ^ (8 * k)) s.place h.near, (le-ltb room (s.place + record_size (chars 1 ys bo bl)) h.fits, tt)),
                ),
              ),
            ),
          ),
        ),
      ),
    ))

-- bytes that are set leave the length
kept : (o : Outcome) (a b : List ℕ) → length a ≡ length b → length (if_done o a b) ≡ length b
kept (Ok tt) a b e = e
kept (Err r) a b e = refl

-- ---- what is ahead

record Ahead (k : ℕ) (s : Writing) (room : ℕ) (ss : List Sequence) : Type 0 where
  left : s.left ≡ length ss
  index : s.entry + (length ss * suc k + names_size ss) ≡ s.stop
  header : header_size ≤ s.stop
  behind : s.stop ≤ s.place
  near : Near k s.place ss
  fits : s.place + records_size ss ≤ room

module _ (k : ℕ) where
  -- the state behind a sequence
  abbrev behind_one : Writing → Sequence → Writing
  behind_one s x = writing (s.entry + entry_size k (length x.name)) s.stop (s.place + record_size x.flags) (s.left - 1)

  -- one sequence less
  ahead-next : (s : Writing) (room : ℕ) (x : Sequence) (ss : List Sequence) → Ahead k s room (x ∷ ss)
      → Ahead k (behind_one s x) room ss
  ahead-next s room x ss a =
      record {
        left = omega (arith, a.left);
        index = omega (arith, a.index);
        header = a.header;
        behind = omega (arith, a.behind);
        near = a.near.1;
        fits = omega (arith, a.fits);
      }

  module _ (s : Writing) (g : Given) (out : List ℕ) where
    goes : Good g → (ss : List Sequence) → Ahead k s (length out) (sequence_of g ∷ ss) → outcome_of k s g out ≡ Ok tt
    unfolding add_outcome
    goes h ss a =
        add_goes k s (length g.name) (length g.bases) g.base_offset g.base_length g.flags g.flag_offset g.flag_length (length out)
        (record {
          base_view = h.base_view;
          flag-view = h.flag-view;
          same = h.same;
          short = h.short;
          some = omega (arith, a.left);
          index = omega (arith, a.index);
          behind = a.behind;
          near = a.near.0;
          fits = omega (arith, a.fits);
        })

    length-after : length (after_of k s g out) ≡ length out
    unfolding add_after
    length-after =
        kept (outcome_of k s g out) _ out
        (length-sets (sets out s.entry (entry_of false k g.name s.place)) s.place (record_of false (sequence_of g).bases (sequence_of g).flags)
        ∙ length-sets out s.entry (entry_of false k g.name s.place))

    no-refusal : outcome_of k s g out ≡ Ok tt → (answer_of k s g out).no ≡ 0
    unfolding add_answer
    no-refusal o = ap number_of o

  -- all are added, and the file is finished
  record Filled (s : Writing) (out : List ℕ) (gs : List Given) : Type 0 where
    state : Writing
    after : List ℕ
    added : AllAdded k s out gs state after
    finished : (finish_answer state).no ≡ 0

  fill : (gs : List Given) (s : Writing) (out : List ℕ) → AllGood gs → Ahead k s (length out) (map sequence_of gs) → Filled s out gs
  fill [] s out h a =
      record {
        state = s;
        after = out;
        added = (refl, refl);
        finished = sym (ap (λ (x : _). x.no) (finish_done s a.left (omega (arith, a.index)) a.header a.behind));
      }
  fill (g ∷ gs) s out h a =
      let o = goes s g out h.0 (map sequence_of gs) a in
      let next : Ahead k (answer_of k s g out).values (length (after_of k s g out)) (map sequence_of gs) =
      subst (λ (w : Writing). Ahead k w (length (after_of k s g out)) (map sequence_of gs)) (sym (added-state k s g out o))
      (subst (λ (n : ℕ). Ahead k (behind_one s (sequence_of g)) n (map sequence_of gs)) (sym (length-after s g out)) (ahead-next s (length out) (sequence_of g) (map sequence_of gs) a)) in
      let z = fill gs (answer_of k s g out).values (after_of k s g out) h.1 next in
      record { state = z.state; after = z.after; added = (no-refusal s g out o, z.added); finished = z.finished }

-- ---- the theorem

-- every call is done, with so many sequences and bytes of names
pub record Writable (version k n m : ℕ) (out : List ℕ) (gs : List Given) : Type 0 where
  pub started : (start_answer version k n m out).no ≡ 0
  pub state : Writing
  pub after : List ℕ
  pub added : AllAdded k (start_answer version k n m out).values (start_after version k n m out) gs state after
  pub finished : (finish_answer state).no ≡ 0

pub writable : (version k : ℕ) (gs : List Given) (out : List ℕ) → length gs < 2 ^ 32 → AllGood gs
    → Near k (index_end k (length gs) (names_size (map sequence_of gs))) (map sequence_of gs) → length (file_of false version k (map sequence_of gs)) ≤ length out
    → Writable version k (length gs) (names_size (map sequence_of gs)) out gs
unfolding start_outcome start_answer start_after
writable version k gs out few good near room =
    record { started = started; state = z.state; after = z.after; added = z.added; finished = z.finished }
  where
    ss : List Sequence
    ss = map sequence_of gs

    n : ℕ
    n = length gs

    m : ℕ
    m = names_size ss

    count : length ss ≡ n
    count = length-map gs sequence_of

    whole : length (file_of false version k ss) ≡ index_end k n m + records_size ss
    whole = length-file false version k ss (good_even gs good) ∙ ap (λ (j : ℕ). index_end k j m + records_size ss) count

    begun : start_outcome version k n m out ≡ Ok tt
    begun = sym (first_at 2 (start_tests k n m (length out)) (lt-leb (2 ^ 32) n few, (le-ltb (length out) (index_end k n m) (omega (arith, whole, room)), tt)))

    started : (start_answer version k n m out).no ≡ 0
    started = ap number_of begun

    long : length (start_after version k n m out) ≡ length out
    long = kept (start_outcome version k n m out) _ out (length-sets out 0 (header_of false version n))

    ahead : Ahead k (writing header_size (index_end k n m) (index_end k n m) n) (length out) ss
    ahead =
        record {
          left = sym count;
          index = ap (λ (j : ℕ). header_size + (j * suc k + m)) count;
          header = omega arith;
          behind = omega arith;
          near = near;
          fits = omega (arith, whole, room);
        }

    z : Filled k (start_answer version k n m out).values (start_after version k n m out) gs
    z =
        fill k gs (start_answer version k n m out).values (start_after version k n m out) good
        (subst (λ (w : Writing). Ahead k w (length (start_after version k n m out)) ss) (sym (start-state version k n m out started))
        (subst (λ (j : ℕ). Ahead k (writing header_size (index_end k n m) (index_end k n m) n) j ss) (sym long) ahead))
