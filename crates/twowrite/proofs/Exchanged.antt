-- Whatever was started, filled and finished, every call done, is a file that is accepted and reads back: its names, and its flags and bases in two
-- lent buffers, by the answers of the calls that read.
-- Assumes nothing.
use mathlib.Core.Bool.{true, false}
use mathlib.Core.List.{List, [], ◌∷◌, map}
use mathlib.Core.Path.{◌≡◌, refl, sym, ap, ap₂, ◌∙◌, subst}
use Prim.Native.Nat.{ℕ, ◌+◌, ◌*◌, ◌^◌, ◌<◌}
use native.Mathlib.Omega.{arith}
use borrow.Author.Tests.{ltb-false, leb-false}
use lib.ListN.{length, take, drop}
use lib.Seq.{take_at}
use Rattle.codes.proofs.CharLaws.{length-chars, chars-fit}
use Rattle.codes.proofs.Viewed.{view_passed}
use Rattle.codes.proofs.WordLaws.{Below}
use Rattle.codes.proofs.TestLaws.{first_none}
use Rattle.twobit.specs.Files.{Sequence, file_of, offset_size, header_size, index_end, names_size}
use Rattle.twobit.specs.Reading.{is_two_bit, is_big, sequences}
use Rattle.twobit.proofs.ReadCalls.{AllRead, all_read}
use Rattle.twobit.proofs.ReadBack.{Fit, AllFit, Near, Walks, accepted, counted, ordered-as, walked}
use Rattle.twowrite.specs.Writing.{start_answer, start_after, start_tests, start_outcome, finish_answer}
use Rattle.twowrite.specs.declared.answers.Writing.{Writing}
use Rattle.twowrite.proofs.WrittenFile.{Given, sequence_of, answer_of, after_of, AllAdded, fitted, fits, added-state, start_done, start-state, Written, written-file}

-- names of bytes, as every lent name is
abbrev pub Named : List Given → Type 0
Named [] = Unit {0}
Named (g ∷ gs) = Below 8 g.name × Named gs

-- an added sequence is one that a file can hold
added-fit : (k : ℕ) (s : Writing) (g : Given) (out : List ℕ) → (answer_of k s g out).no ≡ 0 → Below 8 g.name → Fit (sequence_of g)
added-fit k s g out a n =
    let f = fits k s g out (fitted k s g out a) in
    let v = view_passed 1 (length g.flags) g.flag_offset g.flag_length f.flag-view in
    let long = length-chars 1 g.flags g.flag_offset g.flag_length in
    record {
      short = f.short;
      letters = n;
      codes = chars-fit 2 g.bases g.base_offset g.base_length;
      marks = chars-fit 1 g.flags g.flag_offset g.flag_length;
      equal = length-chars 2 g.bases g.base_offset g.base_length ∙ f.same ∙ sym long;
      few =
          omega
          (arith, long, ltb-false (2 ^ 28) (length g.flags) v.0, ltb-false (length g.flags * 8) (g.flag_offset + g.flag_length + 384) v.1);
    }

all_fit : (k : ℕ) (gs : List Given) (s : Writing) (out : List ℕ) (t : Writing) (after : List ℕ) → AllAdded k s out gs t after → Named gs → AllFit (map sequence_of gs)
all_fit k [] s out t after a n = tt
all_fit k (g ∷ gs) s out t after (a, b) (n, ns) = (added-fit k s g out a n, all_fit k gs (answer_of k s g out).values (after_of k s g out) t after b ns)

-- and its record's offset is a number of k bytes
all_near : (k : ℕ) (gs : List Given) (s : Writing) (out : List ℕ) (t : Writing) (after : List ℕ) → AllAdded k s out gs t after → Near k s.place (map sequence_of gs)
all_near k [] s out t after a = tt
all_near k (g ∷ gs) s out t after (a, b) =
    let o = fitted k s g out a in (
      (fits k s g out o).near,
      subst (λ (at : ℕ). Near k at (map sequence_of gs)) (ap (λ (w : Writing). w.place) (added-state k s g out o))
          (all_near k gs (answer_of k s g out).values (after_of k s g out) t after b),
    )

-- there are fewer sequences than four bytes count
few_started : (n m : ℕ) (out : List ℕ) (ss : List Sequence) → (start_answer 0 offset_size n m out).no ≡ 0 → n ≡ length ss → length ss < 2 ^ 32
unfolding start_outcome
few_started n m out ss a e =
    let h = leb-false (2 ^ 32) n (first_none (start_tests offset_size n m (length out)) (start_done 0 offset_size n m out a)).0 in
    omega (arith, h, e)

-- what is read in the file that the calls left
pub record Exchanged (n m : ℕ) (out : List ℕ) (ss : List Sequence) (t : Writing) (after : List ℕ) : Type 0 where
  pub written : Written 0 offset_size n m out ss t after
  pub sound : is_two_bit (file_of false 0 offset_size ss) ≡ true
  pub little : is_big (file_of false 0 offset_size ss) ≡ false
  pub count : sequences (file_of false 0 offset_size ss) ≡ length ss
  pub walk : Walks false (file_of false 0 offset_size ss) offset_size header_size ss
  -- as many bytes as finish counts are the file, and the calls answer of it what was written
  pub front : take (finish_answer t).values after ≡ file_of false 0 offset_size ss
  pub read : AllRead (file_of false 0 offset_size ss) ss

pub exchanged : (n m : ℕ) (out : List ℕ) (gs : List Given) (t : Writing) (after : List ℕ) → Named gs → (start_answer 0 offset_size n m out).no ≡ 0
    → AllAdded offset_size (start_answer 0 offset_size n m out).values (start_after 0 offset_size n m out) gs t after → (finish_answer t).no ≡ 0
    → Exchanged n m out (map sequence_of gs) t after
exchanged n m out gs t after names a b c =
    record {
      written = w;
      sound = accepted false ss few fit near;
      little = ordered-as false 0 offset_size ss;
      count = counted false 0 offset_size ss few;
      walk = walked false 0 offset_size ss fit near;
      front =
          ap₂ take w.size w.bytes
          ∙ take_at (file_of false 0 offset_size ss) (drop (length (file_of false 0 offset_size ss)) out) (length (file_of false 0 offset_size ss)) refl;
      read = all_read false ss few fit near;
    }
  where
    ss : List Sequence
    ss = map sequence_of gs

    w : Written 0 offset_size n m out ss t after
    w = written-file 0 offset_size n m out gs t after a b c

    few : length ss < 2 ^ 32
    few = few_started n m out ss a w.count

    fit : AllFit ss
    fit = all_fit offset_size gs (start_answer 0 offset_size n m out).values (start_after 0 offset_size n m out) t after b names

    near : Near offset_size (index_end offset_size (length ss) (names_size ss)) ss
    near =
        subst (λ (at : ℕ). Near offset_size at ss) (ap (λ (x : Writing). x.place) (start-state 0 offset_size n m out a) ∙ ap₂ (index_end offset_size) w.count w.names)
        (all_near offset_size gs (start_answer 0 offset_size n m out).values (start_after 0 offset_size n m out) t after b)
