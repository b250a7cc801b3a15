-- Only the characters of the views that are written count: accepted views with equal characters get equal answers and leave equal bytes.
-- Assumes nothing.
use Rattle.std.specs.Prelude.{Ok}
use mathlib.Core.Bool.{false}
use mathlib.Core.List.{List, [], ◌∷◌}
use mathlib.Core.Path.{◌≡◌, sym, ◌∙◌}
use Prim.Native.Nat.{ℕ, ◌+◌, ◌-◌}
use lib.ListN.{length}
use lib.Seq.{sets}
use Rattle.codes.specs.Codes.{chars}
use Rattle.codes.specs.Refusals.{Test, answer, first, view_tests, if_done, no_room}
use Rattle.codes.proofs.TestLaws.{first_past}
use Rattle.codes.proofs.Viewed.{Same, view_passed, long}
use Rattle.twobit.specs.Files.{entry_of, entry_size, record_of, record_size}
use Rattle.twowrite.specs.Writing.{writing, unequal, long_name, bad_state, far_record, add_tests, size_answer, add_outcome, add_answer, add_after}
use Rattle.twowrite.specs.declared.answers.Writing.{Writing}

-- ---- record_size

pub size_answer-viewed : {ys : List ℕ} {bo bl : ℕ} {vs : List ℕ} {eo el : ℕ} → Same 1 ys bo bl vs eo el → size_answer ys bo bl ≡ size_answer vs eo el
unfolding size_answer
size_answer-viewed f = λ i. answer ((f.left ∙ sym f.right) i) (record_size (f.same i)) 0

-- ---- add

-- accepted views are judged by their lengths, the name, the state, the record's size and the room alone
abbrev left : ℕ → Writing → ℕ → ℕ → ℕ → List ℕ → ℕ → List Test
left k s name al bl fs room = unequal al bl ∷ long_name name ∷ bad_state k s name ∷ far_record k s.place ∷ no_room room (s.place + record_size fs) ∷ []

judged : (k : ℕ) (s : Writing) (name xs : List ℕ) (ao al : ℕ) (ys : List ℕ) (bo bl : ℕ) (out : List ℕ) → first (view_tests 2 (length xs) ao al) ≡ Ok tt
    → first (view_tests 1 (length ys) bo bl) ≡ Ok tt → first (left k s (length name) al bl (chars 1 ys bo bl) (length out)) ≡ add_outcome k s name xs ao al ys bo bl out
unfolding add_outcome
judged k s name xs ao al ys bo bl out e f =
    let p = view_passed 2 (length xs) ao al e in
    let q = view_passed 1 (length ys) bo bl f in
    first_past 4 (add_tests k s (length name) (length xs) ao al ys bo bl (length out)) (p.0, (q.0, (p.1, (q.1, tt))))

module _ {xs : List ℕ} {ao al : ℕ} {us : List ℕ} {co cl : ℕ} (b : Same 2 xs ao al us co cl) {ys : List ℕ} {bo bl : ℕ} {vs : List ℕ} {eo el : ℕ} (f : Same 1 ys bo bl vs eo el)
    (k : ℕ) (s : Writing) (name out : List ℕ) where
  outcomes : add_outcome k s name xs ao al ys bo bl out ≡ add_outcome k s name us co cl vs eo el out
  outcomes =
      sym (judged k s name xs ao al ys bo bl out b.left f.left)
      ∙ (λ i. first (left k s (length name) (long b i) (long f i) (f.same i) (length out)))
      ∙ judged k s name us co cl vs eo el out b.right f.right

  pub add_answer-viewed : add_answer k s name xs ao al ys bo bl out ≡ add_answer k s name us co cl vs eo el out
  unfolding add_answer
  add_answer-viewed = λ i. answer (outcomes i) (writing (s.entry + entry_size k (length name)) s.stop (s.place + record_size (f.same i)) (s.left - 1)) s

  pub add_after-viewed : add_after k s name xs ao al ys bo bl out ≡ add_after k s name us co cl vs eo el out
  unfolding add_after
  add_after-viewed =
      λ i. if_done (outcomes i) (sets (sets out s.entry (entry_of false k name s.place)) s.place (record_of false (b.same i) (f.same i))) out
