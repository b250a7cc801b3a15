-- Only the characters of the two views that are written count: accepted views with equal characters get equal answers and leave equal forms.
-- Assumes nothing.
use Rattle.std.specs.Prelude.{Ok}
use mathlib.Core.List.{List, [], ◌∷◌, ◌++◌}
use mathlib.Core.Path.{◌≡◌, sym, ◌∙◌}
use Prim.Native.Nat.{ℕ}
use lib.ListN.{length, drop}
use Rattle.codes.specs.Refusals.{answer, first, view_tests, if_done, no_room}
use Rattle.codes.proofs.Viewed.{Same, view_passed, long}
use Rattle.forms.specs.Forms.{stored, bad_tracks, form_size, write_outcome, write_answer, write_after}

-- accepted views are judged by their lengths and the room alone
judged : (xs : List ℕ) (ao al : ℕ) (ys : List ℕ) (bo bl : ℕ) (out : List ℕ) → first (view_tests 2 (length xs) ao al) ≡ Ok tt → first (view_tests 1 (length ys) bo bl) ≡ Ok tt
    → write_outcome xs ao al ys bo bl out ≡ first (bad_tracks al bl ∷ no_room (length out) (form_size al) ∷ [])
unfolding write_outcome
judged xs ao al ys bo bl out e f =
    let p = view_passed 2 (length xs) ao al e in
    let q = view_passed 1 (length ys) bo bl f in
    simp (p.0, p.1, q.0, q.1)

module _ {xs : List ℕ} {ao al : ℕ} {us : List ℕ} {co cl : ℕ} (b : Same 2 xs ao al us co cl) {ys : List ℕ} {bo bl : ℕ} {vs : List ℕ} {eo el : ℕ} (f : Same 1 ys bo bl vs eo el)
    (out : List ℕ) where
  outcomes : write_outcome xs ao al ys bo bl out ≡ write_outcome us co cl vs eo el out
  outcomes =
      judged xs ao al ys bo bl out b.left f.left
      ∙ (λ i. first (bad_tracks (long b i) (long f i) ∷ no_room (length out) (form_size (long b i)) ∷ []))
      ∙ sym (judged us co cl vs eo el out b.right f.right)

  pub write_answer-viewed : write_answer xs ao al ys bo bl out ≡ write_answer us co cl vs eo el out
  unfolding write_answer
  write_answer-viewed = λ i. answer (outcomes i) (form_size (long b i)) 0

  pub write_after-viewed : write_after xs ao al ys bo bl out ≡ write_after us co cl vs eo el out
  unfolding write_after
  write_after-viewed = λ i. if_done (outcomes i) (stored (b.same i) (f.same i) ++ drop (form_size (long b i)) out) out
