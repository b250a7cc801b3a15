-- Of a view that is pushed only its characters count, and its place within a byte: accepted views with equal characters and equal offsets
-- mod C8 get equal answers and leave equal buffers.
-- Assumes nothing.
use Rattle.std.specs.Prelude.{Ok}
use mathlib.Core.List.{List, [], ◌∷◌, ◌++◌}
use mathlib.Core.Path.{◌≡◌, sym, ◌∙◌}
use Prim.Native.Nat.{ℕ, ◌+◌, ◌-◌, ◌*◌, ◌%◌}
use lib.ListN.{length, replicate}
use Rattle.codes.specs.Codes.{per, up}
use Rattle.codes.specs.Refusals.{answer, first, if_done, too_long, bad_store, view_tests}
use Rattle.codes.proofs.Viewed.{Same, view_passed, long}
use Rattle.runs.specs.Runs.{seq_start, gap_char}
use Rattle.stores.specs.Stores.{push_seq, outcome, no_store, from, still, buffer_after, answered, after}

-- a push of an accepted view is judged by the store alone
judged : (w size len : ℕ) (bs : List ℕ) (o n : ℕ) → first (view_tests w (length bs) o n) ≡ Ok tt
    → outcome w size len (push_seq bs o n) ≡ first (too_long size ∷ bad_store w size len ∷ no_store w size (seq_start w len o + n) ∷ [])
unfolding outcome
judged w size len bs o n e = let t = view_passed w (length bs) o n e in rw (t.0, t.1)

module _ {w : ℕ} {bs : List ℕ} {o m : ℕ} {cs : List ℕ} {p n : ℕ} (s : Same w bs o m cs p n) (within : o % per w ≡ p % per w) (len : ℕ) where
  pub outcome-viewed : (size : ℕ) → outcome w size len (push_seq bs o m) ≡ outcome w size len (push_seq cs p n)
  outcome-viewed size =
      judged w size len bs o m s.left
      ∙ (λ i. first (too_long size ∷ bad_store w size len ∷ no_store w size (up w len * per w + within i + long s i) ∷ []))
      ∙ sym (judged w size len cs p n s.right)

  pub answered-viewed : (size : ℕ) → answered w size len (push_seq bs o m) ≡ answered w size len (push_seq cs p n)
  unfolding answered
  answered-viewed size = λ i.
      let start : ℕ = up w len * per w + within i in
      answer (outcome-viewed size i) (start, start + long s i, start + long s i) (0, 0, len)

  pub after-viewed : (store : List ℕ) → after w store len (push_seq bs o m) ≡ after w store len (push_seq cs p n)
  unfolding after
  after-viewed store = λ i.
      let gap : ℕ = up w len * per w + within i - len in
      buffer_after w store (if_done (outcome-viewed (length store) i) (from len (replicate gap (gap_char w) ++ s.same i)) still)
