-- Of a view that is pushed only its characters count, and its place within a byte: accepted views with equal characters and equal offsets
-- mod 8 get equal answers and leave equal buffers and equal entries.
-- Assumes nothing.
use mathlib.Core.List.{List, [], ◌∷◌, ◌++◌}
use mathlib.Core.Path.{◌≡◌, sym, ◌∙◌}
use Prim.Native.Nat.{ℕ, ◌+◌, ◌-◌, ◌*◌, ◌%◌}
use lib.ListN.{length, replicate}
use Rattle.codes.specs.Codes.{per, up, chars}
use Rattle.codes.specs.Refusals.{answer, first, if_done}
use Rattle.codes.proofs.RefusalLaws.{and_then, first_append}
use Rattle.codes.proofs.Viewed.{Same, long}
use Rattle.runs.specs.Runs.{gap_char}
use Rattle.stores.specs.Stores.{push_seq, tests, outcome, from, span}
use Rattle.stores.proofs.Viewed.{outcome-viewed, answered-viewed, after-viewed}
use Rattle.counts.specs.Blocks.{touched, recounted}
use Rattle.counts.specs.Counts.{too_few, counted_outcome, counted_answer, bytes_after, entries_after}

module _ {bs : List ℕ} {o m : ℕ} {cs : List ℕ} {p n : ℕ} (s : Same 1 bs o m cs p n) (within : o % per 1 ≡ p % per 1) (len : ℕ) where
  counted_viewed : (size k : ℕ) → counted_outcome size len k (push_seq bs o m) ≡ counted_outcome size len k (push_seq cs p n)
  unfolding counted_outcome outcome
  counted_viewed size k =
      first_append (tests 1 size len (push_seq bs o m)) (too_few k (span 1 len (push_seq bs o m)).2 ∷ [])
      ∙ (λ i. and_then (outcome-viewed s within len size i) (first (too_few k (up 1 len * per 1 + within i + long s i) ∷ [])))
      ∙ sym (first_append (tests 1 size len (push_seq cs p n)) (too_few k (span 1 len (push_seq cs p n)).2 ∷ []))

  pub answer-viewed : (size k : ℕ) → counted_answer size len k (push_seq bs o m) ≡ counted_answer size len k (push_seq cs p n)
  unfolding counted_answer
  answer-viewed size k = λ i. answer (counted_viewed size k i) (answered-viewed s within len size i).values (0, 0, len)

  pub bytes-viewed : (store : List ℕ) (k : ℕ) → bytes_after store len k (push_seq bs o m) ≡ bytes_after store len k (push_seq cs p n)
  unfolding bytes_after
  bytes-viewed store k = λ i. if_done (counted_viewed (length store) k i) (after-viewed s within len store i) store

  pub entries_viewed : (store entries : List ℕ) → entries_after store len entries (push_seq bs o m) ≡ entries_after store len entries (push_seq cs p n)
  unfolding entries_after
  entries_viewed store entries = λ i.
      let start : ℕ = up 1 len * per 1 + within i in
      if_done (counted_viewed (length store) (length entries) i)
      (recounted entries (touched len (from len (replicate (start - len) (gap_char 1) ++ s.same i))) (chars 1 (after-viewed s within len store i) 0 (start + long s i)))
      entries
