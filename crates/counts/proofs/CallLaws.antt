-- The laws of the calls: their outcome by that of the plain call and by the entries, and what they answer and leave where it is known.
-- Assumes nothing.
use Rattle.std.specs.Prelude.{Result, Ok, Err, IsErrAnd}
use mathlib.Core.List.{List, [], ◌∷◌}
use mathlib.Core.Path.{◌≡◌, refl, sym, ap, ◌∙◌}
use Prim.Native.Nat.{ℕ, ◌+◌, ◌^◌, ◌≤◌, zero-le}
use native.Mathlib.Omega.{arith}
use borrow.Author.Tests.{ltb-false}
use lib.Dec.{ltb}
use lib.ListN.{length}
use Rattle.codes.specs.Codes.{up, trailing}
use Rattle.codes.specs.Refusals.{Answer, answer, first, if_done, Outcome}
use Rattle.codes.specs.declared.refusals.Refusal.{Refusal}
use Rattle.codes.specs.declared.refusals.Refusal.TheVariants.{NoRoom}
use Rattle.codes.specs.declared.units.Chars.{Chars}
use Rattle.codes.proofs.CharLaws.{length-chars}
use Rattle.codes.proofs.OutcomeLaws.{passed, first_refused, first_done, first_both, room_right}
use Rattle.runs.specs.Runs.{seq_start}
use Rattle.stores.specs.Stores.{Call, clear, push_ascii, push_seq, overwrite, cut, tests, outcome, deed, span, old_length, answered, after}
use Rattle.stores.specs.Answers.{kept_by}
use Rattle.stores.specs.declared.answers.Unchanged.{Unchanged}
use Rattle.stores.proofs.CallLaws.{Passed, Judged, judged_passed, passed_on, by_outcome}
use Rattle.stores.proofs.CallLaws as Plain
use Rattle.counts.specs.Blocks.{blocks, touched, recounted}
use Rattle.counts.specs.Counts.{too_few, counted_outcome, counted_answer, bytes_after, new_flags, entries_after}
use Rattle.counts.proofs.BlockLaws.{recounted-empty}

-- an answer, a buffer and entries are what a call gives and leaves
abbrev pub Left : List ℕ → ℕ → List ℕ → Call → Answer (ℕ × ℕ × ℕ) → List ℕ → List ℕ → Type 0
Left bs len entries call a b e =
    (a ≡ counted_answer (length bs) len (length entries) call) × ((b ≡ bytes_after bs len (length entries) call) × (e ≡ entries_after bs len entries call))

module _ (bs : List ℕ) (len : ℕ) (entries : List ℕ) (call : Call) where
  -- what a call leaves where its outcome is known
  pub refused_left : (r : Refusal) → counted_outcome (length bs) len (length entries) call ≡ Err r
      → Left bs len entries call (answer (Err r) (0, 0, 0) (0, 0, old_length len call)) bs entries
  unfolding counted_answer bytes_after entries_after
  refused_left r e = (rw e, (rw e, rw e))

  module _ (e : counted_outcome (length bs) len (length entries) call ≡ Ok tt) where
    -- the plain call is done, and there are entries for the new length
    pub done_both : (outcome 1 (length bs) len call ≡ Ok tt) × (blocks (span 1 len call).2 ≤ length entries)
    unfolding counted_outcome outcome
    done_both =
        let p = first_both (tests 1 (length bs) len call) (too_few (length entries) (span 1 len call).2 ∷ []) e in
        (p.0, ltb-false _ _ (passed (ltb (length entries) (blocks (span 1 len call).2)) NoRoom (Ok tt) p.1).0)

    pub done_left : Left bs len entries call (answered 1 (length bs) len call) (after 1 bs len call) (recounted entries (touched len (deed 1 len call)) (new_flags bs len call))
    unfolding counted_answer bytes_after entries_after answered
    done_left = (rw (e, done_both.0), (rw e, rw e))

    pub done_length : (counted_answer (length bs) len (length entries) call).values.2 ≡ (span 1 len call).2
    unfolding counted_answer answered
    done_length = rw (e, done_both.0)

  -- and where the plain call's is
  pub plain_refused : (r : Refusal) → outcome 1 (length bs) len call ≡ Err r → counted_outcome (length bs) len (length entries) call ≡ Err r
  unfolding counted_outcome outcome
  plain_refused r e = first_refused (tests 1 (length bs) len call) (too_few (length entries) (span 1 len call).2 ∷ []) r e

  module _ (e : outcome 1 (length bs) len call ≡ Ok tt) where
    plain_done : counted_outcome (length bs) len (length entries) call ≡ first (too_few (length entries) (span 1 len call).2 ∷ [])
    unfolding counted_outcome outcome
    plain_done = first_done (tests 1 (length bs) len call) (too_few (length entries) (span 1 len call).2 ∷ []) e

    pub plain-few : {n : ℕ} {o : Outcome} {r : Refusal} → n ≡ (span 1 len call).2 → o ≡ first (too_few (length entries) n ∷ []) → o ≡ Err r
        → counted_outcome (length bs) len (length entries) call ≡ Err r
    plain-few at is q = plain_done ∙ ap (λ (k : ℕ). first (too_few (length entries) k ∷ [])) (sym at) ∙ sym is ∙ q

    pub plain-enough : blocks (span 1 len call).2 ≤ length entries → counted_outcome (length bs) len (length entries) call ≡ Ok tt
    plain-enough h = plain_done ∙ sym (room_right (length entries) (blocks (span 1 len call).2) h)

-- entries that are not too few
pub enough_of : (n k : ℕ) {m : ℕ} {o : Outcome} → m ≡ k → o ≡ first (too_few n m ∷ []) → o ≡ Ok tt → blocks k ≤ n
enough_of n k {m} at is q = let h = ltb-false n (blocks m) (passed (ltb n (blocks m)) NoRoom (Ok tt) (sym is ∙ q)).0 in omega (arith, at, h)

-- a plain call that has passed its tests on m bytes has room for the new length
passed_room : (m len : ℕ) (call : Call) → Passed (tests 1 m len call) → (m ≤ 2 ^ 28) × (up 1 (span 1 len call).2 + trailing ≤ m)
passed_room m len clear p = (ltb-false (2 ^ 28) m p.0, ltb-false m trailing p.1.0)
passed_room m len (push_ascii ls) p = (ltb-false (2 ^ 28) m p.0, ltb-false m (up 1 (len + length ls) + trailing) p.1.1.0)
passed_room m len (push_seq vs o n) p = (ltb-false (2 ^ 28) m p.0, ltb-false m (up 1 (seq_start 1 len o + n) + trailing) p.1.1.1.1.0)
passed_room m len (overwrite at ls) p = (ltb-false (2 ^ 28) m p.0, ltb-false m (up 1 len + trailing) p.1.0)
passed_room m len (cut n) p =
    let sound : up 1 len + trailing ≤ m = ltb-false m (up 1 len + trailing) p.1.0 in
    let within : n ≤ len = ltb-false len n p.1.1.0 in
    (ltb-false (2 ^ 28) m p.0, omega arith)

-- and so has one that is done
module _ (bs : List ℕ) (len : ℕ) (call : Call) (q : outcome 1 (length bs) len call ≡ Ok tt) where
  pub plain-passed : Passed (tests 1 (length bs) len call)
  plain-passed = let j : Judged 1 bs len call (outcome 1 (length bs) len call) = record { is = refl } in judged_passed j q

  pub plain-room : (length bs ≤ 2 ^ 28) × (up 1 (span 1 len call).2 + trailing ≤ length bs)
  plain-room = passed_room (length bs) len call plain-passed

-- a call by its ways out: refused, or done and the blocks that it touches are counted
module _ (bs : List ℕ) (len : ℕ) (entries : List ℕ) (call : Call) where
  pub left_refused : {A : Type 0} (f : A → ℕ × ℕ × ℕ) {r : Refusal} (u : Unchanged) (k : Chars) (x : Result A Unchanged)
      → counted_outcome (length bs) len (length entries) call ≡ Err r → u ≡ record { refusal = r; len = k } → k.0 ≡ old_length len call
      → IsErrAnd x (λ y. y ≡ u) → Left bs len entries call (kept_by f x) bs entries
  left_refused f {r} u k x q e l p =
      let d = refused_left bs len entries call r q in
      (passed_on f r u k x e p ∙ ap (λ (n : ℕ). answer (Err r) (0, 0, 0) (0, 0, n)) l ∙ d.0, d.1)

  pub left_done : {a : Answer (ℕ × ℕ × ℕ)} {b e : List ℕ} → outcome 1 (length bs) len call ≡ Ok tt → blocks (span 1 len call).2 ≤ length entries
      → (a ≡ answered 1 (length bs) len call) × (b ≡ after 1 bs len call) → e ≡ recounted entries (touched len (deed 1 len call)) (new_flags bs len call)
      → Left bs len entries call a b e
  left_done q h p r = let d = done_left bs len entries call (plain-enough bs len entries call q h) in (p.0 ∙ d.0, (p.1 ∙ d.1.0, r ∙ d.1.1))

-- no entry is too few for a clear, and none changes
module _ (bs : List ℕ) (len : ℕ) (entries : List ℕ) where
  pub clear-plain : (answered 1 (length bs) len clear ≡ counted_answer (length bs) len (length entries) clear) × (after 1 bs len clear ≡ bytes_after bs len (length entries) clear)
  clear-plain =
      by_outcome
      (λ o. outcome 1 (length bs) len clear ≡ o
      → (answered 1 (length bs) len clear ≡ counted_answer (length bs) len (length entries) clear) × (after 1 bs len clear ≡ bytes_after bs len (length entries) clear))
      (outcome 1 (length bs) len clear)
      (λ d e. let q = done_left bs len entries clear (plain-enough bs len entries clear e zero-le) in (q.0, q.1.0))
      (λ r d e.
      let q = refused_left bs len entries clear r (plain_refused bs len entries clear r e) in
      let j : Judged 1 bs len clear (Err r) = record { is = sym e } in
      (sym (Plain.refused_says j refl) ∙ q.0, sym (Plain.refused_after j refl) ∙ q.1.0))
      refl

  pub clear-entries : entries ≡ entries_after bs len entries clear
  unfolding entries_after
  clear-entries =
      by_outcome (λ o. entries ≡ if_done o (recounted entries (touched len (deed 1 len clear)) (new_flags bs len clear)) entries)
      (counted_outcome (length bs) len (length entries) clear) (λ e. recounted-empty entries _ (new_flags bs len clear) (length-chars 1 (after 1 bs len clear) 0 0)) (λ r e. refl)
