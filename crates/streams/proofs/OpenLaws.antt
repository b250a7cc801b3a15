-- What a step or a fill that is not refused has passed, and that the room of several buffers is that of the least.
-- Assumes nothing.
use Rattle.std.specs.Prelude.{Result, Ok, Err}
use mathlib.Core.List.{List, [], ◌∷◌}
use mathlib.Core.Path.{◌≡◌, sym, ap, ◌∙◌}
use Prim.Native.Nat.{ℕ, ◌*◌, ◌≤◌, ◌<◌, min}
use native.Mathlib.Nat.{lt_of_le_of_lt, min-le_left, min-le_right, le-min}
use lib.Dec.{ltb}
use lib.ListN.{length}
use borrow.Author.Tests.{lt-ltb, le-ltb, ltb-false, leb-false, lt-leb}
use Rattle.codes.specs.Codes.{IsWidth}
use Rattle.codes.specs.Refusals.{Test, first, no_room, Outcome}
use Rattle.codes.specs.declared.refusals.Refusal.{Refusal}
use Rattle.codes.specs.declared.refusals.Refusal.TheVariants.{NoRoom}
use Rattle.codes.proofs.RefusalLaws.{and_then, first_append, answer-outcome}
use Rattle.codes.proofs.WidthLaws.{below_or}
use Rattle.codes.proofs.OutcomeLaws.{passed, first_both}
use Rattle.codes.proofs.TestLaws.{first_behind, first_none}
use Rattle.lanes.specs.Lanes.{padding, steps, stream_tests}
use Rattle.streams.specs.Streams.{bad_step, room_tests, step_outcome, fill_outcome, fill_answer}
use Rattle.streams.specs.Answers.{filled_says}
use Rattle.streams.specs.declared.answers.Filled.{Filled}
use Rattle.lanes.proofs.LaneLaws.{Open, stream_open, stream_plain, Sized, stream_sizes}

-- the sizes of a stream that is not refused
pub open_sizes : {w : ℕ} {bs : List ℕ} {o len c f d e : ℕ} → IsWidth w → Open w bs o len c f d e → Sized w len c f
open_sizes {w} {bs} {o} {len} {c} {f} W h = stream_sizes W (length bs) o len c f h.view h.shape

-- each buffer has room for n entries
abbrev pub Rooms : ℕ → List ℕ → Type 0
Rooms n [] = Unit {0}
Rooms n (m ∷ ms) = (n ≤ m) × Rooms n ms

rooms : (n : ℕ) (ms : List ℕ) → first (room_tests n ms) ≡ Ok tt → Rooms n ms
rooms n [] e = tt
rooms n (m ∷ ms) e =
    let p = passed (ltb m n) NoRoom (first (room_tests n ms)) e in
    (ltb-false m n p.0, rooms n ms p.1)

-- the room of two buffers is that of the lesser
room_least : (n a b : ℕ) (ts : List Test) → first (no_room (min a b) n ∷ ts) ≡ first (no_room a n ∷ no_room b n ∷ ts)
room_least n a b ts =
    below_or a n
    (λ h. rw (lt-ltb a n h, lt-ltb (min a b) n (lt_of_le_of_lt (min-le_left a b) h)))
    (λ h.
    below_or b n
    (λ g. rw (le-ltb a n h, lt-ltb b n g, lt-ltb (min a b) n (lt_of_le_of_lt (min-le_right a b) g)))
    (λ g. rw (le-ltb a n h, le-ltb b n g, le-ltb (min a b) n (le-min h g))))

-- what an answer of filling says of its outcome
abbrev pub outcome_of : Result Filled Refusal → Outcome
outcome_of (Ok x) = Ok tt
outcome_of (Err r) = Err r

module _ (w : ℕ) (bs : List ℕ) (o len c f d e : ℕ) where
  abbrev tests : List Test
  tests = stream_tests w bs o len c f d e

  abbrev n : ℕ
  n = steps w len c f

  -- a step that is not refused
  pub step_open : (j : ℕ) → step_outcome w bs o len c f d e j ≡ Ok tt → Open w bs o len c f d e × (j < n)
  unfolding step_outcome
  step_open j h =
      let a = first_both tests (bad_step n j ∷ []) h in
      (stream_open w bs o len c f d e a.0, leb-false n j (first_none (bad_step n j ∷ []) a.1).0)

  pub step_plain : (j : ℕ) → step_outcome w bs o len c f d e j ≡ Ok tt → step_outcome w bs o len c f 0 0 j ≡ Ok tt
  unfolding step_outcome
  step_plain j h =
      let a = step_open j h in
      sym (first_behind (stream_tests w bs o len c f 0 0) (bad_step n j ∷ []) (stream_plain w bs o len c f d e a.0) 1 (lt-leb n j a.1, tt))

  -- a fill that is not refused
  pub fill_open : (ms : List ℕ) → fill_outcome w bs o len c f d e ms ≡ Ok tt → Open w bs o len c f d e × Rooms (8 * n) ms
  unfolding fill_outcome
  fill_open ms h =
      let a = first_both tests (room_tests (8 * n) ms) h in
      (stream_open w bs o len c f d e a.0, rooms (8 * n) ms a.1)

  pub fill_least : (a b : ℕ) (ms : List ℕ) → fill_outcome w bs o len c f d e (min a b ∷ ms) ≡ fill_outcome w bs o len c f d e (a ∷ b ∷ ms)
  unfolding fill_outcome
  fill_least a b ms =
      first_append tests (room_tests (8 * n) (min a b ∷ ms))
      ∙ ap (and_then (first tests)) (room_least (8 * n) a b (room_tests (8 * n) ms))
      ∙ sym (first_append tests (room_tests (8 * n) (a ∷ b ∷ ms)))

  pub filled-outcome : (r : Result Filled Refusal) (ms : List ℕ) → filled_says r ≡ fill_answer w bs o len c f d e ms → outcome_of r ≡ fill_outcome w bs o len c f d e ms
  unfolding fill_answer
  filled-outcome (Ok x) ms h = answer-outcome (Ok tt) (fill_outcome w bs o len c f d e ms) (x.steps, x.padding.0) (n, padding w len c f) (0, 0) (0, 0) h
  filled-outcome (Err r) ms h = answer-outcome (Err r) (fill_outcome w bs o len c f d e ms) (0, 0) (n, padding w len c f) (0, 0) (0, 0) h
