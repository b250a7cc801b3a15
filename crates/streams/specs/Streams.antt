-- Lane streams: what each call answers and writes.
-- Assumes nothing.
use Rattle.std.specs.Prelude.{List, [], ◌∷◌, ◌++◌, ℕ, ◌*◌, leb, replicate}
use Rattle.codes.specs.Codes.{chars}
use Rattle.codes.specs.Refusals.{Test, Answer, answer, first, if_done, no_room, Outcome}
use Rattle.codes.specs.declared.refusals.Refusal.TheVariants.{BadStream}
use Rattle.lanes.specs.Lanes.{lane, padding, steps, bad_shape, lanes, filled, stream_tests}

-- lane length, steps and padding
unfoldable pub shaped : ℕ → ℕ → ℕ → ℕ → Answer (ℕ × ℕ × ℕ)
shaped w len c f = answer (first (bad_shape c f ∷ [])) (lane w len c f, steps w len c f, padding w len c f) (0, 0, 0)

-- an output buffer shorter than the entries
abbrev pub room_tests : ℕ → List ℕ → List Test
room_tests entries [] = []
room_tests entries (m ∷ ms) = no_room m entries ∷ room_tests entries ms

-- a step number at or past the steps
abbrev pub bad_step : ℕ → ℕ → Test
bad_step n j = (leb n j, BadStream)

-- a stream over a view of bytes bs, offset o and length len, with context c, factor f, and delays d and e
module _ (w : ℕ) (bs : List ℕ) (o len c f d e : ℕ) where
  -- filling, into buffers of these lengths
  unfoldable pub fill_outcome : List ℕ → Outcome
  fill_outcome ms = first (stream_tests w bs o len c f d e ++ room_tests (8 * steps w len c f) ms)

  -- the steps written, and the padding
  unfoldable pub fill_answer : List ℕ → Answer (ℕ × ℕ)
  unfolding fill_outcome
  fill_answer ms = answer (fill_outcome ms) (steps w len c f, padding w len c f) (0, 0)

  -- what stands in the buffer of delay g after it
  unfoldable pub fill_after : List ℕ → ℕ → List ℕ → List ℕ
  unfolding fill_outcome
  fill_after ms g out = if_done (fill_outcome ms) (filled (chars w bs o len) (lane w len c f) g (steps w len c f) out) out

  -- stepping, to step j
  unfoldable pub step_outcome : ℕ → Outcome
  step_outcome j = first (stream_tests w bs o len c f d e ++ bad_step (steps w len c f) j ∷ [])

  -- the lanes of step j with delay g; zeros where it is refused
  unfoldable pub step_lanes : ℕ → ℕ → List ℕ
  unfolding step_outcome
  step_lanes j g = if_done (step_outcome j) (lanes (chars w bs o len) (lane w len c f) g j) (replicate 8 0)
