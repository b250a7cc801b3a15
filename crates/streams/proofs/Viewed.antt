-- Bits outside a view count for nothing: views of equal characters, both accepted, get equal streams.
-- Assumes nothing.
use mathlib.Core.List.{List, [], ◌∷◌}
use mathlib.Core.Path.{◌≡◌}
use Prim.Native.Nat.{ℕ, ◌*◌}
use lib.ListN.{replicate}
use Rattle.codes.specs.Refusals.{Test, answer, if_done}
use Rattle.codes.proofs.Viewed.{Same, viewed}
use Rattle.lanes.specs.Lanes.{lane, padding, steps, bad_shape, bad_delays, lanes, filled}
use Rattle.streams.specs.Streams.{bad_step, room_tests, fill_outcome, fill_answer, fill_after, step_outcome, step_lanes}

module _ {w : ℕ} {bs : List ℕ} {o m : ℕ} {cs : List ℕ} {p n : ℕ} (s : Same w bs o m cs p n) (c f d e : ℕ) where
  module _ (rooms : List ℕ) where
    abbrev fill_tests : ℕ → List ℕ → List Test
    fill_tests k _ = bad_shape c f ∷ bad_delays d e ∷ room_tests (8 * steps w k c f) rooms

    pub fill_outcome-viewed : fill_outcome w bs o m c f d e rooms ≡ fill_outcome w cs p n c f d e rooms
    unfolding fill_outcome
    fill_outcome-viewed = viewed s fill_tests (λ q k xs. q)

    pub fill_answer-viewed : fill_answer w bs o m c f d e rooms ≡ fill_answer w cs p n c f d e rooms
    unfolding fill_answer fill_outcome
    fill_answer-viewed = viewed s fill_tests (λ q k xs. answer q (steps w k c f, padding w k c f) (0, 0))

    pub fill_after-viewed : (g : ℕ) (out : List ℕ) → fill_after w bs o m c f d e rooms g out ≡ fill_after w cs p n c f d e rooms g out
    unfolding fill_after fill_outcome
    fill_after-viewed g out = viewed s fill_tests (λ q k xs. if_done q (filled xs (lane w k c f) g (steps w k c f) out) out)

  module _ (j : ℕ) where
    abbrev step_tests : ℕ → List ℕ → List Test
    step_tests k _ = bad_shape c f ∷ bad_delays d e ∷ bad_step (steps w k c f) j ∷ []

    pub step_outcome-viewed : step_outcome w bs o m c f d e j ≡ step_outcome w cs p n c f d e j
    unfolding step_outcome
    step_outcome-viewed = viewed s step_tests (λ q k xs. q)

    pub step_lanes-viewed : (g : ℕ) → step_lanes w bs o m c f d e j g ≡ step_lanes w cs p n c f d e j g
    unfolding step_lanes step_outcome
    step_lanes-viewed g = viewed s step_tests (λ q k xs. if_done q (lanes xs (lane w k c f) g j) (replicate 8 0))
