-- If several of a call's tests apply, the lowest number is given, and a number only when its line holds: of each list of tests, by
-- its numbers, which do not descend.
-- Assumes nothing.
use mathlib.Core.Bool.{true}
use mathlib.Core.List.{List, [], ◌∷◌, ◌++◌}
use mathlib.Core.Path.{◌≡◌, refl}
use Prim.Native.Nat.{ℕ, ◌*◌}
use Rattle.codes.specs.Refusals.{number_of}
use Rattle.codes.proofs.Lowest.{Lowest, first_lowest, ascending_from}
use Rattle.lanes.specs.Lanes.{bad_shape, steps, stream_tests}
use Rattle.streams.specs.Streams.{room_tests, bad_step, shaped, fill_outcome, step_outcome}

pub shape_lowest : (w len c f : ℕ) → Lowest (shaped w len c f).no (bad_shape c f ∷ [])
unfolding shaped
shape_lowest w len c f = first_lowest (bad_shape c f ∷ []) refl

-- rooms for any number of buffers
rooms : (entries : ℕ) (ms : List ℕ) → ascending_from 9 (room_tests entries ms) ≡ true
rooms entries [] = refl
rooms entries (m ∷ ms) = rooms entries ms

module _ (w : ℕ) (bs : List ℕ) (o len c f d e : ℕ) where
  pub fill_lowest : (ms : List ℕ) → Lowest (number_of (fill_outcome w bs o len c f d e ms)) (stream_tests w bs o len c f d e ++ room_tests (8 * steps w len c f) ms)
  unfolding fill_outcome
  fill_lowest ms = first_lowest (stream_tests w bs o len c f d e ++ room_tests (8 * steps w len c f) ms) (ascending ms)
    where
      ascending : (ns : List ℕ) → ascending_from 0 (stream_tests w bs o len c f d e ++ room_tests (8 * steps w len c f) ns) ≡ true
      ascending [] = refl
      ascending (n ∷ ns) = rooms (8 * steps w len c f) ns

  pub step_lowest : (j : ℕ) → Lowest (number_of (step_outcome w bs o len c f d e j)) (stream_tests w bs o len c f d e ++ bad_step (steps w len c f) j ∷ [])
  unfolding step_outcome
  step_lowest j = first_lowest (stream_tests w bs o len c f d e ++ bad_step (steps w len c f) j ∷ []) refl
