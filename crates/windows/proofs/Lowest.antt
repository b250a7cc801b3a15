-- If several of a call's tests apply, the lowest number is given, and a number only when its line holds: of each list of tests, by
-- its numbers, which do not descend. The one exception is the room of filling windows: 9 is given only where 10 is not.
-- Assumes nothing.
use mathlib.Core.List.{List, [], ◌∷◌, ◌++◌}
use mathlib.Core.Path.{◌≡◌, refl}
use Prim.Native.Nat.{ℕ, ◌-◌, ◌*◌}
use lib.ListN.{length}
use Rattle.codes.specs.Codes.{chars}
use Rattle.codes.specs.Refusals.{Test, first, number_of, no_room, view_tests}
use Rattle.codes.proofs.Lowest.{Lowest, first_lowest}
use Rattle.codes.proofs.RefusalLaws.{and_then, first_append}
use Rattle.lanes.specs.Lanes.{steps}
use Rattle.windows.specs.Windows.{Running, window_tests, skip_tests, run_tests, windows_outcome, run_outcome}

module _ (bs : List ℕ) (o len c k : ℕ) where
  module _ (skip : ℕ) where
    -- filling's tests but the room's
    abbrev ts : List Test
    ts = window_tests bs o len c k ++ skip_tests (steps 1 len c 1) c k skip

    pub fill_windows_lowest : Lowest (number_of (first ts)) ts
    fill_windows_lowest = first_lowest ts refl

    pub fill_windows_room : (m : ℕ) → windows_outcome bs o len c k skip m ≡ and_then (first ts) (first (no_room m (8 * (steps 1 len c 1 - skip)) ∷ []))
    unfolding windows_outcome
    fill_windows_room m = first_append ts (no_room m (8 * (steps 1 len c 1 - skip)) ∷ [])

  pub step_windows_lowest : (s : Running) → Lowest (number_of (run_outcome bs o len c k s)) (view_tests 1 (length bs) o len ++ run_tests (chars 1 bs o len) len c k s)
  unfolding run_outcome
  step_windows_lowest s = first_lowest (view_tests 1 (length bs) o len ++ run_tests (chars 1 bs o len) len c k s) refl
