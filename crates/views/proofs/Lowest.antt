-- If several of a call's tests apply, the lowest number is given, and a number only when its line holds: of each list of tests, by
-- its numbers, which do not descend.
-- Assumes nothing.
use mathlib.Core.List.{List, [], ◌∷◌, ◌++◌}
use mathlib.Core.Path.{refl}
use Prim.Native.Nat.{ℕ, ◌-◌}
use lib.ListN.{length}
use Rattle.codes.specs.Refusals.{bad_index}
use Rattle.codes.proofs.Lowest.{Lowest, first_lowest}
use Rattle.fields.specs.Fields.{slice_tests}
use Rattle.views.specs.Views.{got_sliced}

pub get_sliced_lowest : (w : ℕ) (bs : List ℕ) (o len start end i : ℕ)
    → Lowest (got_sliced w bs o len start end i).no (slice_tests w (length bs) o len start end ++ bad_index (end - start) i ∷ [])
unfolding got_sliced
get_sliced_lowest w bs o len start end i = first_lowest (slice_tests w (length bs) o len start end ++ bad_index (end - start) i ∷ []) refl
