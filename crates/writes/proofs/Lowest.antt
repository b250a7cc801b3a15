-- If several of a call's tests apply, the lowest number is given, and a number only when its line holds: of each list of tests, by
-- its numbers, which do not descend.
-- Assumes nothing.
use mathlib.Core.List.{List, [], ◌∷◌, ◌++◌}
use mathlib.Core.Path.{refl}
use Prim.Native.Nat.{ℕ, ◌+◌}
use lib.ListN.{length}
use Rattle.codes.specs.Codes.{up, trailing}
use Rattle.codes.specs.Refusals.{number_of, no_room, view_tests}
use Rattle.codes.proofs.Lowest.{Lowest, first_lowest}
use Rattle.writes.specs.Writes.{unpack_outcome, flip_outcome}

module _ (bs : List ℕ) (o len : ℕ) (out : List ℕ) where
  pub unpack_lowest : Lowest (number_of (unpack_outcome bs o len out)) (view_tests 2 (length bs) o len ++ no_room (length out) len ∷ [])
  unfolding unpack_outcome
  unpack_lowest = first_lowest (view_tests 2 (length bs) o len ++ no_room (length out) len ∷ []) refl

  pub to_revcomp_lowest : (w : ℕ) → Lowest (number_of (flip_outcome w bs o len out)) (view_tests w (length bs) o len ++ no_room (length out) (up w len + trailing) ∷ [])
  unfolding flip_outcome
  to_revcomp_lowest w = first_lowest (view_tests w (length bs) o len ++ no_room (length out) (up w len + trailing) ∷ []) refl
