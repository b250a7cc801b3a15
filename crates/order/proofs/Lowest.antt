-- If several of a call's tests apply, the lowest number is given, and a number only when its line holds: of each list of tests, by
-- its numbers, which do not descend.
-- Assumes nothing.
use mathlib.Core.List.{List}
use mathlib.Core.Path.{refl}
use Prim.Native.Nat.{ℕ}
use lib.ListN.{length}
use Rattle.codes.specs.Refusals.{number_of}
use Rattle.codes.proofs.Lowest.{Lowest, first_lowest}
use Rattle.order.specs.Order.{pair_tests, pair_outcome}

pub pair_lowest : (w : ℕ) (xs : List ℕ) (ao al : ℕ) (bs : List ℕ) (bo bl : ℕ) → Lowest (number_of (pair_outcome w xs ao al bs bo bl)) (pair_tests w (length xs) ao al (length bs) bo bl)
pair_lowest w xs ao al bs bo bl = first_lowest (pair_tests w (length xs) ao al (length bs) bo bl) refl
