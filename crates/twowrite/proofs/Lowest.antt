-- If several of a call's tests apply, the lowest number is given, and a number only when its line holds: of each list of tests, by
-- its numbers, which do not descend.
-- Assumes nothing.
use mathlib.Core.List.{List, [], ◌∷◌}
use mathlib.Core.Path.{refl}
use Prim.Native.Nat.{ℕ}
use lib.ListN.{length}
use Rattle.codes.specs.Refusals.{number_of, view_tests}
use Rattle.codes.proofs.Lowest.{Lowest, first_lowest}
use Rattle.twowrite.specs.Writing.{start_tests, start_outcome, size_answer, add_tests, add_outcome, unfinished, finish_answer}
use Rattle.twowrite.specs.declared.answers.Writing.{Writing}

pub start_lowest : (version k n m : ℕ) (out : List ℕ) → Lowest (number_of (start_outcome version k n m out)) (start_tests k n m (length out))
unfolding start_outcome
start_lowest version k n m out = first_lowest (start_tests k n m (length out)) refl

pub add_lowest : (k : ℕ) (s : Writing) (name xs : List ℕ) (ao al : ℕ) (ys : List ℕ) (bo bl : ℕ) (out : List ℕ)
    → Lowest (number_of (add_outcome k s name xs ao al ys bo bl out)) (add_tests k s (length name) (length xs) ao al ys bo bl (length out))
unfolding add_outcome
add_lowest k s name xs ao al ys bo bl out = first_lowest (add_tests k s (length name) (length xs) ao al ys bo bl (length out)) refl

pub record_size_lowest : (ys : List ℕ) (bo bl : ℕ) → Lowest (size_answer ys bo bl).no (view_tests 1 (length ys) bo bl)
unfolding size_answer
record_size_lowest ys bo bl = first_lowest (view_tests 1 (length ys) bo bl) refl

pub finish_lowest : (s : Writing) → Lowest (finish_answer s).no (unfinished s ∷ [])
unfolding finish_answer
finish_lowest s = first_lowest (unfinished s ∷ []) refl
