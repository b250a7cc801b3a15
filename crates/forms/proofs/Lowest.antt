-- If several of a call's tests apply, the lowest number is given, and a number only when its line holds: of each list of tests, by
-- its numbers, which do not descend.
-- Assumes nothing.
use mathlib.Core.List.{List}
use mathlib.Core.Path.{refl}
use Prim.Native.Nat.{ℕ}
use lib.ListN.{length}
use Rattle.codes.specs.Refusals.{number_of}
use Rattle.codes.proofs.Lowest.{Lowest, first_lowest}
use Rattle.forms.specs.Forms.{write_tests, write_outcome}
use Rattle.forms.specs.Reading.{read_tests, read_outcome}

pub write_lowest : (xs : List ℕ) (ao al : ℕ) (ys : List ℕ) (bo bl : ℕ) (out : List ℕ)
    → Lowest (number_of (write_outcome xs ao al ys bo bl out)) (write_tests (length xs) ao al (length ys) bo bl (length out))
unfolding write_outcome
write_lowest xs ao al ys bo bl out = first_lowest (write_tests (length xs) ao al (length ys) bo bl (length out)) refl

pub read_lowest : (form bases flags : List ℕ) → Lowest (number_of (read_outcome form bases flags)) (read_tests form (length bases) (length flags))
unfolding read_outcome
read_lowest form bases flags = first_lowest (read_tests form (length bases) (length flags)) refl
