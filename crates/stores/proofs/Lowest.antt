-- If several of a call's tests apply, the lowest number is given, and a number only when its line holds: of each list of tests, by
-- its numbers, which do not descend.
-- Assumes nothing.
use mathlib.Core.Bool.{true}
use mathlib.Core.Path.{◌≡◌, refl}
use Prim.Native.Nat.{ℕ}
use Rattle.codes.specs.Refusals.{number_of}
use Rattle.codes.proofs.Lowest.{Lowest, first_lowest, ascending_from}
use Rattle.stores.specs.Stores.{Call, clear, push_ascii, push_seq, overwrite, cut, tests, outcome}

pub call_lowest : (w m len : ℕ) (call : Call) → Lowest (number_of (outcome w m len call)) (tests w m len call)
unfolding outcome
call_lowest w m len call = first_lowest (tests w m len call) (ascending call)
  where
    ascending : (c : Call) → ascending_from 0 (tests w m len c) ≡ true
    ascending clear = refl
    ascending (push_ascii letters) = refl
    ascending (push_seq bs o n) = refl
    ascending (overwrite start letters) = refl
    ascending (cut n) = refl
