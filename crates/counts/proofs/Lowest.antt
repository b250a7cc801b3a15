-- If several of a call's tests apply, the lowest number is given, and a number only when its line holds: of each list of tests, by
-- its numbers, which do not descend.
-- Assumes nothing.
use mathlib.Core.Bool.{true}
use mathlib.Core.Path.{◌≡◌, refl}
use Prim.Native.Nat.{ℕ}
use Rattle.codes.specs.Refusals.{number_of, first}
use Rattle.codes.proofs.Lowest.{Lowest, first_lowest, ascending_from}
use Rattle.stores.specs.Stores.{Call, clear, push_ascii, push_seq, overwrite, cut}
use Rattle.counts.specs.Counts.{counted_tests, counted_outcome, query_tests}

pub call_lowest : (m len n : ℕ) (call : Call) → Lowest (number_of (counted_outcome m len n call)) (counted_tests m len n call)
unfolding counted_outcome
call_lowest m len n call = first_lowest (counted_tests m len n call) (ascending call)
  where
    ascending : (c : Call) → ascending_from 0 (counted_tests m len n c) ≡ true
    ascending clear = refl
    ascending (push_ascii letters) = refl
    ascending (push_seq bs o k) = refl
    ascending (overwrite start letters) = refl
    ascending (cut k) = refl

pub query_lowest : (m len n start end : ℕ) → let ts = query_tests m len n start end in Lowest (number_of (first ts)) ts
query_lowest m len n start end = first_lowest (query_tests m len n start end) refl
