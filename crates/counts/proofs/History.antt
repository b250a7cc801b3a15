-- After a clear of this form that is accepted and any list of these calls, refused ones and further clears among them: the store holds
-- the flags that the calls alone give, packed afresh, as `Packed` says; there is an entry for each block, and every entry up to the last block is the
-- count of its block of these flags.
-- Assumes nothing.
use Rattle.std.specs.Prelude.{Ok}
use mathlib.Core.List.{List, []}
use mathlib.Core.Path.{◌≡◌, subst}
use Prim.Native.Nat.{ℕ, ◌≤◌}
use lib.ListN.{length}
use Rattle.codes.specs.Widths.{width_1}
use Rattle.stores.specs.History.{Packed}
use Rattle.stores.specs.Stores.{Call, clear}
use Rattle.stores.proofs.History.{kept_packed}
use Rattle.counts.specs.Blocks.{blocks}
use Rattle.counts.specs.Counts.{counted_outcome}
use Rattle.counts.specs.History.{Counted, Right, step, run}
use Rattle.counts.specs.History as Histories
use Rattle.counts.proofs.HistoryLaws.{run-kept, run-right, run-enough, cleared_kept, cleared_length, cleared_right, cleared_enough}

-- a store of m bytes that holds the flags h, beside entries that are right for them
pub record Holds (m : ℕ) (s : Counted) (h : List ℕ) : Type 0 where
  pub packed : Packed 1 m s.store h
  pub enough : blocks (length h) ≤ length s.entries
  pub right : Right s.entries h

pub history : (bs : List ℕ) (old : ℕ) (entries : List ℕ) → counted_outcome (length bs) 0 (length entries) clear ≡ Ok tt → (cs : List Call)
    → Holds (length bs) (run (step (record { store = record { bytes = bs; len = old }; entries = entries }) clear) cs)
    (Histories.history (length bs) (length entries) [] cs)
history bs old entries e cs =
    let start : Counted = step (record { store = record { bytes = bs; len = old }; entries = entries }) clear in
    let p = kept_packed width_1 (run-kept cs start [] (length bs) (length entries) (cleared_kept bs old entries e) (cleared_length bs old entries e)) in
    record {
      packed = p;
      enough = subst (λ (n : ℕ). blocks n ≤ length (run start cs).entries) p.length-is (run-enough cs start (cleared_enough bs old entries e));
      right = subst (Right (run start cs).entries) p.chars-are (run-right cs start (cleared_right bs old entries e));
    }
