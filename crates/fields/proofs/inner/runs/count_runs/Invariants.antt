-- The invariant: the runs passed and those from the place reached on are all; a run begins at that place. Assumes nothing.
use mathlib.Core.List.{List}
use mathlib.Core.Path.{◌≡◌}
use Prim.Native.Nat.{ℕ, ◌+◌, ◌-◌, ◌≤◌}
use lib.ListN.{length}
use Rattle.codes.specs.Codes.{chars}
use Rattle.fields.specs.Runs.{runs, runs_from}
use Rattle.fields.proofs.RunLaws.{same_to}
use Rattle.fields.proofs.inner.runs.count_runs.Given as goal

-- `count` runs are passed, and a run begins at p
pub record Passed (s : List ℕ) (first n end p count : ℕ) : Type 0 where
  pub from : first ≤ p
  pub within : p ≤ end
  pub few : count ≤ p
  pub clear : same_to s 0 p end ≡ 0
  pub all : count + length (runs_from (p - first) (chars 1 s p (end - p))) ≡ length (runs (chars 1 s first n))

abbrev pub invariant-loop-p : goal.invariant-loop-p
invariant-loop-p l = Passed l.bytes l.first l.n l.end l.p l.count

abbrev pub decreases-loop-p : goal.decreases-loop-p
decreases-loop-p l = l.end - l.p
