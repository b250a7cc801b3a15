-- The invariant: the total is the sum of the entries passed. Assumes nothing.
use mathlib.Core.Path.{◌≡◌}
use Prim.Native.Nat.{◌-◌, ◌*◌, ◌≤◌}
use lib.Seq.{slice}
use Rattle.fields.specs.Flags.{sum}
use Rattle.counts.proofs.inner.ranges.sum_run.Given as goal

abbrev pub invariant-loop-b : goal.invariant-loop-b
invariant-loop-b l = (l.b ≤ l.to) × (l.total ≡ sum (slice l.from l.b l.entries)) × (l.total ≤ 65535 * (l.b - l.from))

abbrev pub decreases-loop-b : goal.decreases-loop-b
decreases-loop-b l = l.to - l.b
