-- The invariant: the steps from the delay on, below j, are written. Assumes nothing.
use Prim.Native.Nat.{◌-◌, ◌*◌, ◌≤◌}
use Rattle.codes.specs.Codes.{chars}
use Rattle.codes.specs.Made.{Made}
use Rattle.lanes.specs.Lanes.{lane_entry}
use Rattle.lanes.proofs.inner.fills.fill_lanes.Given as goal

abbrev pub invariant-loop-j : goal.invariant-loop-j
invariant-loop-j g l = (l.start ≤ l.j) × (l.j ≤ l.steps) × Made (lane_entry (chars g.W.Width.BITS l.bytes l.offset l.len) l.n l.d) (8 * l.start) (8 * l.j) l.initial.out l.out

abbrev pub decreases-loop-j : goal.decreases-loop-j
decreases-loop-j g l = l.steps - l.j
