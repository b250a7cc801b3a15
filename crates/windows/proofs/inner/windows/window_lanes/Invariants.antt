-- The invariant: the steps below j are marked, and written from `skip` on. Assumes nothing.
use mathlib.Core.Path.{◌≡◌}
use Prim.Native.Nat.{◌-◌, ◌*◌, ◌≤◌}
use Rattle.codes.specs.Codes.{chars, tab}
use Rattle.codes.specs.Made.{Made}
use Rattle.windows.specs.Marks.{until_at}
use Rattle.windows.specs.Windows.{window_entry}
use Rattle.windows.proofs.inner.windows.window_lanes.Given as goal

abbrev pub invariant-loop-j : goal.invariant-loop-j
invariant-loop-j l =
    (l.j ≤ l.steps) × (l.marks ≡ tab 8 (until_at (chars 1 l.bytes l.offset l.len) l.n l.k l.j)) × Made (window_entry (chars 1 l.bytes l.offset l.len) l.n l.k l.skip) 0
    (8 * (l.j - l.skip)) l.initial.out l.out
