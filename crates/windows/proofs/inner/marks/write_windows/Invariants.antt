-- The invariant: the steps below j + t are marked and written. Assumes nothing.
use mathlib.Core.Path.{◌≡◌}
use lib.ListN.{length}
use Rattle.windows.specs.Marks.{TurnsMarks}
use Rattle.windows.proofs.inner.marks.write_windows.Given as goal

abbrev pub invariant-loop-t : goal.invariant-loop-t
invariant-loop-t l = (length l.out ≡ length l.initial.out) × TurnsMarks l.k l.skip l.j l.t l.words l.initial.now l.now l.initial.out l.out
