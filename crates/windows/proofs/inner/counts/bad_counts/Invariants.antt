-- The invariant: no lane below l is bad. Assumes nothing.
use mathlib.Core.Bool.{false}
use mathlib.Core.Path.{◌≡◌}
use Rattle.windows.specs.Windows.{any_lane}
use Rattle.windows.proofs.RunLaws.{bad_lane}
use Rattle.windows.proofs.inner.counts.bad_counts.Given as goal

abbrev pub invariant-loop-l : goal.invariant-loop-l
invariant-loop-l l = any_lane l.l (bad_lane l.most l.counts l.enter l.leave) ≡ false
