-- The invariant: the flags from p on up to the place reached are all as `set` says. Assumes nothing.
use mathlib.Core.Path.{◌≡◌}
use Prim.Native.Nat.{◌+◌, ◌-◌, ◌≤◌}
use Rattle.codes.specs.Codes.{pick, chars}
use Rattle.fields.specs.Runs.{leading}
use Rattle.fields.proofs.inner.runs.run_end.Given as goal

abbrev pub invariant-loop-at : goal.invariant-loop-at
invariant-loop-at l = (l.at ≤ l.end) × (l.p + leading (pick l.set 1 0) (chars 1 l.bytes l.p (l.end - l.p)) ≡ l.at + leading (pick l.set 1 0) (chars 1 l.bytes l.at (l.end - l.at)))

abbrev pub decreases-loop-at : goal.decreases-loop-at
decreases-loop-at l = l.end - l.at
