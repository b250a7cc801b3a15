-- The invariant: the flags up to p are set. Assumes nothing.
use Prim.Native.Nat.{◌-◌, ◌≤◌}
use Rattle.dna.specs.Flags.{Marked}
use Rattle.dna.proofs.inner.marks.mark_run.Given as goal

abbrev pub invariant-loop-p : goal.invariant-loop-p
invariant-loop-p l = (l.from ≤ l.p) × (l.p ≤ l.to) × Marked l.from l.p l.initial.flags l.flags

abbrev pub decreases-loop-p : goal.decreases-loop-p
decreases-loop-p l = l.to - l.p
