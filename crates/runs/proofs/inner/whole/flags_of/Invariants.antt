-- The invariant: y is the stack of the first k words of flags. Assumes nothing.
use Rattle.runs.proofs.FlagLaws.{Stacked}
use Rattle.runs.proofs.inner.whole.flags_of.Given as goal

abbrev pub invariant-loop-k : goal.invariant-loop-k
invariant-loop-k l = Stacked l.letters l.i l.k l.y
