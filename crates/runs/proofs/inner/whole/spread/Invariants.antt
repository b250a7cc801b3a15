-- The invariant: the first k flags are made. Assumes nothing.
use Prim.Native.Nat.{◌+◌}
use lib.ListN.{get_or}
use Rattle.codes.specs.Codes.{code}
use Rattle.codes.specs.Made.{Made}
use Rattle.runs.proofs.inner.whole.spread.Given as goal

abbrev pub invariant-loop-k : goal.invariant-loop-k
invariant-loop-k l = Made (λ m. code 1 (get_or l.letters (l.i + m) 0)) 0 l.k l.initial.flag-items l.flag-items
