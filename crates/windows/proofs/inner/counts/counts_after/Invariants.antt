-- The invariant: the lanes below l are counted. Assumes nothing.
use Prim.Native.Nat.{◌+◌, ◌-◌}
use lib.ListN.{get_or}
use Rattle.codes.specs.Made.{Made}
use Rattle.windows.proofs.inner.counts.counts_after.Given as goal

abbrev pub invariant-loop-l : goal.invariant-loop-l
invariant-loop-l l = Made (λ m. get_or l.counts m 0 + get_or l.enter m 0 - get_or l.leave m 0) 0 l.l l.initial.out l.out
