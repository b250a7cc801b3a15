-- The invariant: each half below l is its word's. Assumes nothing.
use Prim.Native.Nat.{◌/◌, ◌%◌, ◌^◌}
use lib.ListN.{get_or}
use Rattle.codes.specs.Made.{Made}
use Rattle.lanes.proofs.inner.turns.halves.Given as goal

abbrev pub invariant-loop-l : goal.invariant-loop-l
invariant-loop-l l = Made (λ m. get_or l.words m 0 / 2 ^ l.s % 2 ^ 32) 0 l.l l.initial.half-items l.half-items
