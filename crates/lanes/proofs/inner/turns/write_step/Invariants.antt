-- The invariant: the lanes below l are written. Assumes nothing.
use Prim.Native.Nat.{◌+◌, ◌-◌, ◌/◌, ◌%◌, ◌^◌}
use lib.ListN.{get_or}
use Rattle.codes.specs.Made.{Made}
use Rattle.lanes.proofs.inner.turns.write_step.Given as goal

abbrev pub invariant-loop-l : goal.invariant-loop-l
invariant-loop-l g l = Made (λ q. get_or l.part (q - l.e) 0 / 2 ^ l.s % 2 ^ g.W.Width.BITS) l.e (l.e + l.l) l.initial.out l.out
