-- The invariant: the lanes below l are marked. Assumes nothing.
use Prim.Native.Nat.{◌/◌, ◌%◌, ◌^◌}
use lib.Dec.{eqb}
use lib.ListN.{get_or}
use Rattle.codes.specs.Codes.{pick}
use Rattle.codes.specs.Made.{Made}
use Rattle.windows.proofs.inner.marks.mark.Given as goal

abbrev pub invariant-loop-l : goal.invariant-loop-l
invariant-loop-l l = Made (λ m. pick (eqb (get_or l.words m 0 / 2 ^ l.t % 2) 1) l.stop (get_or l.marks m 0)) 0 l.l l.initial.out l.out
