-- The invariant: the lanes below l are answered. Assumes nothing.
use Prim.Native.Nat.{◌+◌}
use lib.Dec.{ltb}
use lib.ListN.{get_or}
use Rattle.codes.specs.Codes.{pick}
use Rattle.codes.specs.Made.{Made}
use Rattle.windows.proofs.inner.counts.answers_of.Given as goal

abbrev pub invariant-loop-l : goal.invariant-loop-l
invariant-loop-l l = Made (λ m. pick (ltb 0 (get_or l.counts m 0 + get_or l.enter m 0)) 0xffff_ffff 0) 0 l.l l.initial.out l.out
