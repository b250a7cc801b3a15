-- The invariant: the steps below t are written. Assumes nothing.
use Prim.Native.Nat.{◌+◌, ◌*◌}
use Rattle.codes.specs.Made.{Made}
use Rattle.lanes.specs.Turns.{turned}
use Rattle.lanes.proofs.inner.turns.write_half.Given as goal

abbrev pub invariant-loop-t : goal.invariant-loop-t
invariant-loop-t g l = Made (turned g.W.Width.BITS l.part l.e) l.e (l.e + 8 * l.t) l.initial.out l.out
