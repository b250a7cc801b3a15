-- Every character passed is equal; the first 56 bits that differ show where, and hold the two characters there. Words may reach beyond the views.
-- Assumes nothing.
use Prim.Native.Nat.{◌*◌}
use Rattle.order.proofs.CommonLaws.{SameBelow}
use Rattle.order.proofs.inner.compare.compare_views.Given as goal

abbrev pub invariant-loop-t : goal.invariant-loop-t
invariant-loop-t g l = SameBelow g.W.Width.BITS l.a l.ao l.b l.bo (l.turn * l.t)
