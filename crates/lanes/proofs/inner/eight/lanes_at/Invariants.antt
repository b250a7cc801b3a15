-- The invariant: the lanes below l are right. Assumes nothing.
use Rattle.codes.specs.Codes.{chars}
use Rattle.codes.specs.Made.{Made}
use Rattle.lanes.specs.Lanes.{lane_char}
use Rattle.lanes.proofs.inner.eight.lanes_at.Given as goal

abbrev pub invariant-loop-l : goal.invariant-loop-l
invariant-loop-l g l = Made (lane_char (chars g.W.Width.BITS l.bytes l.offset l.len) l.n l.d l.j) 0 l.l l.initial.lane-items l.lane-items
