-- The invariant: each word below l holds its lane's characters. Assumes nothing.
use Prim.Native.Nat.{ℕ, ◌+◌, ◌*◌, ◌≤◌, ◌<◌}
use lib.ListN.{get_or}
use Rattle.codes.specs.Codes.{chars}
use Rattle.lanes.specs.Turns.{Holds}
use Rattle.lanes.proofs.inner.turns.lane_words.Given as goal

abbrev pub invariant-loop-l : goal.invariant-loop-l
invariant-loop-l g l = (m : ℕ) → 0 ≤ m → m < l.l → Holds g.W.Width.BITS (chars g.W.Width.BITS l.bytes l.offset l.len) (m * l.n + l.i) (get_or l.word-items m 0)
