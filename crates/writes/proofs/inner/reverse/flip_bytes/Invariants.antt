-- The invariant: a run of bytes that are looked up, from the first to the next. Assumes nothing.
use Prim.Native.Nat.{◌-◌, ◌*◌, ◌/◌, ◌^◌}
use Rattle.codes.specs.Made.{Made}
use Rattle.codes.specs.Words.{word}
use Rattle.writes.specs.Flips.{looked_up}
use Rattle.writes.proofs.inner.reverse.flip_bytes.Given as goal

abbrev pub invariant-loop-at : goal.invariant-loop-at
invariant-loop-at l = Made (λ j. looked_up l.table (word 8 l.bytes / 2 ^ l.p) (l.bits - 8 * j)) l.from l.at l.initial.out l.out
