-- The invariant: a run of letters up to the first letter of byte b. Assumes nothing.
use Prim.Native.Nat.{◌-◌, ◌*◌}
use Rattle.codes.specs.Made.{Made}
use Rattle.writes.specs.Writes.{letter_at}
use Rattle.writes.proofs.inner.letters.write_whole.Given as goal

abbrev pub invariant-loop-b : goal.invariant-loop-b
invariant-loop-b l = Made (letter_at l.bytes l.o) (l.at * 4 - l.o) (l.b * 4 - l.o) l.initial.out l.out
