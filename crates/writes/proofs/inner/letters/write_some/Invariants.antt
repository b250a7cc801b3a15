-- The invariant: a run of letters up to i. Assumes nothing.
use Rattle.codes.specs.Made.{Made}
use Rattle.writes.specs.Writes.{letter_at}
use Rattle.writes.proofs.inner.letters.write_some.Given as goal

abbrev pub invariant-loop-i : goal.invariant-loop-i
invariant-loop-i l = Made (letter_at l.bytes l.o) l.from l.i l.initial.out l.out
