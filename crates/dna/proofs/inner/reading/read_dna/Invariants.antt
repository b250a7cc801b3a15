-- The invariant: i words are written. Assumes nothing.
use Prim.Native.Nat.{◌*◌}
use Rattle.codes.specs.Made.{Made}
use Rattle.dna.proofs.ReadLaws.{held_byte}
use Rattle.dna.proofs.inner.reading.read_dna.Given as goal

abbrev pub invariant-loop-i : goal.invariant-loop-i
invariant-loop-i l = Made (held_byte l.file l.flags l.d l.n) 0 (8 * l.i) l.initial.bases l.bases
