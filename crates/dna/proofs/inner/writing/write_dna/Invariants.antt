-- The invariant: i words are written. Assumes nothing.
use Prim.Native.Nat.{◌+◌, ◌-◌, ◌*◌}
use Rattle.codes.specs.Made.{Made}
use Rattle.dna.proofs.WriteLaws.{dna_byte}
use Rattle.dna.proofs.inner.writing.write_dna.Given as goal

abbrev pub invariant-loop-i : goal.invariant-loop-i
invariant-loop-i l = Made (λ j. dna_byte l.bases l.flags l.ao l.bo l.len (j - l.at)) l.at (l.at + 8 * l.i) l.initial.out l.out
