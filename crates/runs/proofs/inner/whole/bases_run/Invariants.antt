-- The invariant: the first i bytes are made. Assumes nothing.
use Prim.Native.Nat.{◌+◌, ◌*◌}
use Rattle.codes.specs.Made.{Made}
use Rattle.runs.specs.Bytes.{letters_word}
use Rattle.runs.proofs.inner.whole.bases_run.Given as goal

abbrev pub invariant-loop-i : goal.invariant-loop-i
invariant-loop-i l = Made (λ b. letters_word 2 4 l.letters (l.first + b * 4)) 0 l.i l.initial.byte-items l.byte-items
