-- The invariant: the bytes up to j are made. Assumes nothing.
use Prim.Native.Nat.{◌+◌, ◌-◌, ◌*◌, ◌≤◌}
use Rattle.codes.specs.Made.{Made}
use Rattle.runs.specs.Bytes.{letters_word}
use Rattle.runs.proofs.inner.whole.flags_words.Given as goal

abbrev pub invariant-loop-j : goal.invariant-loop-j
invariant-loop-j l =
    (l.j ≤ l.to - 8) × Made (λ b. letters_word 1 8 l.letters (l.first + (b - l.from) * 8)) l.from l.j l.initial.buffer l.buffer

abbrev pub decreases-loop-j : goal.decreases-loop-j
decreases-loop-j l = l.to - l.j
