-- The invariant: the bytes up to the index are made, and `rest` is the word of all flags without them. Assumes nothing.
use mathlib.Core.Path.{◌≡◌}
use Prim.Native.Nat.{◌+◌, ◌-◌, ◌*◌, ◌/◌, ◌^◌}
use Rattle.codes.specs.Made.{Made}
use Rattle.runs.specs.Bytes.{letters_word}
use Rattle.runs.proofs.inner.whole.flags_bytes.Given as goal

abbrev pub invariant-loop-byte : goal.invariant-loop-byte
invariant-loop-byte l =
    (l.rest ≡ letters_word 1 (8 * (l.to - l.from)) l.letters l.first / 2 ^ (8 * l.byte-index))
    × Made (λ b. letters_word 1 8 l.letters (l.first + b * 8)) 0 l.byte-index l.initial.byte-items l.byte-items
