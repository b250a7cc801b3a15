-- The invariant: a run of the reversed bytes, in whole words, and the others are as they were. Assumes nothing.
use Prim.Native.Nat.{◌*◌, ◌/◌, ◌^◌}
use Rattle.codes.specs.Made.{Made}
use Rattle.codes.specs.Words.{word}
use Rattle.writes.specs.Flips.{flipped_byte}
use Rattle.writes.proofs.inner.reverse.flip_words.Given as goal

abbrev pub invariant-loop-i : goal.invariant-loop-i
invariant-loop-i g l = Made (flipped_byte g.W.Width.BITS (word 8 l.bytes / 2 ^ l.p) l.bits) 0 (8 * l.i) l.initial.out l.out
