-- The invariant: `out` is the word of the letters that were taken off the end. Assumes nothing.
use Rattle.std.proofs.Common.{List, ◌++◌, map, ◌≡◌, ℕ}
use Rattle.codes.specs.Codes.{lossy}
use Rattle.codes.specs.Words.{word}
use Rattle.codes.proofs.inner.packing.pack.Given as goal

abbrev pub invariant-loop-letter : goal.invariant-loop-letter
invariant-loop-letter l = (done : List ℕ) × (l.letters ≡ l.letter-iterator.iter.rest.now ++ done) × (l.out ≡ word 2 (map lossy done))
