-- The invariant: the low bases of `x` are written up to the index, and `rest` is what is left of it. Assumes nothing.
use mathlib.Core.Path.{◌≡◌}
use mathlib.Core.List.{map, ◌++◌}
use Prim.Native.Nat.{◌*◌, ◌/◌, ◌^◌}
use lib.ListN.{drop}
use Rattle.codes.specs.Codes.{letter}
use Rattle.codes.specs.Words.{chars_of}
use Rattle.codes.proofs.inner.packing.unpack.Given as goal

abbrev pub invariant-loop-letter : goal.invariant-loop-letter
invariant-loop-letter l = (l.rest ≡ l.x / 2 ^ (2 * l.letter-index)) × (l.letter-items ≡ map letter (chars_of 2 l.letter-index l.x) ++ drop l.letter-index l.initial.letter-items)
