-- The bytes from j on are read. Assumes nothing.
use mathlib.Core.Bool.{Bool}
use mathlib.Core.List.{List}
use mathlib.Core.Path.{◌≡◌}
use Prim.Native.Nat.{ℕ}
use lib.ListN.{take, drop}
use Rattle.codes.specs.Words.{word}
use Rattle.dna.specs.Numbers.{ordered}
use Rattle.dna.proofs.inner.numbers.number_at.Given as goal

-- the number's bytes, the lowest first
abbrev pub part : Bool → ℕ → List ℕ → ℕ → List ℕ
part big k file at = ordered big (take k (drop at file))

abbrev pub invariant-loop-j : goal.invariant-loop-j
invariant-loop-j l = l.value ≡ word 8 (drop l.j (part l.big l.k l.file l.at))
