-- The invariant: the byte is the word of its first k characters. Assumes nothing.
use mathlib.Core.List.{List, map}
use mathlib.Core.Path.{◌≡◌}
use Prim.Native.Nat.{ℕ, ◌+◌}
use Rattle.codes.specs.Codes.{code, tab}
use Rattle.codes.specs.Words.{word}
use Rattle.runs.specs.Bytes.{fresh_char}
use Rattle.runs.proofs.inner.edges.fresh_byte.Given as goal

-- character j of the byte
abbrev pub made : (old w first at : ℕ) (letters : List ℕ) (stop : ℕ) → ℕ → ℕ
made old w first at letters stop j = fresh_char w old at (map (code w) letters) stop (first + j) j

abbrev pub invariant-loop-k : goal.invariant-loop-k
invariant-loop-k g l = l.byte ≡ word g.W.Width.BITS (tab l.k (made l.old g.W.Width.BITS l.first l.at l.letters l.stop))
