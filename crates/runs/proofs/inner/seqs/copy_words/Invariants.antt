-- The invariant: k words are copied. Assumes nothing.
use mathlib.Core.List.{List}
use Prim.Native.Nat.{ℕ, ◌+◌, ◌-◌, ◌*◌}
use lib.ListN.{get_or}
use Rattle.codes.specs.Made.{Made}
use Rattle.runs.proofs.inner.seqs.copy_words.Given as goal

-- the view's bytes from byte `lead` on, over those from byte `from` on
abbrev pub over : List ℕ → ℕ → ℕ → ℕ → ℕ
over view lead from j = get_or view (lead + (j - from)) 0

abbrev pub invariant-loop-k : goal.invariant-loop-k
invariant-loop-k l = Made (over l.view l.lead l.from) l.from (l.from + 8 * l.k) l.initial.buffer l.buffer
