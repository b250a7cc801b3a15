-- The invariant of both loops: no byte passed is LF. Assumes nothing.
use Rattle.std.proofs.Common.{◌≡◌, ℕ, ◌-◌, ◌<◌, ◌≤◌, List, length, get_or}
use Rattle.fasta.proofs.lines.line_end.Given as goal

abbrev pub Passed : List ℕ → ℕ → Type 0
Passed part i = (i ≤ length part) × ((k : ℕ) → k < i → get_or part k 0 ≡ 10 → ⊥)

abbrev pub invariant-loop-i : goal.invariant-loop-i
invariant-loop-i l = Passed l.part l.i

abbrev pub decreases-loop-i : goal.decreases-loop-i
decreases-loop-i l = length l.part - l.i

abbrev pub invariant-loop-at : goal.invariant-loop-at
invariant-loop-at l = (k : ℕ) → k < l.at → get_or l.part k 0 ≡ 10 → ⊥
