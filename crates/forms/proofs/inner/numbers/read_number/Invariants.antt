-- The invariant: what the bytes from the i-th on begin with is read, in at most 5 - i bytes.
-- Assumes nothing.
use mathlib.Core.Path.{◌≡◌}
use Prim.Native.Nat.{◌-◌, ◌≤◌}
use lib.ListN.{drop}
use Rattle.forms.specs.Answers.{spelled_says}
use Rattle.forms.specs.Numbers.{spelling}
use Rattle.forms.proofs.inner.numbers.read_number.Given as goal

abbrev pub invariant-loop-i : goal.invariant-loop-i
invariant-loop-i l = (l.i ≤ 5) × (spelled_says l.read ≡ spelling (5 - l.i) (drop l.i l.bytes))
