-- The part lies within the buffer, and the bytes in use within the text. Assumes nothing.
use mathlib.Core.Path.{◌≡◌}
use Prim.Native.Nat.{◌≤◌}
use lib.ListN.{length}
use Rattle.screen.proofs.run.Given as goal

abbrev pub invariant-loop : goal.invariant-loop
invariant-loop l = (length l.buffer ≡ length l.initial.buffer) × (l.at ≤ l.n) × (l.n ≤ length l.buffer) × (l.filled ≤ 4096)
