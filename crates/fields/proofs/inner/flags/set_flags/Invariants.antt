-- The invariant: the sum is that of the flags of i words. Assumes nothing.
use mathlib.Core.Path.{◌≡◌}
use Prim.Native.Nat.{◌*◌}
use Rattle.codes.specs.Codes.{chars}
use Rattle.fields.specs.Flags.{set_flags}
use Rattle.fields.proofs.inner.flags.set_flags.Given as goal

abbrev pub invariant-loop-i : goal.invariant-loop-i
invariant-loop-i l = l.sum ≡ set_flags (chars 1 l.bytes l.first (64 * l.i))
