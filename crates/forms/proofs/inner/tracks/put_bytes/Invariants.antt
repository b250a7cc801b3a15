-- The invariant: so many bytes of x are written, and what is left of x holds the others. Assumes nothing.
use mathlib.Core.Path.{◌≡◌}
use mathlib.Core.List.{◌++◌}
use Prim.Native.Nat.{◌*◌, ◌/◌, ◌^◌}
use lib.ListN.{drop}
use Rattle.codes.specs.Words.{chars_of}
use Rattle.forms.proofs.inner.tracks.put_bytes.Given as goal

abbrev pub invariant-loop-byte : goal.invariant-loop-byte
invariant-loop-byte l =
    (l.rest ≡ l.x / 2 ^ (8 * l.byte-index)) × (l.byte-items ≡ chars_of 8 l.byte-index l.x ++ drop l.byte-index l.initial.byte-items)
