-- The byte, shifted up. Assumes nothing.
use mathlib.Core.Path.{ap, ◌∙◌}
use Prim.Native.Nat.{ℕ, ◌*◌, ◌%◌, ◌^◌}
use native.Mathlib.Omega.{arith}
use lib.Dec.{lit≤}
use Rattle.codes.proofs.FieldLaws.{mod_low}
use Rattle.runs.proofs.JoinLaws.{bits_fit}
use Rattle.runs.proofs.inner.edges.first_letters.Goals as goal

pub whole_byte-requires : goal.whole_byte-requires
whole_byte-requires g c = (c.requires.0, omega (arith, c.requires))

pub overflow_mul-result : goal.overflow_mul-result
overflow_mul-result g c = rw c.BITS.ensures (omega (arith, bits_fit g.W.Width.divides c.args.k c.requires.2))

pub overflow_shl-result : goal.overflow_shl-result
overflow_shl-result g c = rw c.BITS.ensures (omega (arith, bits_fit g.W.Width.divides c.args.k c.requires.2))

pub returns : goal.returns
returns g c =
    let a = c.args in
    rw c.BITS.ensures (mod_low (c.whole_byte.result * 2 ^ (g.W.Width.BITS * a.k)) 8 64 (lit≤ tt) ∙ ap (λ (x : ℕ). x * 2 ^ (g.W.Width.BITS * a.k) % 2 ^ 8) c.whole_byte.ensures)
