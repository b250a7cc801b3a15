-- Eight bytes, shifted down by less than a byte. Assumes nothing.
use mathlib.Core.Path.{ap, ◌∙◌}
use Prim.Native.Nat.{ℕ, ◌*◌, ◌/◌, ◌%◌, ◌^◌}
use native.Mathlib.Omega.{arith}
use lib.Pow.{shr-shr}
use Rattle.codes.specs.Words.{word}
use Rattle.codes.proofs.FieldLaws.{field_of}
use Rattle.fields.proofs.inner.loads.peek_at.Goals as goal

pub returns : goal.returns
returns c =
    let a = c.args in
    let n = word 8 a.bytes.now in
    ap (λ (x : ℕ). x / 2 ^ a.s % 2 ^ 56) c.load64.ensures
    ∙ field_of (n / 2 ^ (8 * a.at)) a.s 56 64 (omega (arith, c.requires.0))
    ∙ ap (λ (x : ℕ). x % 2 ^ 56) (shr-shr n (8 * a.at) a.s)
