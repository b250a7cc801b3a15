-- Two neighbouring fields are one of twice the bits. Assumes nothing.
use mathlib.Core.Path.{ap₂, ◌∙◌}
use Prim.Native.Nat.{ℕ, ◌+◌, ◌*◌, ◌^◌}
use native.Mathlib.Omega.{arith}
use Rattle.codes.specs.Words.{word}
use Rattle.codes.proofs.FieldLaws.{join_fields}
use Rattle.fields.proofs.inner.loads.load64.Goals as goal

pub returns : goal.returns
returns c =
    let a = c.args in
    ap₂ (λ (p q : ℕ). p + q * 2 ^ 32) c.load32.ensures c.load32-2.ensures
    ∙ join_fields (word 8 a.bytes.now) (8 * a.at) (8 * (a.at + 4)) 32 (omega arith)
