-- Two neighbouring fields are one of twice the bits. Assumes nothing.
use mathlib.Core.Path.{ap₂, ◌∙◌}
use Prim.Native.Nat.{ℕ, ◌+◌, ◌*◌, ◌^◌}
use native.Mathlib.Omega.{arith}
use Rattle.codes.specs.Words.{word}
use Rattle.codes.proofs.FieldLaws.{join_fields}
use Rattle.fields.proofs.inner.loads.load32.Goals as goal

pub returns : goal.returns
returns c =
    let a = c.args in
    ap₂ (λ (p q : ℕ). p + q * 2 ^ 16) c.load16.ensures c.load16-2.ensures
    ∙ join_fields (word 8 a.bytes.now) (8 * a.at) (8 * (a.at + 2)) 16 (omega arith)
