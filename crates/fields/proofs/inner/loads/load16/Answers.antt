-- Two neighbouring fields are one of twice the bits. Assumes nothing.
use mathlib.Core.Path.{ap₂, ◌∙◌}
use Prim.Native.Nat.{ℕ, ◌+◌, ◌*◌, ◌^◌}
use native.Mathlib.Omega.{arith}
use Rattle.codes.specs.Words.{word}
use Rattle.codes.proofs.FieldLaws.{join_fields}
use Rattle.fields.proofs.inner.loads.load16.Goals as goal

pub returns : goal.returns
returns c =
    let a = c.args in
    ap₂ (λ (p q : ℕ). p + q * 2 ^ 8) c.load8.ensures c.load8-2.ensures
    ∙ join_fields (word 8 a.bytes.now) (8 * a.at) (8 * (a.at + 1)) 8 (omega arith)
