-- A field of more than 64 bits is one of 64 and the rest. Assumes nothing.
use mathlib.Core.Path.{ap₂, ◌∙◌}
use Prim.Native.Nat.{ℕ, ◌+◌, ◌*◌, ◌^◌}
use native.Mathlib.Omega.{arith}
use Rattle.codes.specs.Words.{word}
use Rattle.codes.proofs.FieldLaws.{two_words}
use Rattle.fields.proofs.inner.loads.bits_pair_at.Goals as goal

pub returns : goal.returns
returns c =
    let a = c.args in
    ap₂ (λ (p q : ℕ). p * 2 ^ 64 + q) c.bits_at-high.ensures c.bits_at-low.ensures ∙ two_words (word 8 a.bytes.now) a.p a.n (omega arith)
