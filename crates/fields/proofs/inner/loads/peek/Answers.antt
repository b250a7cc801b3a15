-- A place of bits is its byte and the rest. Assumes nothing.
use mathlib.Core.Path.{◌≡◌, ap, ◌∙◌}
use Prim.Native.Nat.{ℕ, ◌+◌, ◌*◌, ◌/◌, ◌%◌, ◌^◌}
use native.Mathlib.Omega.{arith}
use Rattle.codes.specs.Words.{word}
use Rattle.fields.proofs.inner.loads.peek.Goals as goal

pub returns : goal.returns
returns c =
    let a = c.args in
    let split : 8 * (a.p / 8) + a.p % 8 ≡ a.p = omega arith in c.peek_at.ensures ∙ ap (λ (k : ℕ). word 8 a.bytes.now / 2 ^ k % 2 ^ 56) split
