-- The low bits of the word from there on. Assumes nothing.
use mathlib.Core.Path.{◌≡◌, ap, ◌∙◌}
use Prim.Native.Nat.{ℕ, ◌+◌, ◌*◌, ◌/◌, ◌%◌, ◌^◌}
use native.Mathlib.Omega.{arith}
use Rattle.codes.specs.Words.{word}
use Rattle.codes.proofs.FieldLaws.{mod_low}
use Rattle.fields.proofs.inner.loads.bits_at.Goals as goal

pub returns : goal.returns
returns c =
    let a = c.args in
    let x = word 8 a.bytes.now in
    let split : 8 * (a.p / 8) + a.p % 8 ≡ a.p = omega arith in
    c.low_bits.ensures
    ∙ ap (λ (y : ℕ). y % 2 ^ a.n) (c.word_at.ensures ∙ ap (λ (k : ℕ). x / 2 ^ k % 2 ^ 64) split)
    ∙ mod_low (x / 2 ^ a.p) a.n 64 (omega arith)
