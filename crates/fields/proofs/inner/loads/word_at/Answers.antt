-- Nine bytes hold the 64 bits from any bit of the first on. Assumes nothing.
use mathlib.Core.Path.{◌≡◌, sym, ap, ◌∙◌}
use Prim.Native.Nat.{ℕ, ◌+◌, ◌*◌, ◌/◌, ◌%◌, ◌^◌}
use native.Mathlib.Nat.{mod-eq_of_lt, le_refl}
use native.Mathlib.Omega.{arith}
use Rattle.codes.specs.Words.{word}
use Rattle.codes.proofs.FieldLaws.{nine}
use borrow.Author.Rules.{rules}
use Rattle.fields.proofs.inner.loads.word_at.Goals as goal

-- the byte that was loaded, at the place where it is wanted
byte_at : (x v k m : ℕ) → v ≡ x / 2 ^ (8 * k) % 2 ^ 8 → k ≡ m → v ≡ x / 2 ^ (8 * m) % 2 ^ 8
byte_at x v k m e h = e ∙ ap (λ (j : ℕ). x / 2 ^ (8 * j) % 2 ^ 8) h

pub returns : goal.returns
returns c =
    let a = c.args in
    let r = c.shr_pair-pair.result in
    sym (mod-eq_of_lt (search rules))
    ∙ nine (word 8 a.bytes.now) a.at a.s 64 _ _ r.low r.high
    c.load64.ensures (byte_at _ _ _ (a.at + 8) c.load8.ensures (omega arith)) c.shr_pair-pair.ensures (search rules) (omega arith) (le_refl 64)
