use mathlib.Core.Path.{◌≡◌, ap, ◌∙◌}
use Prim.Native.Nat.{ℕ, ◌+◌, ◌-◌, ◌*◌, ◌/◌, ◌%◌, ◌^◌}
use native.Mathlib.Omega.{arith}
use borrow.Author.Rules.{rules}
use lib.Pow.{shr-shr}
use Rattle.codes.proofs.MadeLaws.{made_more}
use Rattle.codes.specs.Widths.{width_1}
use Rattle.runs.specs.Bytes.{letters_word}
use Rattle.runs.proofs.LetterRunLaws.{letters_byte}
use Rattle.runs.proofs.inner.whole.flags_bytes.Goals as goal

pub loop-byte-preserved : goal.loop-byte-preserved
loop-byte-preserved c =
    let l = c.loop-byte in
    let a = c.args in
    let x = letters_word 1 (8 * (a.to - a.from)) a.letters.now a.first in
    let more : 8 * l.byte-index + 8 ≡ 8 * (l.byte-index + 1) = omega arith in (
      ap (λ (y : ℕ). y / 2 ^ 8) l.invariant.0 ∙ shr-shr x (8 * l.byte-index) 8 ∙ ap (λ (e : ℕ). x / 2 ^ e) more,
      made_more l.invariant.1 (omega arith) c.loop-byte-test.true
          (ap (λ (y : ℕ). y % 2 ^ 8) l.invariant.0 ∙ letters_byte width_1 a.letters.now (a.to - a.from) a.first l.byte-index (search rules)),
    )
