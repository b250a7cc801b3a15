-- Ones at width 1, and zeros at any other. Assumes nothing.
use mathlib.Core.Path.{◌≡◌, refl, sym, ap, ◌∙◌, subst}
use Prim.Native.Nat.{ℕ}
use borrow.Author.Tests.{ne_eqb}
use Rattle.codes.specs.Codes.{per, tab}
use Rattle.codes.specs.Words.{word}
use Rattle.runs.specs.Runs.{gap_char}
use Rattle.runs.proofs.WrittenLaws.{word-zeros}
use Rattle.runs.proofs.inner.seqs.gap_byte.Goals as goal

pub returns-then-BITS-eq1 : goal.returns-then-BITS-eq1
unfolding tab word
returns-then-BITS-eq1 g c = subst (λ (v : ℕ). 255 ≡ word v (tab (per v) (λ k. gap_char v))) (sym (sym c.BITS.ensures ∙ c.if-BITS-eq1.true)) refl

pub returns-else-BITS-eq1 : goal.returns-else-BITS-eq1
returns-else-BITS-eq1 g c =
    let w = g.W.Width.BITS in
    sym (word-zeros w (per w)) ∙ ap (λ (v : ℕ). word w (tab (per w) (λ k. v))) (sym (rw (ne_eqb w 1 (rw c.BITS.ensures at c.if-BITS-eq1.false))))
