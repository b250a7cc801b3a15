-- The view's tests, and then the word's. Assumes nothing.
use mathlib.Core.List.{[], ◌∷◌}
use mathlib.Core.Path.{sym, ap, ◌∙◌}
use Prim.Native.Nat.{ℕ, ◌/◌}
use lib.ListN.{length}
use Rattle.codes.specs.Refusals.{bad_word, view_tests}
use Rattle.codes.proofs.OutcomeLaws.{passes, next_holds, next_passed}
use Rattle.fields.proofs.inner.words.word_outcome.Goals as goal

pub returns-in_err-view_outcome : goal.returns-in_err-view_outcome
returns-in_err-view_outcome g c =
    let a = c.args in
    let p = passes (view_tests g.W.Width.BITS (length a.bytes.now) a.offset.0 a.len.0) (bad_word a.least (a.bits / g.W.Width.BITS) a.len.0 ∷ []) _ _ c.in_err-view_outcome.ensures c.from_residual.ensures.1 in
    p.0 ∙ sym p.1

pub returns-then-bad_word : goal.returns-then-bad_word
returns-then-bad_word g c =
    let a = c.args in
    let e = c.bad_word.ensures ∙ ap (λ (k : ℕ). (bad_word a.least k a.len.0).0) c.over_width.ensures in
    sym (next_holds (view_tests g.W.Width.BITS (length a.bytes.now) a.offset.0 a.len.0) (bad_word a.least (a.bits / g.W.Width.BITS) a.len.0) [] c.in_ok-view_outcome.ensures (sym e ∙ c.if-bad_word.true))

pub returns : goal.returns
returns g c =
    let a = c.args in
    let e = c.bad_word.ensures ∙ ap (λ (k : ℕ). (bad_word a.least k a.len.0).0) c.over_width.ensures in
    sym (next_passed (view_tests g.W.Width.BITS (length a.bytes.now) a.offset.0 a.len.0) (bad_word a.least (a.bits / g.W.Width.BITS) a.len.0) [] c.in_ok-view_outcome.ensures (sym e ∙ c.if-bad_word.false))
