-- No length is too long, or the first that is decides; then the form is judged. Assumes nothing.
use mathlib.Core.Bool.{false}
use mathlib.Core.List.{List}
use mathlib.Core.Path.{◌≡◌, refl, sym, ap, ◌∙◌}
use lib.ListN.{length}
use Rattle.codes.specs.Refusals.{Test, answer, too_long, Outcome}
use Rattle.codes.specs.declared.refusals.Refusal.TheVariants.{TooLong}
use Rattle.forms.specs.Reading.{read_tests, head_of, body_of, form_length}
use Rattle.codes.proofs.TestLaws.{answer_at, first_past}
use Rattle.forms.proofs.inner.reading.check.Goals.{Else-too_long, Else-too_long-2, Start}
use Rattle.forms.proofs.inner.reading.check.Goals as goal

abbrev tests : Start → List Test
tests s = read_tests s.args.form.now s.args.base_room s.args.flag_room

pub returns-then-too_long : goal.returns-then-too_long
returns-then-too_long c = answer_at 0 (tests (goal.at.returns-then-too_long c).Start) TooLong _ (0, 0) refl (sym c.too_long.ensures ∙ c.if-too_long.true)

-- the lengths that are not too long
passed_1 : (c : Else-too_long) → (too_long (length c.args.form.now)).0 ≡ false
passed_1 c = sym c.too_long.ensures ∙ c.if-too_long.false

passed_2 : (c : Else-too_long-2) → (too_long c.args.base_room).0 ≡ false
passed_2 c = sym c.too_long-2.ensures ∙ c.if-too_long-2.false

pub returns-then-too_long-2 : goal.returns-then-too_long-2
returns-then-too_long-2 c =
    answer_at 1 (tests (goal.at.returns-then-too_long-2 c).Start) TooLong _ (0, 0) refl (passed_1 (goal.at.returns-then-too_long-2 c).Else-too_long, sym c.too_long-2.ensures ∙ c.if-too_long-2.true)

pub returns-then-too_long-3 : goal.returns-then-too_long-3
returns-then-too_long-3 c =
    answer_at 2 (tests (goal.at.returns-then-too_long-3 c).Start) TooLong _ (0, 0) refl (
      passed_1 (goal.at.returns-then-too_long-3 c).Else-too_long,
      (passed_2 (goal.at.returns-then-too_long-3 c).Else-too_long-2, sym c.too_long-3.ensures ∙ c.if-too_long-3.true),
    )

pub returns : goal.returns
returns c =
    let f = c.args.form.now in
    c.judge.ensures
    ∙ ap (λ (o : Outcome). answer o (form_length f, body_of (head_of f)) (0, 0))
    (first_past 3 (tests (goal.at.returns c).Start) (
      passed_1 (goal.at.returns c).Else-too_long,
      (passed_2 (goal.at.returns c).Else-too_long-2, (sym c.too_long-3.ensures ∙ c.if-too_long-3.false, tt)),
    ))
