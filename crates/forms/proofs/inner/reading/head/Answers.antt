-- Byte 1, then a number. Assumes nothing.
use mathlib.Core.Path.{ap, ◌∙◌}
use native.Mathlib.Nat.{le_of_eq}
use lib.ListN.{drop, length-drop}
use lib.Seq.{take_all}
use Rattle.forms.specs.Numbers.{spelling}
use Rattle.forms.proofs.FormLaws.{head_empty, head_other, head_one}
use Rattle.forms.proofs.inner.reading.head.Goals as goal

pub returns-then-form-eq0 : goal.returns-then-form-eq0
returns-then-form-eq0 c = head_empty _ c.if-form-eq0.true

pub returns-then-form-ne1 : goal.returns-then-form-ne1
returns-then-form-ne1 c = head_other c.args.form.now c.if-form-ne1.true

pub returns : goal.returns
returns c =
    let a = c.args in
    c.read_number.ensures ∙ ap (spelling 5) (take_all _ (drop 1 a.form.now) (le_of_eq (length-drop 1 a.form.now))) ∙ head_one a.form.now c.if-form-ne1.false
