-- The tests are the definition's, in its order. Assumes nothing.
use Rattle.std.specs.Prelude.{Some, None, Bool}
use mathlib.Core.Path.{◌≡◌, sym, ap, ◌∙◌, subst}
use native.Mathlib.Numerals.{add-one}
use native.Mathlib.Omega.{arith}
use Rattle.codes.proofs.TabLaws.{Below-of}
use Rattle.codes.specs.Codes.{pick}
use Rattle.forms.specs.Answers.{spelled_says}
use Rattle.forms.specs.Reading.{head_of, is_form, right_tracks}
use Rattle.forms.specs.Numbers.{Spelling, Fits}
use Rattle.forms.proofs.FormLaws.{head_fits, is_form-none, is_form-long, is_form-tracks}
use Rattle.forms.proofs.inner.reading.check_form.Goals.{After-right_tracks, In_ok-read}
use Rattle.forms.proofs.inner.reading.check_form.Goals as goal

-- the head that was read
abbrev spelling : In_ok-read → Spelling
spelling c = record { value = c.in_ok-read.read.value; size = c.in_ok-read.read.size }

is : (c : In_ok-read) → head_of c.args.form.now ≡ Some (spelling c)
is c = sym c.head.ensures ∙ ap spelled_says c.in_ok-read.was

small : (c : In_ok-read) → Fits 5 (Some (spelling c))
small c =
    subst (Fits 5) (is c) (head_fits c.args.form.now (Below-of 8 c.args.form.now (λ j. (c.type_inv.form j).fits)))

-- whether bytes are a form, once the tracks were judged
judged : (c : After-right_tracks) → is_form c.args.form.now ≡ c.right_tracks.result
judged c =
    let f = c.args.form.now in
    is_form-tracks f (spelling (goal.at.After-right_tracks c).In_ok-read) (is (goal.at.After-right_tracks c).In_ok-read) c.if-n-gt-MOST.false
    ∙ sym (c.right_tracks.ensures ∙ ap (right_tracks f (spelling (goal.at.After-right_tracks c).In_ok-read).value) (add-one (spelling (goal.at.After-right_tracks c).In_ok-read).size))

pub returns-then-n-gt-MOST : goal.returns-then-n-gt-MOST
returns-then-n-gt-MOST c = rw (is_form-long _ (spelling (goal.at.returns-then-n-gt-MOST c).In_ok-read) (is (goal.at.returns-then-n-gt-MOST c).In_ok-read) c.if-n-gt-MOST.true)

pub overflow_add-read : goal.overflow_add-read
overflow_add-read c = omega (arith, small (goal.at.overflow_add-read c).In_ok-read)

pub right_tracks-requires : goal.right_tracks-requires
right_tracks-requires c = (c.if-n-gt-MOST.false, omega (arith, small (goal.at.right_tracks-requires c).In_ok-read))

pub returns-then-not-right_tracks : goal.returns-then-not-right_tracks
returns-then-not-right_tracks c = rw (judged (goal.at.returns-then-not-right_tracks c).After-right_tracks ∙ c.if-not-right_tracks.true)

pub returns-in_err-read : goal.returns-in_err-read
returns-in_err-read c = ap spelled_says c.from_residual.ensures ∙ sym (ap (λ (b : Bool). pick b (head_of c.args.form.now) None) (is_form-none c.args.form.now (sym c.head.ensures ∙ ap spelled_says c.in_err-read.was)))

pub returns : goal.returns
returns c = rw (judged (goal.at.returns c).After-right_tracks ∙ c.if-not-right_tracks.false) (sym (is (goal.at.returns c).In_ok-read))
