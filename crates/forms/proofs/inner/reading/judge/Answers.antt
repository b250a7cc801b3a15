-- The tests are the definition's, in its order. Assumes nothing.
use mathlib.Core.Bool.{not}
use mathlib.Core.List.{List}
use mathlib.Core.Path.{◌≡◌, refl, sym, ap, ap₂, ◌∙◌}
use Prim.Native.Nat.{ℕ, ◌+◌}
use native.Mathlib.Numerals.{add-one}
use native.Mathlib.Omega.{arith}
use lib.Dec.{ltb}
use Rattle.codes.specs.Codes.{up, trailing}
use Rattle.codes.specs.Refusals.{Test, first, no_room}
use Rattle.codes.specs.declared.refusals.Refusal.TheVariants.{BadForm, NoRoom}
use Rattle.codes.proofs.TabLaws.{Below-of}
use Rattle.codes.proofs.OutcomeLaws.{answer_done}
use Rattle.forms.specs.Answers.{spelled_says}
use Rattle.forms.specs.Reading.{form_tests, head_of, body_of, form_length}
use Rattle.forms.specs.Numbers.{Spelling}
use Rattle.forms.proofs.FormLaws.{Judged, checked_none, checked_some}
use Rattle.codes.proofs.TestLaws.{first_at, answer_at}
use Rattle.forms.proofs.inner.reading.judge.Goals.{After-bad_store, After-bad_store-2, In-Some, Start}
use Rattle.forms.proofs.inner.reading.judge.Goals as goal

abbrev tests : Start → List Test
tests s = form_tests s.args.form.now s.args.base_room s.args.flag_room

-- the head of a form
abbrev spelling : In-Some → Spelling
spelling c = record { value = c.in-Some.read.value; size = c.in-Some.read.size }

good : (c : In-Some) → Judged c.args.form.now (spelling c)
good c =
    let f = c.args.form.now in
    checked_some f (spelling c) (Below-of 8 f (λ j. omega (arith, c.type_inv.form j))) (sym c.check_form.ensures ∙ ap spelled_says c.in-Some.is)

-- the tests of room
bases : (c : After-bad_store) → (let a = c.args in (no_room a.base_room (up 2 (form_length a.form.now) + trailing)).0 ≡ c.bad_store.result)
bases c =
    ap (λ (n : ℕ). ltb c.args.base_room (up 2 n + trailing)) ((good (goal.at.After-bad_store c).In-Some).long ∙ sym c.new-len.ensures) ∙ sym c.bad_store.ensures

flags : (c : After-bad_store-2) → (let a = c.args in (no_room a.flag_room (up 1 (form_length a.form.now) + trailing)).0 ≡ c.bad_store-2.result)
flags c =
    ap (λ (n : ℕ). ltb c.args.flag_room (up 1 n + trailing)) ((good (goal.at.After-bad_store-2 c).In-Some).long ∙ sym c.new-len.ensures) ∙ sym c.bad_store-2.ensures

pub returns-then-bad_store : goal.returns-then-bad_store
returns-then-bad_store c =
    answer_at 1 (tests (goal.at.returns-then-bad_store c).Start) NoRoom _ (0, 0) refl (
      ap not (good (goal.at.returns-then-bad_store c).In-Some).accepted,
      bases (goal.at.returns-then-bad_store c).After-bad_store ∙ c.if-bad_store.true,
    )

pub returns-then-bad_store-2 : goal.returns-then-bad_store-2
returns-then-bad_store-2 c =
    answer_at 2 (tests (goal.at.returns-then-bad_store-2 c).Start) NoRoom _ (0, 0) refl (
      ap not (good (goal.at.returns-then-bad_store-2 c).In-Some).accepted,
      (bases (goal.at.returns-then-bad_store-2 c).After-bad_store ∙ c.if-bad_store.false, flags (goal.at.returns-then-bad_store-2 c).After-bad_store-2 ∙ c.if-bad_store-2.true),
    )

pub overflow_add-result : goal.overflow_add-result
overflow_add-result c = omega (arith, (good (goal.at.overflow_add-result c).In-Some).short)

pub returns-in_default : goal.returns-in_default
returns-in_default c =
    answer_at 0 (tests (goal.at.returns-in_default c).Start) BadForm _ (0, 0) refl (ap not (checked_none c.args.form.now (sym c.check_form.ensures ∙ ap spelled_says c.in_default.is)))

pub returns : goal.returns
returns c =
    let f = c.args.form.now in
    answer_done (first (tests (goal.at.returns c).Start)) _ (form_length f, body_of (head_of f)) (0, 0)
    (sym (first_at 3 (tests (goal.at.returns c).Start) (
      ap not (good (goal.at.returns c).In-Some).accepted,
      (bases (goal.at.returns c).After-bad_store ∙ c.if-bad_store.false, (flags (goal.at.returns c).After-bad_store-2 ∙ c.if-bad_store-2.false, tt)),
    )))
    (ap₂ (λ (m n : ℕ). (m, n)) (c.new-len.ensures ∙ sym (good (goal.at.returns c).In-Some).long) (add-one _ ∙ sym (ap body_of (good (goal.at.returns c).In-Some).head)))
