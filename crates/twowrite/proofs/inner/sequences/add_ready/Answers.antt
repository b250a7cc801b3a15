-- The tests are the definition's, in its order. Assumes nothing.
use Rattle.std.specs.Prelude.{Err}
use mathlib.Core.Bool.{not}
use mathlib.Core.List.{List}
use mathlib.Core.Path.{◌≡◌, refl, sym, ap, ap₂, ◌∙◌, subst}
use Prim.Native.Nat.{ℕ, ◌+◌, ◌*◌, ◌^◌, ◌≤◌, ◌<◌}
use native.Mathlib.Omega.{arith}
use lib.ListN.{length, take}
use borrow.Author.Tests.{ltb-false, lt-ltb, le-ltb, eq-eqb}
use Rattle.codes.specs.Codes.{up, per, trailing, chars}
use Rattle.codes.specs.Refusals.{Test, answer, first}
use Rattle.codes.specs.declared.refusals.Refusal.TheVariants.{NoRoom}
use Rattle.codes.proofs.OutcomeLaws.{answer_done}
use Rattle.codes.specs.Widths.{width_2}
use Rattle.codes.proofs.WidthLaws.{up_le}
use Rattle.fields.specs.Runs.{runs}
use Rattle.fields.proofs.ViewLaws.{Room}
use Rattle.codes.proofs.TestLaws.{None, first_past}
use Rattle.twobit.specs.Files.{record_size}
use Rattle.twowrite.specs.Writing.{add_tests}
use Rattle.twowrite.proofs.RunLaws.{runs_few, record_size-is}
use Rattle.twowrite.proofs.StepLaws.{none_next, answer-next}
use Rattle.twowrite.proofs.inner.sequences.add_ready.Goals.{After-count-5, After-count_runs-count, Else-bad_state, Else-bad_view, Else-bad_view-2, Else-count, Else-far_record, Else-name-gt255, Else-too_long, Else-too_long-2, Start}
use Rattle.twowrite.proofs.inner.sequences.add_ready.Goals as goal

abbrev tests : Start → List Test
tests s =
    let a = s.args in
    add_tests a.k a.state a.name (length a.bases.now) a.ao.0 a.al.0 a.flags.now a.bo.0 a.bl.0 a.room

abbrev count : Start → ℕ
count s = length (runs (chars 1 s.args.flags.now s.args.bo.0 s.args.bl.0))

-- the tests so far do not hold
none_1 : (c : Else-too_long) → None (take 1 (tests (goal.at.Else-too_long c).Start))
none_1 c = (sym c.too_long.ensures ∙ c.if-too_long.false, tt)

none_2 : (c : Else-too_long-2) → None (take 2 (tests (goal.at.Else-too_long-2 c).Start))
none_2 c = none_next 1 (tests (goal.at.Else-too_long-2 c).Start) (none_1 (goal.at.Else-too_long-2 c).Else-too_long) (sym c.too_long-2.ensures ∙ c.if-too_long-2.false, tt)

none_3 : (c : Else-bad_view) → None (take 3 (tests (goal.at.Else-bad_view c).Start))
none_3 c = none_next 2 (tests (goal.at.Else-bad_view c).Start) (none_2 (goal.at.Else-bad_view c).Else-too_long-2) (sym c.bad_view.ensures ∙ c.if-bad_view.false, tt)

none_4 : (c : Else-bad_view-2) → None (take 4 (tests (goal.at.Else-bad_view-2 c).Start))
none_4 c = none_next 3 (tests (goal.at.Else-bad_view-2 c).Start) (none_3 (goal.at.Else-bad_view-2 c).Else-bad_view) (sym c.bad_view-2.ensures ∙ c.if-bad_view-2.false, tt)

-- both views have the same length
same : (c : Else-count) → (let a = c.args in a.al.0 ≡ a.bl.0)
same c = sym c.count.ensures ∙ c.if-count.false ∙ c.count-2.ensures

none_5 : (c : Else-count) → None (take 5 (tests (goal.at.Else-count c).Start))
none_5 c = none_next 4 (tests (goal.at.Else-count c).Start) (none_4 (goal.at.Else-count c).Else-bad_view-2) (ap not (eq-eqb _ _ (same c)), tt)

none_6 : (c : Else-name-gt255) → None (take 6 (tests (goal.at.Else-name-gt255 c).Start))
none_6 c = none_next 5 (tests (goal.at.Else-name-gt255 c).Start) (none_5 (goal.at.Else-name-gt255 c).Else-count) (le-ltb 255 c.args.name (omega arith), tt)

none_7 : (c : Else-bad_state) → None (take 7 (tests (goal.at.Else-bad_state c).Start))
none_7 c = none_next 6 (tests (goal.at.Else-bad_state c).Start) (none_6 (goal.at.Else-bad_state c).Else-name-gt255) (sym c.bad_state.ensures ∙ c.if-bad_state.false, tt)

none_8 : (c : Else-far_record) → None (take 8 (tests (goal.at.Else-far_record c).Start))
none_8 c = none_next 7 (tests (goal.at.Else-far_record c).Start) (none_7 (goal.at.Else-far_record c).Else-bad_state) (sym c.far_record.ensures ∙ c.if-far_record.false, tt)

room : (c : Else-far_record) → (let a = c.args in Room 1 (length a.flags.now) a.bo.0 a.bl.0)
room c =
    let a = c.args in
    let n = length a.flags.now in
    let h = none_8 c in
    record { small = ltb-false (2 ^ 28) n h.1.0; fits = ltb-false (n * per 1) (a.bo.0 + a.bl.0 + trailing * per 1) h.1.1.1.0 }

module _ (c : After-count_runs-count) where
  counted : c.count_runs-count.result ≡ count (goal.at.After-count_runs-count c).Start
  counted = c.count_runs-count.ensures ∙ ap₂ (λ (o n : ℕ). length (runs (chars 1 c.args.flags.now o n))) c.count-3.ensures c.count-4.ensures

  few : c.count_runs-count.result ≤ 2 ^ 31
  few = let h = runs_few c.args.flags.now c.args.bo.0 c.args.bl.0 (room (goal.at.After-count_runs-count c).Else-far_record) in omega (arith, counted)

pub overflow_mul-size : goal.overflow_mul-size
overflow_mul-size c = omega (arith, few c)

pub overflow_add-size : goal.overflow_add-size
overflow_add-size c = omega (arith, few c)

module _ (c : After-count-5) where
  -- the packed bases
  bytes : c.count-5.result ≡ up 2 c.args.bl.0
  bytes = c.count-5.ensures ∙ c.bytes_as.ensures ∙ ap (up 2) (same (goal.at.After-count-5 c).Else-count)

  -- the size of the record
  size : 16 + 8 * c.count_runs-count.result + c.count-5.result ≡ record_size (chars 1 c.args.flags.now c.args.bo.0 c.args.bl.0)
  size = record_size-is c.args.flags.now c.args.bo.0 c.args.bl.0 (counted (goal.at.After-count-5 c).After-count_runs-count) bytes

pub overflow_add-size-2 : goal.overflow_add-size-2
overflow_add-size-2 c =
    let r = room (goal.at.overflow_add-size-2 c).Else-far_record in
    omega (arith, few (goal.at.overflow_add-size-2 c).After-count_runs-count, bytes c, up_le width_2 c.args.bl.0, r.fits, r.small)

-- the record ends beyond the room
short : (c : After-count-5)
    → (let a = c.args in a.room < a.state.place + (16 + 8 * c.count_runs-count.result + c.count-5.result)
    → answer (Err NoRoom) 0 0 ≡ answer (first (tests (goal.at.After-count-5 c).Start)) (count (goal.at.After-count-5 c).Start) 0)
short c l =
    let t = (goal.at.After-count-5 c).Start in
    answer-next 8 (tests t) NoRoom (count t) 0 (none_8 (goal.at.After-count-5 c).Else-far_record) refl (lt-ltb t.args.room _ (subst (λ (x : ℕ). t.args.room < t.args.state.place + x) (size c) l))

pub returns-then-room-state-2 : goal.returns-then-room-state-2
returns-then-room-state-2 c = short (goal.at.returns-then-room-state-2 c).After-count-5 (omega arith)

pub returns : goal.returns
returns c =
    let t = (goal.at.returns c).Start in
    let l : t.args.state.place + (16 + 8 * c.count_runs-count.result + c.count-5.result) ≤ t.args.room = omega arith in
    answer_done (first (tests t)) _ _ 0
    (sym
    (first_past 9 (tests t)
    (none_next 8 (tests t) (none_8 (goal.at.returns c).Else-far_record) (le-ltb t.args.room _ (subst (λ (x : ℕ). t.args.state.place + x ≤ t.args.room) (size (goal.at.returns c).After-count-5) l), tt))))
    (counted (goal.at.returns c).After-count_runs-count)
