-- The tests are the definition's, in its order. Assumes nothing.
use mathlib.Core.Bool.{false}
use mathlib.Core.List.{List, [], ◌∷◌}
use mathlib.Core.Path.{◌≡◌, sym, ◌∙◌}
use Prim.Native.Nat.{ℕ, suc}
use native.Mathlib.Omega.{arith}
use lib.ListN.{length}
use borrow.Author.Tests.{ltb-false, lt-ltb, le-ltb}
use Rattle.codes.specs.Refusals.{Test, first, too_long, bad_view, no_room}
use Rattle.forms.specs.Forms.{write_tests, bad_tracks, form_size}
use Rattle.codes.proofs.TestLaws.{Stops, refused_at, first_at}
use Rattle.forms.proofs.OutcomeLaws.{tracks_differ, tracks_long, tracks_right}
use Rattle.forms.proofs.inner.writing.write_outcome.Goals.{Else-bad_view, Else-bad_view-2, Else-count, Else-count-gt-MOST, Else-too_long, Else-too_long-2, Start}
use Rattle.forms.proofs.inner.writing.write_outcome.Goals as goal

abbrev tests : Start → List Test
tests s = write_tests (length s.args.bases.now) s.args.ao.0 s.args.al.0 (length s.args.flags.now) s.args.bo.0 s.args.bl.0 s.args.room

pub returns-then-too_long : goal.returns-then-too_long
returns-then-too_long c = first_at 0 (tests (goal.at.returns-then-too_long c).Start) (sym c.too_long.ensures ∙ c.if-too_long.true)

-- what the tests so far gave
passed_1 : (c : Else-too_long) → (too_long (length c.args.bases.now)).0 ≡ false
passed_1 c = sym c.too_long.ensures ∙ c.if-too_long.false

passed_2 : (c : Else-too_long-2) → (too_long (length c.args.flags.now)).0 ≡ false
passed_2 c = sym c.too_long-2.ensures ∙ c.if-too_long-2.false

pub returns-then-too_long-2 : goal.returns-then-too_long-2
returns-then-too_long-2 c = first_at 1 (tests (goal.at.returns-then-too_long-2 c).Start) (passed_1 (goal.at.returns-then-too_long-2 c).Else-too_long, sym c.too_long-2.ensures ∙ c.if-too_long-2.true)

pub bad_view-requires : goal.bad_view-requires
bad_view-requires c = ltb-false _ _ (passed_1 (goal.at.bad_view-requires c).Else-too_long)

pub returns-then-bad_view : goal.returns-then-bad_view
returns-then-bad_view c =
    first_at 2 (tests (goal.at.returns-then-bad_view c).Start) (
      passed_1 (goal.at.returns-then-bad_view c).Else-too_long,
      (passed_2 (goal.at.returns-then-bad_view c).Else-too_long-2, sym c.bad_view.ensures ∙ c.if-bad_view.true),
    )

pub bad_view-requires-2 : goal.bad_view-requires-2
bad_view-requires-2 c = ltb-false _ _ (passed_2 (goal.at.bad_view-requires-2 c).Else-too_long-2)

passed_3 : (c : Else-bad_view) → (let a = c.args in (bad_view 2 (length a.bases.now) a.ao.0 a.al.0).0 ≡ false)
passed_3 c = sym c.bad_view.ensures ∙ c.if-bad_view.false

pub returns-then-bad_view-2 : goal.returns-then-bad_view-2
returns-then-bad_view-2 c =
    first_at 3 (tests (goal.at.returns-then-bad_view-2 c).Start) (
      passed_1 (goal.at.returns-then-bad_view-2 c).Else-too_long,
      (passed_2 (goal.at.returns-then-bad_view-2 c).Else-too_long-2, (passed_3 (goal.at.returns-then-bad_view-2 c).Else-bad_view, sym c.bad_view-2.ensures ∙ c.if-bad_view-2.true)),
    )

module _ (c : Else-bad_view-2) where
  -- the four tests of the views do not hold, and the others stop at the k-th
  views_right : (k : ℕ) → Stops k (bad_tracks c.args.al.0 c.args.bl.0 ∷ no_room c.args.room (form_size c.args.al.0) ∷ [])
      → refused_at (suc (suc (suc (suc k)))) (tests (goal.at.Else-bad_view-2 c).Start) ≡ first (tests (goal.at.Else-bad_view-2 c).Start)
  views_right k h =
      first_at (suc (suc (suc (suc k)))) (tests (goal.at.Else-bad_view-2 c).Start) (
        passed_1 (goal.at.Else-bad_view-2 c).Else-too_long,
        (passed_2 (goal.at.Else-bad_view-2 c).Else-too_long-2, (passed_3 (goal.at.Else-bad_view-2 c).Else-bad_view, (sym c.bad_view-2.ensures ∙ c.if-bad_view-2.false, h))),
      )

pub returns-then-count : goal.returns-then-count
returns-then-count c = views_right (goal.at.returns-then-count c).Else-bad_view-2 0 (tracks_differ _ _ (λ e. c.if-count.true (c.count.ensures ∙ e ∙ sym c.count-2.ensures)))

-- both lengths are the same
same : (c : Else-count) → (let a = c.args in a.al.0 ≡ a.bl.0)
same c = sym c.count.ensures ∙ c.if-count.false ∙ c.count-2.ensures

pub returns-then-count-gt-MOST : goal.returns-then-count-gt-MOST
returns-then-count-gt-MOST c = views_right (goal.at.returns-then-count-gt-MOST c).Else-bad_view-2 0
    (tracks_long _ _ (same (goal.at.returns-then-count-gt-MOST c).Else-count) (omega (arith, c.count-3.ensures)))

-- and at most 2^29
tracks : (c : Else-count-gt-MOST) → (let a = c.args in (bad_tracks a.al.0 a.bl.0).0 ≡ false)
tracks c = tracks_right _ _ (same (goal.at.Else-count-gt-MOST c).Else-count) (omega (arith, c.count-3.ensures))

pub returns-then-room-count : goal.returns-then-room-count
returns-then-room-count c =
    let a = c.args in
    views_right (goal.at.returns-then-room-count c).Else-bad_view-2 1 (
      tracks (goal.at.returns-then-room-count c).Else-count-gt-MOST,
      lt-ltb a.room (form_size a.al.0) (omega (arith, c.count-4.ensures, c.form_size.ensures)),
    )

pub returns : goal.returns
returns c =
    let a = c.args in
    views_right (goal.at.returns c).Else-bad_view-2 2 (tracks (goal.at.returns c).Else-count-gt-MOST, (le-ltb a.room (form_size a.al.0) (omega (arith, c.count-4.ensures, c.form_size.ensures)), tt))
