-- The view's tests, and then the windows'. Assumes nothing.
use Rattle.std.specs.Prelude.{Ok}
use mathlib.Core.List.{List, [], ◌∷◌}
use mathlib.Core.Path.{◌≡◌, sym, ◌∙◌}
use lib.ListN.{length}
use Rattle.codes.specs.Refusals.{Test, first, view_tests}
use Rattle.codes.proofs.OutcomeLaws.{passes}
use Rattle.codes.proofs.TestLaws.{first_behind}
use Rattle.lanes.specs.Lanes.{bad_shape}
use Rattle.windows.specs.Windows.{bad_window}
use Rattle.windows.proofs.inner.outcomes.window_outcome.Goals.{In_ok-view_outcome, Start}
use Rattle.windows.proofs.inner.outcomes.window_outcome.Goals as goal

-- the tests, of the view, the shape and the window
module _ (s : Start) where
  abbrev tests : List Test
  tests = view_tests 1 (length s.args.bytes.now) s.args.offset.0 s.args.len.0

  abbrev shape : Test
  shape = bad_shape s.args.context.0 1

  abbrev window : Test
  window = bad_window s.args.k.0

-- the view is not refused
module _ (c : In_ok-view_outcome) where
  done : first (tests (goal.at.In_ok-view_outcome c).Start) ≡ Ok tt
  done = sym c.in_ok-view_outcome.ensures

pub returns-then-bad_shape : goal.returns-then-bad_shape
returns-then-bad_shape c =
    first_behind (tests (goal.at.returns-then-bad_shape c).Start) (shape (goal.at.returns-then-bad_shape c).Start ∷ window (goal.at.returns-then-bad_shape c).Start ∷ [])
    (done (goal.at.returns-then-bad_shape c).In_ok-view_outcome) 0 (sym c.bad_shape.ensures ∙ c.if-bad_shape.true)

pub returns-then-bad_window : goal.returns-then-bad_window
returns-then-bad_window c =
    first_behind (tests (goal.at.returns-then-bad_window c).Start) (shape (goal.at.returns-then-bad_window c).Start ∷ window (goal.at.returns-then-bad_window c).Start ∷ [])
    (done (goal.at.returns-then-bad_window c).In_ok-view_outcome) 1 (sym c.bad_shape.ensures ∙ c.if-bad_shape.false, sym c.bad_window.ensures ∙ c.if-bad_window.true)

pub returns-in_err-view_outcome : goal.returns-in_err-view_outcome
returns-in_err-view_outcome c =
    let s = (goal.at.returns-in_err-view_outcome c).Start in
    let p = passes (tests s) (shape s ∷ window s ∷ []) _ _ c.in_err-view_outcome.ensures c.from_residual.ensures.1 in
    p.0 ∙ sym p.1

pub returns : goal.returns
returns c =
    first_behind (tests (goal.at.returns c).Start) (shape (goal.at.returns c).Start ∷ window (goal.at.returns c).Start ∷ [])
    (done (goal.at.returns c).In_ok-view_outcome) 2 (sym c.bad_shape.ensures ∙ c.if-bad_shape.false, (sym c.bad_window.ensures ∙ c.if-bad_window.false, tt))
