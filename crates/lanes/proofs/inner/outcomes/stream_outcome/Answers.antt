-- The view's tests, and then the stream's. Assumes nothing.
use Rattle.std.specs.Prelude.{Ok}
use mathlib.Core.List.{List, [], ◌∷◌}
use mathlib.Core.Path.{◌≡◌, sym, ◌∙◌}
use lib.ListN.{length}
use Rattle.codes.specs.Refusals.{Test, first, view_tests}
use Rattle.codes.proofs.OutcomeLaws.{passes}
use Rattle.codes.proofs.TestLaws.{first_behind}
use Rattle.lanes.specs.Lanes.{bad_shape, bad_delays}
use Rattle.lanes.proofs.inner.outcomes.stream_outcome.Given.{Over}
use Rattle.lanes.proofs.inner.outcomes.stream_outcome.Goals.{In_ok-view_outcome, Start}
use Rattle.lanes.proofs.inner.outcomes.stream_outcome.Goals as goal

-- the tests, of the view, the shape and the delays
module _ (g : Over) (s : Start g) where
  abbrev tests : List Test
  tests = view_tests g.W.Width.BITS (length s.args.bytes.now) s.args.offset.0 s.args.len.0

  abbrev shape : Test
  shape = bad_shape s.args.context.0 s.args.factor

  abbrev delays : Test
  delays = bad_delays s.args.d.0 s.args.e.0

-- the view is not refused
module _ (g : Over) (c : In_ok-view_outcome g) where
  done : first (tests g (goal.at.In_ok-view_outcome g c).Start) ≡ Ok tt
  done = sym c.in_ok-view_outcome.ensures

pub returns-then-bad_shape : goal.returns-then-bad_shape
returns-then-bad_shape g c =
    first_behind (tests g (goal.at.returns-then-bad_shape g c).Start) (shape g (goal.at.returns-then-bad_shape g c).Start ∷ delays g (goal.at.returns-then-bad_shape g c).Start ∷ [])
    (done g (goal.at.returns-then-bad_shape g c).In_ok-view_outcome) 0 (sym c.bad_shape.ensures ∙ c.if-bad_shape.true)

pub returns-then-bad_delays : goal.returns-then-bad_delays
returns-then-bad_delays g c =
    first_behind (tests g (goal.at.returns-then-bad_delays g c).Start) (shape g (goal.at.returns-then-bad_delays g c).Start ∷ delays g (goal.at.returns-then-bad_delays g c).Start ∷ [])
    (done g (goal.at.returns-then-bad_delays g c).In_ok-view_outcome) 1 (sym c.bad_shape.ensures ∙ c.if-bad_shape.false, sym c.bad_delays.ensures ∙ c.if-bad_delays.true)

pub returns-in_err-view_outcome : goal.returns-in_err-view_outcome
returns-in_err-view_outcome g c =
    let s = (goal.at.returns-in_err-view_outcome g c).Start in
    let p = passes (tests g s) (shape g s ∷ delays g s ∷ []) _ _ c.in_err-view_outcome.ensures c.from_residual.ensures.1 in
    p.0 ∙ sym p.1

pub returns : goal.returns
returns g c =
    first_behind (tests g (goal.at.returns g c).Start) (shape g (goal.at.returns g c).Start ∷ delays g (goal.at.returns g c).Start ∷ [])
    (done g (goal.at.returns g c).In_ok-view_outcome) 2 (sym c.bad_shape.ensures ∙ c.if-bad_shape.false, (sym c.bad_delays.ensures ∙ c.if-bad_delays.false, tt))
