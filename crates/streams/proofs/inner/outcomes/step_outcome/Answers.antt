-- The stream's tests, and then the step's. Assumes nothing.
use mathlib.Core.List.{[], ◌∷◌}
use mathlib.Core.Path.{sym, ◌∙◌}
use native.Mathlib.Omega.{arith}
use Rattle.codes.proofs.OutcomeLaws.{passes}
use Rattle.lanes.specs.Lanes.{steps, stream_tests}
use Rattle.streams.specs.Streams.{bad_step, step_outcome}
use Rattle.streams.proofs.OutcomeLaws.{Judged, judged_open, step_late, step_within}
use Rattle.streams.proofs.inner.outcomes.step_outcome.Given.{Over}
use Rattle.streams.proofs.inner.outcomes.step_outcome.Goals.{In_ok-stream_outcome}
use Rattle.streams.proofs.inner.outcomes.step_outcome.Goals as goal

judged : (g : Over) (c : In_ok-stream_outcome g)
    → let a = c.args in
    Judged g.W.Width.BITS a.bytes.now a.offset.0 a.len.0 a.context.0 a.factor a.d.0 a.e.0
judged g c = record { is = c.in_ok-stream_outcome.ensures }

pub plan_of-p-requires : goal.plan_of-p-requires
plan_of-p-requires g c = (judged_open (judged g (goal.at.plan_of-p-requires g c).In_ok-stream_outcome)).shape

pub returns-then-p-j : goal.returns-then-p-j
returns-then-p-j g c = step_late (judged g (goal.at.returns-then-p-j g c).In_ok-stream_outcome) _ (omega (arith, c.plan_of-p.ensures.steps))

pub returns-in_err-stream_outcome : goal.returns-in_err-stream_outcome
unfolding step_outcome
returns-in_err-stream_outcome g c =
    let a = c.args in
    let ts = stream_tests g.W.Width.BITS a.bytes.now a.offset.0 a.len.0 a.context.0 a.factor a.d.0 a.e.0 in
    let p = passes ts (bad_step (steps g.W.Width.BITS a.len.0 a.context.0 a.factor) a.j ∷ []) _ _ c.in_err-stream_outcome.ensures c.from_residual.ensures.1 in
    p.0 ∙ sym p.1

pub returns : goal.returns
returns g c = step_within (judged g (goal.at.returns g c).In_ok-stream_outcome) _ (omega (arith, c.plan_of-p.ensures.steps))
