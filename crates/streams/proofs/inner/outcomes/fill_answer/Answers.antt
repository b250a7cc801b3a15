-- The stream's tests, and then the room for its entries. Assumes nothing.
use mathlib.Core.List.{[], ◌∷◌}
use mathlib.Core.Path.{◌∙◌}
use Prim.Native.Nat.{◌*◌}
use native.Mathlib.Omega.{arith}
use Rattle.codes.specs.Refusals.{no_room}
use Rattle.codes.proofs.OutcomeLaws.{passes}
use Rattle.lanes.specs.Lanes.{steps, stream_tests}
use Rattle.streams.specs.Streams.{fill_outcome, fill_answer}
use Rattle.streams.proofs.OpenLaws.{open_sizes}
use Rattle.streams.proofs.OutcomeLaws.{Judged, judged_open, fill_short, fill_fits}
use Rattle.streams.proofs.inner.outcomes.fill_answer.Given.{Over}
use Rattle.streams.proofs.inner.outcomes.fill_answer.Goals.{In_ok-stream_outcome}
use Rattle.streams.proofs.inner.outcomes.fill_answer.Goals as goal

judged : (g : Over) (c : In_ok-stream_outcome g)
    → let a = c.args in
    Judged g.W.Width.BITS a.bytes.now a.offset.0 a.len.0 a.context.0 a.factor a.d.0 a.e.0
judged g c = record { is = c.in_ok-stream_outcome.ensures }

pub plan_of-p-requires : goal.plan_of-p-requires
plan_of-p-requires g c = (judged_open (judged g (goal.at.plan_of-p-requires g c).In_ok-stream_outcome)).shape

pub overflow_mul-p : goal.overflow_mul-p
overflow_mul-p g c =
    let r = judged_open (judged g (goal.at.overflow_mul-p g c).In_ok-stream_outcome) in
    omega (arith, (open_sizes g.W.Width.divides r).steps-few, c.plan_of-p.ensures.steps)

pub returns-then-room-p : goal.returns-then-room-p
returns-then-room-p g c = fill_short (judged g (goal.at.returns-then-room-p g c).In_ok-stream_outcome) _ (omega (arith, c.plan_of-p.ensures.steps))

pub returns-in_err-stream_outcome : goal.returns-in_err-stream_outcome
unfolding fill_answer fill_outcome
returns-in_err-stream_outcome g c =
    let a = c.args in
    let ts = stream_tests g.W.Width.BITS a.bytes.now a.offset.0 a.len.0 a.context.0 a.factor a.d.0 a.e.0 in
    let p = passes ts (no_room a.room (8 * steps g.W.Width.BITS a.len.0 a.context.0 a.factor) ∷ []) _ _ c.in_err-stream_outcome.ensures c.from_residual.ensures.1 in
    rw (p.0, p.1)

pub returns : goal.returns
returns g c =
    let n = c.plan_of-p.ensures in
    fill_fits (judged g (goal.at.returns g c).In_ok-stream_outcome) _ _ _ (omega (arith, n.steps)) n.steps (c.new.ensures ∙ n.padding)
