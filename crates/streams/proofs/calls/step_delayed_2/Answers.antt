-- The lanes are those of the outcome. Assumes nothing.
use Rattle.std.specs.Prelude.{Ok}
use mathlib.Core.Path.{◌≡◌, sym}
use Rattle.std.proofs.lemmas.Result.{err_from_is_err_and}
use Rattle.streams.specs.Streams.{step_outcome, step_lanes}
use Rattle.streams.proofs.OpenLaws.{step_plain}
use Rattle.streams.proofs.calls.step_delayed_2.Given.{Over}
use Rattle.streams.proofs.calls.step_delayed_2.Goals.{In_ok-step_outcome}
use Rattle.streams.proofs.calls.step_delayed_2.Goals as goal

-- a step that is not refused is none where it is plain
plain : (g : Over) (c : In_ok-step_outcome g) → let a = c.args in step_outcome g.W.Width.BITS a.bytes.now a.offset.0 a.len.0 a.context.0 a.factor 0 0 a.j ≡ Ok tt
plain g c =
    let a = c.args in
    step_plain g.W.Width.BITS a.bytes.now a.offset.0 a.len.0 a.context.0 a.factor a.first.0 a.second.0 a.j (sym c.in_ok-step_outcome.ensures)

pub step_lanes-lanes-requires : goal.step_lanes-lanes-requires
step_lanes-lanes-requires g c = plain g (goal.at.step_lanes-lanes-requires g c).In_ok-step_outcome

pub step_lanes-near-requires : goal.step_lanes-near-requires
step_lanes-near-requires g c = plain g (goal.at.step_lanes-near-requires g c).In_ok-step_outcome

pub step_lanes-far-requires : goal.step_lanes-far-requires
step_lanes-far-requires g c = plain g (goal.at.step_lanes-far-requires g c).In_ok-step_outcome

pub returns-in_err-step_outcome-clause-lanes : goal.returns-in_err-step_outcome-clause-lanes
unfolding step_lanes
returns-in_err-step_outcome-clause-lanes g c = let p = err_from_is_err_and c.from_residual.result c.from_residual.ensures.1 in rw (p.1, ← c.in_err-step_outcome.ensures)

pub returns-clause-lanes : goal.returns-clause-lanes
unfolding step_lanes
returns-clause-lanes g c = rw (← c.in_ok-step_outcome.ensures, c.step_lanes-lanes.ensures, c.step_lanes-near.ensures, c.step_lanes-far.ensures, c.new-none.ensures)
