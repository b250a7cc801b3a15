-- The lanes are those of the outcome. Assumes nothing.
use Rattle.std.proofs.lemmas.Result.{err_from_is_err_and}
use Rattle.streams.specs.Streams.{step_lanes}
use Rattle.streams.proofs.calls.step.Goals as goal

pub returns-in_err-step_outcome-clause-lanes : goal.returns-in_err-step_outcome-clause-lanes
unfolding step_lanes
returns-in_err-step_outcome-clause-lanes g c =
    let p = err_from_is_err_and c.from_residual.result c.from_residual.ensures.1 in
    rw (p.1, ← (rw c.new-none.ensures at c.in_err-step_outcome.ensures))

pub returns-clause-lanes : goal.returns-clause-lanes
unfolding step_lanes
returns-clause-lanes g c = rw (← (rw c.new-none.ensures at c.in_ok-step_outcome.ensures), c.step_lanes.ensures, c.new-none.ensures)
