-- By what the view is. Assumes nothing.
use Rattle.codes.proofs.OutcomeLaws.{answer_passed}
use Rattle.face.specs.Parts.{normalised_part}
use Rattle.face.proofs.inner.parts.normalised_part.Goals as goal

pub returns-in_err-view_outcome : goal.returns-in_err-view_outcome
unfolding normalised_part
returns-in_err-view_outcome g c = answer_passed _ _ _ _ _ _ c.in_err-view_outcome.ensures c.from_residual.ensures.1

pub returns : goal.returns
unfolding normalised_part
returns g c = rw (← c.in_ok-view_outcome.ensures, c.normal.ensures)
