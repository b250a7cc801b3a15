-- By what the view is. Assumes nothing.
use Rattle.codes.proofs.OutcomeLaws.{answer_passed}
use Rattle.face.specs.Parts.{made_part}
use Rattle.face.proofs.inner.parts.made_part.Goals as goal

pub returns-in_err-view_outcome : goal.returns-in_err-view_outcome
unfolding made_part
returns-in_err-view_outcome g c = answer_passed _ _ _ _ _ _ c.in_err-view_outcome.ensures c.from_residual.ensures.1

pub returns : goal.returns
unfolding made_part
returns g c = rw (← c.in_ok-view_outcome.ensures, c.count.ensures, c.count-2.ensures)
