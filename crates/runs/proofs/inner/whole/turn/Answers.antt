-- Three stages of swaps. Assumes nothing.
use Rattle.runs.proofs.TurnLaws.{turn_bit}
use Rattle.runs.proofs.inner.whole.turn.Goals as goal

pub returns : goal.returns
returns c = turn_bit c.args.x
