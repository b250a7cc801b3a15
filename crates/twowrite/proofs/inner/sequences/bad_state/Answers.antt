-- The three conditions of a state, one by one. Assumes nothing.
use native.Mathlib.Omega.{arith}
use Rattle.twowrite.proofs.StepLaws.{state_place}
use Rattle.twowrite.proofs.inner.sequences.bad_state.Goals as goal

pub returns : goal.returns
returns c = let a = c.args in state_place a.k a.state a.n (omega arith) (omega arith)
