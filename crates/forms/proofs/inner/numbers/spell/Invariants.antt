-- The invariant: i groups are written, and the others spell what is left of n. The measure is what is left.
-- Assumes nothing.
use Rattle.forms.proofs.NumberLaws.{Spelt}
use Rattle.forms.proofs.inner.numbers.spell.Given as goal

abbrev pub invariant-loop-rest : goal.invariant-loop-rest
invariant-loop-rest l = Spelt l.n l.initial.out l.i l.out l.rest

abbrev pub decreases-loop-rest : goal.decreases-loop-rest
decreases-loop-rest l = l.rest
