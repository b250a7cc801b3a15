-- The same numbers, by counts. Assumes nothing.
use Rattle.lanes.proofs.inner.shapes.plan_of.Goals as goal

pub numbers_of-requires : goal.numbers_of-requires
numbers_of-requires g c = rw c.count-2.ensures c.requires

pub returns : goal.returns
returns g c = rw (← c.count-2.ensures, ← c.count.ensures) c.numbers_of.ensures
