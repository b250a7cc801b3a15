-- The computed test: antt evaluates the rule at each of the 256 entries in the code, and none may differ. Assumes nothing.
use mathlib.Core.Path.{refl}
use Rattle.writes.specs.Flips.{flips}
use Rattle.writes.proofs.TableLaws.{table-right}
use Rattle.writes.proofs.inner.tables.four_flips.Goals as goal

pub returns : goal.returns
unfolding flips
returns c = table-right 4 refl
