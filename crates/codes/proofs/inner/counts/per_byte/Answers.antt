-- The number itself. Assumes nothing.
use mathlib.Core.Path.{◌∙◌}
use Rattle.codes.proofs.inner.counts.per_byte.Goals as goal

pub returns : goal.returns
returns g c = c.new.ensures ∙ c.eighth.ensures
