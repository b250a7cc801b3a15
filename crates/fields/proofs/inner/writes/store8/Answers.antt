-- One byte, the lowest. Assumes nothing.
use mathlib.Core.Path.{refl}
use Rattle.codes.specs.Words.{chars_of}
use Rattle.fields.proofs.inner.writes.store8.Goals as goal

pub returns : goal.returns
unfolding chars_of
returns c = refl
