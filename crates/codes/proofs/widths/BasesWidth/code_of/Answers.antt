-- The letter's own test, which the definition takes at this width. Assumes nothing.
use Rattle.codes.specs.Codes.{code}
use Rattle.codes.proofs.widths.BasesWidth.code_of.Goals as goal

pub returns : goal.returns
unfolding code
returns c = c.pack_char_lossy.ensures
