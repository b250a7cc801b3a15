-- The letter's own test, which the definition takes at this width. Assumes nothing.
use Rattle.codes.specs.Codes.{code}
use Rattle.codes.proofs.widths.FlagsWidth.code_of.Goals as goal

pub returns : goal.returns
unfolding code
returns c = c.char_is_ambiguous.ensures
