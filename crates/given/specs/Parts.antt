-- What a part of a lent buffer says.
-- Assumes nothing.
use Rattle.std.specs.Prelude.{Result}
use Rattle.codes.specs.Answers.{says_by}
use Rattle.codes.specs.Refusals.{Answer}
use Rattle.codes.specs.declared.refusals.Refusal.{Refusal}
use Rattle.given.specs.Face.{Part, no_part}
use Rattle.given.specs.declared.inner.parts.Part as Given

abbrev pub part_numbers : Given.Part → Part
part_numbers p = (p.first, p.size, p.offset, p.len)

abbrev pub part_says : Result Given.Part Refusal → Answer Part
part_says r = says_by part_numbers no_part r
