-- What the answers of this crate say: their number, and their other numbers.
-- Assumes nothing.
use Rattle.std.specs.Prelude.{Result}
use Rattle.codes.specs.Answers.{says_by}
use Rattle.codes.specs.Refusals.{Answer, number_of}
use Rattle.codes.specs.declared.refusals.Refusal.{Refusal}
use Rattle.twowrite.specs.Writing.{writing}
use Rattle.twowrite.specs.declared.answers.Writing.{Writing}
use Rattle.twowrite.specs.declared.answers.Stepped.{Stepped}

-- the state of a file that is started
abbrev pub started_says : Result Writing Refusal → Answer Writing
started_says r = says_by (λ s. s) (writing 0 0 0 0) r

-- the state of a file that is written
abbrev pub stepped_says : Stepped → Answer Writing
stepped_says r = record { no = number_of r.outcome; values = r.state }
