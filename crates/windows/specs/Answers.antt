-- What a running state says, and a step of windows.
-- Assumes nothing.
use Rattle.std.specs.Prelude.{Result, List, ℕ, replicate}
use Rattle.codes.specs.Answers.{says_by}
use Rattle.codes.specs.Refusals.{Answer}
use Rattle.codes.specs.declared.refusals.Refusal.{Refusal}
use Rattle.windows.specs.Windows.{Running, at_zero}
use Rattle.windows.specs.declared.answers.Ran.{Ran}
use Rattle.windows.specs.declared.answers.Windows.{Windows}

abbrev pub running : Windows → Running
running s = record { counts = s.counts; at = s.step }

-- a step's answers and the next state; where it is refused, zero answers, zero counts and step 0
abbrev pub ran_says : Result Ran Refusal → Answer (List ℕ × Running)
ran_says r = says_by (λ x. (x.answers, running x.state)) (replicate 8 0, at_zero) r
