-- Each answer of this crate can be made again from what it says.
-- Assumes nothing.
use mathlib.Core.Path.{refl}
use lib.ListN.{replicate}
use Rattle.codes.proofs.AnswerLaws.{told_by}
use Rattle.codes.proofs.RefusalLaws.{Told}
use Rattle.windows.specs.Answers.{running, ran_says}
use Rattle.windows.specs.Windows.{at_zero}

pub ran_told : Told ran_says
ran_told = told_by (λ x. (x.answers, running x.state)) (replicate 8 0, at_zero) (λ v. record { answers = v.0; state = record { counts = v.1.counts; step = v.1.at } }) (λ x. refl)
