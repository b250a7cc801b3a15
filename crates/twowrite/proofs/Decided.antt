-- For each call that writes: any two permitted outcomes coincide.
-- Assumes nothing.
use Rattle.codes.specs.Refusals.{Outcome}
use mathlib.Core.Path.{refl, sym, ap, ◌∙◌}
use Rattle.codes.proofs.AnswerLaws.{told, told_by}
use Rattle.codes.proofs.Permitted.{Decided, Once, skip}
use Rattle.codes.proofs.RefusalLaws.{Told, outcome_at_number, says-once, leaves_once}
use Rattle.twowrite.specs.Answers.{started_says, stepped_says}
use Rattle.twowrite.specs.Writing.{writing}
use Rattle.twowrite.specs.declared.answers.Writing.{Writing}
use Rattle.twowrite.specs.declared.answers.Stepped.{Stepped}
use Rattle.twowrite.proofs.writing.start.Kinds as start·kinds
use Rattle.twowrite.proofs.writing.start.Reads as start
use Rattle.twowrite.proofs.writing.record_size.Kinds as record-size·kinds
use Rattle.twowrite.proofs.writing.record_size.Reads as record-size
use Rattle.twowrite.proofs.writing.add.Kinds as add·kinds
use Rattle.twowrite.proofs.writing.add.Reads as add
use Rattle.twowrite.proofs.writing.finish.Kinds as finish·kinds
use Rattle.twowrite.proofs.writing.finish.Reads as finish

pub started_told : Told started_says
started_told = told_by (λ s. s) (writing 0 0 0 0) (λ s. s) (λ s. refl)

abbrev stepped_of : Outcome → Writing → Stepped
stepped_of o s = record { state = s; outcome = o }

pub stepped_told : Told stepped_says
stepped_told = record { make = stepped_of; back = λ r. sym (ap (λ (o : Outcome). stepped_of o r.state) (outcome_at_number r.outcome)) }

pub start_decided : Once 1 start·kinds.ps start·kinds.r start.Post
start_decided κs a x y v w p q = λ i. let e = leaves_once started_told x y p q i in (e.0, skip 2 (e.1, tt))

pub record_size_decided : Decided 1 record-size·kinds.ps record-size·kinds.r record-size.Post
record_size_decided κs a x y s t p q = says-once told x y (p ∙ sym q)

pub add_decided : Once 4 add·kinds.ps add·kinds.r add.Post
add_decided κs a x y v w p q = λ i. let e = leaves_once stepped_told x y p q i in (e.0, skip 8 (e.1, tt))

pub finish_decided : Decided 0 finish·kinds.ps finish·kinds.r finish.Post
finish_decided κs a x y s t p q = says-once told x y (p ∙ sym q)
