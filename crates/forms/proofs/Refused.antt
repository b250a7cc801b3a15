-- For each public call: where its number is not 0, the other number is 0, and the lent buffers are what they were.
-- Assumes nothing.
use Rattle.codes.proofs.Permitted.{Refuses, skip}
use Rattle.codes.proofs.RefusalLaws.{refused_keeps}
use Rattle.forms.specs.Answers.{wrote_says, restored_says}
use Rattle.forms.specs.Forms.{write_outcome, write_answer, write_after}
use Rattle.forms.specs.Reading.{read_outcome, read_answer, bases_after, flags_after}
use Rattle.forms.proofs.forms.write.Kinds as write·kinds
use Rattle.forms.proofs.forms.write.Reads as write
use Rattle.forms.proofs.forms.read.Kinds as read·kinds
use Rattle.forms.proofs.forms.read.Reads as read

pub write_refused : Refuses 3 write·kinds.ps write·kinds.r write.Post (λ κs. wrote_says) (λ κs a. (0, skip 6 (a.1.1.1.1.1.1.0.now, tt)))
unfolding write_answer write_after write_outcome
write_refused κs a x v p h = let n = rw p.0 at h in let e = simp refused_keeps at p in λ i. ((e.0 i).values, skip 6 (e.1 i, tt))

pub read_refused : Refuses 3 read·kinds.ps read·kinds.r read.Post (λ κs. restored_says) (λ κs a. (0, skip 1 (a.1.0.now, (a.1.1.0.now, tt))))
unfolding read_answer bases_after flags_after read_outcome
read_refused κs a x v p h = let n = rw p.0 at h in let e = simp refused_keeps at p in λ i. ((e.0 i).values, skip 1 (e.1.0 i, (e.1.1 i, tt)))
