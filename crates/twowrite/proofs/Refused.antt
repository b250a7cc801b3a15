-- For each call that writes: where its number is not 0, every other number is 0, but the state of `add`, which is the one given, and the lent buffer
-- is what it was.
-- Assumes nothing.
use Rattle.codes.specs.Answers.{says}
use Rattle.codes.proofs.Permitted.{Refuses, skip}
use Rattle.codes.proofs.RefusalLaws.{no_of, refused_keeps}
use Rattle.twowrite.specs.Answers.{started_says, stepped_says}
use Rattle.twowrite.specs.Writing.{start_outcome, start_answer, start_after, size_answer, add_outcome, add_answer, add_after, finish_answer}
use Rattle.twowrite.proofs.writing.start.Kinds as start·kinds
use Rattle.twowrite.proofs.writing.start.Reads as start
use Rattle.twowrite.proofs.writing.record_size.Kinds as record-size·kinds
use Rattle.twowrite.proofs.writing.record_size.Reads as record-size
use Rattle.twowrite.proofs.writing.add.Kinds as add·kinds
use Rattle.twowrite.proofs.writing.add.Reads as add
use Rattle.twowrite.proofs.writing.finish.Kinds as finish·kinds
use Rattle.twowrite.proofs.writing.finish.Reads as finish

pub start_refused : Refuses 1 start·kinds.ps start·kinds.r start.Post (λ κs. started_says) (λ κs a. (record { entry = 0; stop = 0; place = 0; left = 0 }, skip 2 (a.1.1.0.now, tt)))
unfolding start_answer start_after start_outcome
start_refused κs a x v p h = let n = rw (no_of p.0) at h in let e = simp refused_keeps at p in λ i. ((e.0 i).values, skip 2 (e.1 i, tt))

pub record_size_refused : Refuses 1 record-size·kinds.ps record-size·kinds.r record-size.Post (λ κs. says) (λ κs a. (0, skip 3 tt))
unfolding size_answer
record_size_refused κs a x v p h = let n = rw p at h in rw (p, refused_keeps)

pub add_refused : Refuses 4 add·kinds.ps add·kinds.r add.Post (λ κs. stepped_says) (λ κs a. (a.0, skip 8 (a.1.1.1.1.1.1.1.1.0.now, tt)))
unfolding add_answer add_after add_outcome
add_refused κs a x v p h = let n = rw (no_of p.0) at h in let e = simp refused_keeps at p in λ i. ((e.0 i).values, skip 8 (e.1 i, tt))

pub finish_refused : Refuses 0 finish·kinds.ps finish·kinds.r finish.Post (λ κs. says) (λ κs a. (0, skip 1 tt))
unfolding finish_answer
finish_refused κs a x v p h = let n = rw p at h in rw (p, refused_keeps)
