-- For each call that reads: where its number is not 0, every other number is 0, and the lent buffers are what they were.
-- Assumes nothing.
use Rattle.codes.proofs.Permitted.{Refuses, skip}
use Rattle.codes.proofs.RefusalLaws.{refused_keeps}
use Rattle.codes.specs.Answers.{says}
use Rattle.twobit.specs.Answers.{cursor_says, entry_says, info_says, read_says}
use Rattle.twobit.specs.Reading.{check_answer, first_answer, entry_outcome, entry_answer, info_outcome, info_answer, record_outcome, record_answer, bases_after, flags_after}
use Rattle.twobit.proofs.reading.check.Kinds as check·kinds
use Rattle.twobit.proofs.reading.check.Reads as check
use Rattle.twobit.proofs.reading.first.Kinds as first·kinds
use Rattle.twobit.proofs.reading.first.Reads as first
use Rattle.twobit.proofs.reading.entry.Kinds as entry·kinds
use Rattle.twobit.proofs.reading.entry.Reads as entry
use Rattle.twobit.proofs.reading.record_info.Kinds as record-info·kinds
use Rattle.twobit.proofs.reading.record_info.Reads as record-info
use Rattle.twobit.proofs.reading.record.Kinds as record·kinds
use Rattle.twobit.proofs.reading.record.Reads as record·reads

pub check_refused : Refuses 1 check·kinds.ps check·kinds.r check.Post (λ κs. says) (λ κs a. (0, skip 1 tt))
unfolding check_answer
check_refused κs a x v p h = let n = rw p at h in rw (p, refused_keeps)

pub first_refused : Refuses 1 first·kinds.ps first·kinds.r first.Post (λ κs. cursor_says) (λ κs a. ((0, 0), skip 1 tt))
unfolding first_answer
first_refused κs a x v p h = let n = rw p at h in rw (p, refused_keeps)

pub entry_refused : Refuses 1 entry·kinds.ps entry·kinds.r entry.Post (λ κs. entry_says) (λ κs a. (((0, 0), (0, (0, 0))), skip 3 tt))
unfolding entry_answer entry_outcome
entry_refused κs a x v p h = let n = rw p at h in rw (p, refused_keeps)

pub record_info_refused : Refuses 1 record-info·kinds.ps record-info·kinds.r record-info.Post (λ κs. info_says) (λ κs a. ((0, (0, 0)), skip 2 tt))
unfolding info_answer info_outcome
record_info_refused κs a x v p h = let n = rw p at h in rw (p, refused_keeps)

pub record_refused : Refuses 3 record·kinds.ps record·kinds.r record·reads.Post (λ κs. read_says) (λ κs a. ((0, 0), skip 2 (a.1.1.0.now, (a.1.1.1.0.now, tt))))
unfolding record_answer bases_after flags_after record_outcome
record_refused κs a x v p h = let n = rw p.0 at h in let e = simp refused_keeps at p in λ i. ((e.0 i).values, skip 2 (e.1.0 i, (e.1.1 i, tt)))
