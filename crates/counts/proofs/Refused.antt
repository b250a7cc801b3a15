-- For each public call: where its number is not 0, the start and the end are 0, the length is the old one, of a clear 0, and the buffer and the entries are
-- what they were; of a query the count is 0.
-- Assumes nothing.
use Rattle.codes.proofs.Permitted.{Refuses, skip}
use Rattle.codes.proofs.RefusalLaws.{refused_keeps}
use Rattle.stores.specs.Answers.{pushed_says, kept_says}
use Rattle.codes.specs.Answers.{says}
use Rattle.counts.specs.Counts.{counted_outcome, counted_answer, bytes_after, entries_after, queried}
use Rattle.counts.proofs.flags.clear.Kinds as clear·kinds
use Rattle.counts.proofs.flags.clear.Reads as clear
use Rattle.counts.proofs.flags.push_ascii.Kinds as push-ascii·kinds
use Rattle.counts.proofs.flags.push_ascii.Reads as push-ascii
use Rattle.counts.proofs.flags.push_seq.Kinds as push-seq·kinds
use Rattle.counts.proofs.flags.push_seq.Reads as push-seq
use Rattle.counts.proofs.flags.overwrite.Kinds as overwrite·kinds
use Rattle.counts.proofs.flags.overwrite.Reads as overwrite
use Rattle.counts.proofs.flags.cut.Kinds as cut·kinds
use Rattle.counts.proofs.flags.cut.Reads as cut
use Rattle.counts.proofs.flags.count.Kinds as count·kinds
use Rattle.counts.proofs.flags.count.Reads as count

pub clear_refused : Refuses 2 clear·kinds.ps clear·kinds.r clear.Post (λ κs. kept_says) (λ κs a. ((0, 0, 0), (a.0.now, (a.1.0.now, tt))))
unfolding counted_answer bytes_after entries_after counted_outcome
clear_refused κs a x v p h = let n = rw p.0 at h in let e = simp refused_keeps at p in λ i. ((e.0 i).values, (e.1.0 i, (e.1.1 i, tt)))

pub push_ascii_refused : Refuses 3 push-ascii·kinds.ps push-ascii·kinds.r push-ascii.Post (λ κs. pushed_says) (λ κs a. ((0, 0, a.1.0.0), (a.0.now, skip 1 (a.1.1.0.now, skip 1 tt))))
unfolding counted_answer bytes_after entries_after counted_outcome
push_ascii_refused κs a x v p h = let n = rw p.0 at h in let e = simp refused_keeps at p in λ i. ((e.0 i).values, (e.1.0 i, skip 1 (e.1.1 i, skip 1 tt)))

pub push_seq_refused : Refuses 3 push-seq·kinds.ps push-seq·kinds.r push-seq.Post (λ κs. pushed_says) (λ κs a. ((0, 0, a.1.0.0), (a.0.now, skip 1 (a.1.1.0.now, skip 3 tt))))
unfolding counted_answer bytes_after entries_after counted_outcome
push_seq_refused κs a x v p h = let n = rw p.0 at h in let e = simp refused_keeps at p in λ i. ((e.0 i).values, (e.1.0 i, skip 1 (e.1.1 i, skip 3 tt)))

pub overwrite_refused : Refuses 3 overwrite·kinds.ps overwrite·kinds.r overwrite.Post (λ κs. kept_says) (λ κs a. ((0, 0, a.1.0.0), (a.0.now, skip 1 (a.1.1.0.now, skip 2 tt))))
unfolding counted_answer bytes_after entries_after counted_outcome
overwrite_refused κs a x v p h = let n = rw p.0 at h in let e = simp refused_keeps at p in λ i. ((e.0 i).values, (e.1.0 i, skip 1 (e.1.1 i, skip 2 tt)))

pub cut_refused : Refuses 2 cut·kinds.ps cut·kinds.r cut.Post (λ κs. kept_says) (λ κs a. ((0, 0, a.1.0.0), (a.0.now, skip 1 (a.1.1.0.now, skip 1 tt))))
unfolding counted_answer bytes_after entries_after counted_outcome
cut_refused κs a x v p h = let n = rw p.0 at h in let e = simp refused_keeps at p in λ i. ((e.0 i).values, (e.1.0 i, skip 1 (e.1.1 i, skip 1 tt)))

pub count_refused : Refuses 2 count·kinds.ps count·kinds.r count.Post (λ κs. says) (λ κs a. (0, skip 5 tt))
unfolding queried
count_refused κs a x v p h = let n = rw p at h in rw (p, refused_keeps)
