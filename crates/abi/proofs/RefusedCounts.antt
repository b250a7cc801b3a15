-- For each exported function on a store of flags and its counts that has refusals: where the number returned is not 0, every number given through a pointer is 0, but a store's length,
-- which is the old one, of a clear 0, and what is lent to be written is what it was.
-- Assumes nothing.
use Rattle.codes.proofs.Permitted.{Refuses, skip}
use Rattle.codes.proofs.RefusalLaws.{no_of, refused_keeps}
use Rattle.counts.specs.Counts.{bytes_after, counted_answer, counted_outcome, entries_after, queried}
use Rattle.abi.proofs.Returned.{returned}
use Rattle.abi.proofs.flags.count.tsiv_flags_clear_counted.Kinds as clear·kinds
use Rattle.abi.proofs.flags.count.tsiv_flags_clear_counted.Reads as clear
use Rattle.abi.proofs.flags.count.tsiv_flags_push_ascii_counted.Kinds as push-ascii·kinds
use Rattle.abi.proofs.flags.count.tsiv_flags_push_ascii_counted.Reads as push-ascii
use Rattle.abi.proofs.flags.count.tsiv_flags_push_seq_counted.Kinds as push-seq·kinds
use Rattle.abi.proofs.flags.count.tsiv_flags_push_seq_counted.Reads as push-seq
use Rattle.abi.proofs.flags.count.tsiv_flags_overwrite_counted.Kinds as overwrite·kinds
use Rattle.abi.proofs.flags.count.tsiv_flags_overwrite_counted.Reads as overwrite
use Rattle.abi.proofs.flags.count.tsiv_flags_cut_counted.Kinds as cut·kinds
use Rattle.abi.proofs.flags.count.tsiv_flags_cut_counted.Reads as cut
use Rattle.abi.proofs.flags.count.tsiv_flags_count.Kinds as count·kinds
use Rattle.abi.proofs.flags.count.tsiv_flags_count.Reads as count

pub clear_refused : Refuses 3 clear·kinds.ps clear·kinds.r clear.Post (λ κs. returned) (λ κs a. (tt, (a.0.now, (0, (a.1.1.0.now, tt)))))
unfolding counted_answer counted_outcome bytes_after entries_after
clear_refused κs a x v p h = let n = rw (no_of p.0) at h in let e = simp refused_keeps at p in λ i. (tt, (e.1.0 i, ((e.0 i).values.2, (e.1.1 i, tt))))

pub push_ascii_refused : Refuses 6 push-ascii·kinds.ps push-ascii·kinds.r push-ascii.Post (λ κs. returned) (λ κs a. (tt, (a.0.now, (a.1.0.now, (a.1.1.0.now, skip 1 (0, (0, tt)))))))
unfolding counted_answer counted_outcome bytes_after entries_after
push_ascii_refused κs a x v p h =
    let n = rw (no_of p.0) at h in let e = simp refused_keeps at p in λ i. (tt, (e.1.0 i, ((e.0 i).values.2, (e.1.1 i, skip 1 ((e.0 i).values.0, ((e.0 i).values.1, tt))))))

pub push_seq_refused : Refuses 6 push-seq·kinds.ps push-seq·kinds.r push-seq.Post (λ κs. returned) (λ κs a. (tt, (a.0.now, (a.1.0.now, (a.1.1.0.now, skip 3 (0, (0, tt)))))))
unfolding counted_answer counted_outcome bytes_after entries_after
push_seq_refused κs a x v p h =
    let n = rw (no_of p.0) at h in let e = simp refused_keeps at p in λ i. (tt, (e.1.0 i, ((e.0 i).values.2, (e.1.1 i, skip 3 ((e.0 i).values.0, ((e.0 i).values.1, tt))))))

pub overwrite_refused : Refuses 4 overwrite·kinds.ps overwrite·kinds.r overwrite.Post (λ κs. returned) (λ κs a. (tt, (a.0.now, (a.1.0.now, (a.1.1.0.now, skip 2 tt)))))
unfolding counted_answer counted_outcome bytes_after entries_after
overwrite_refused κs a x v p h = let n = rw (no_of p.0) at h in let e = simp refused_keeps at p in λ i. (tt, (e.1.0 i, ((e.0 i).values.2, (e.1.1 i, skip 2 tt))))

pub cut_refused : Refuses 3 cut·kinds.ps cut·kinds.r cut.Post (λ κs. returned) (λ κs a. (tt, (a.0.now, (a.1.0.now, (a.1.1.0.now, skip 1 tt)))))
unfolding counted_answer counted_outcome bytes_after entries_after
cut_refused κs a x v p h = let n = rw (no_of p.0) at h in let e = simp refused_keeps at p in λ i. (tt, (e.1.0 i, ((e.0 i).values.2, (e.1.1 i, skip 1 tt))))

pub count_refused : Refuses 3 count·kinds.ps count·kinds.r count.Post (λ κs. returned) (λ κs a. (tt, skip 5 (0, tt)))
unfolding queried
count_refused κs a x v p h = let n = rw (no_of p) at h in let e = simp refused_keeps at p in λ i. (tt, skip 5 ((e i).values, tt))
