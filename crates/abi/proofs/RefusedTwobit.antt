-- For each exported function on .2bit files that has refusals: where the number returned is not 0, every number given through a pointer is 0, but the state of
-- `add`, which is the one given, and what is lent to be written is what it was.
-- Assumes nothing.
use Rattle.codes.proofs.Permitted.{Refuses, skip}
use Rattle.codes.proofs.RefusalLaws.{no_of, refused_keeps}
use Rattle.twobit.specs.Reading.{bases_after, check_answer, entry_answer, entry_outcome, first_answer, flags_after, info_answer, info_outcome, record_answer, record_outcome}
use Rattle.twowrite.specs.Writing.{add_after, add_answer, add_outcome, finish_answer, size_answer, start_after, start_answer, start_outcome}
use Rattle.abi.proofs.Returned.{returned}
use Rattle.abi.proofs.files.tsiv_twobit_start.Kinds as start·kinds
use Rattle.abi.proofs.files.tsiv_twobit_start.Reads as start·reads
use Rattle.abi.proofs.files.tsiv_twobit_record_size.Kinds as record-size·kinds
use Rattle.abi.proofs.files.tsiv_twobit_record_size.Reads as record-size·reads
use Rattle.abi.proofs.files.tsiv_twobit_add.Kinds as add·kinds
use Rattle.abi.proofs.files.tsiv_twobit_add.Reads as add·reads
use Rattle.abi.proofs.files.tsiv_twobit_finish.Kinds as finish·kinds
use Rattle.abi.proofs.files.tsiv_twobit_finish.Reads as finish·reads
use Rattle.abi.proofs.files.tsiv_twobit_check.Kinds as check·kinds
use Rattle.abi.proofs.files.tsiv_twobit_check.Reads as check·reads
use Rattle.abi.proofs.files.tsiv_twobit_first.Kinds as first·kinds
use Rattle.abi.proofs.files.tsiv_twobit_first.Reads as first·reads
use Rattle.abi.proofs.files.tsiv_twobit_entry.Kinds as entry·kinds
use Rattle.abi.proofs.files.tsiv_twobit_entry.Reads as entry·reads
use Rattle.abi.proofs.files.tsiv_twobit_record_info.Kinds as record-info·kinds
use Rattle.abi.proofs.files.tsiv_twobit_record_info.Reads as record-info·reads
use Rattle.abi.proofs.files.tsiv_twobit_record.Kinds as record·kinds
use Rattle.abi.proofs.files.tsiv_twobit_record.Reads as record·reads

pub start_refused : Refuses 5 start·kinds.ps start·kinds.r start·reads.Post (λ κs. returned) (λ κs a. (tt, skip 2 (a.1.1.0.now, (0, (0, (0, (0, tt)))))))
unfolding start_answer start_outcome start_after
start_refused κs a x v p h =
    let n = rw (no_of p.0) at h in let e = simp refused_keeps at p in
    λ i. (tt, skip 2 (e.1 i, ((e.0 i).values.entry, ((e.0 i).values.stop, ((e.0 i).values.place, ((e.0 i).values.left, tt))))))

pub record_size_refused : Refuses 2 record-size·kinds.ps record-size·kinds.r record-size·reads.Post (λ κs. returned) (λ κs a. (tt, skip 3 (0, tt)))
unfolding size_answer
record_size_refused κs a x v p h = let n = rw (no_of p) at h in let e = simp refused_keeps at p in λ i. (tt, skip 3 ((e i).values, tt))

pub add_refused : Refuses 7 add·kinds.ps add·kinds.r add·reads.Post (λ κs. returned)
    (λ κs a. (tt, (a.0.now, skip 1 (a.1.1.0.now, (a.1.1.1.0.now, skip 7 (a.1.1.1.1.1.1.1.1.1.1.1.0.now, tt))))))
unfolding add_answer add_outcome add_after
add_refused κs a x v p h =
    let n = rw (no_of p.0) at h in let e = simp refused_keeps at p in λ i. (tt, ((e.0 i).values.entry, skip 1 ((e.0 i).values.place, ((e.0 i).values.left, skip 7 (e.1 i, tt)))))

pub finish_refused : Refuses 1 finish·kinds.ps finish·kinds.r finish·reads.Post (λ κs. returned) (λ κs a. (tt, skip 4 (0, tt)))
unfolding finish_answer
finish_refused κs a x v p h = let n = rw (no_of p) at h in let e = simp refused_keeps at p in λ i. (tt, skip 4 ((e i).values, tt))

pub check_refused : Refuses 2 check·kinds.ps check·kinds.r check·reads.Post (λ κs. returned) (λ κs a. (tt, skip 1 (0, tt)))
unfolding check_answer
check_refused κs a x v p h = let n = rw (no_of p) at h in let e = simp refused_keeps at p in λ i. (tt, skip 1 ((e i).values, tt))

pub first_refused : Refuses 3 first·kinds.ps first·kinds.r first·reads.Post (λ κs. returned) (λ κs a. (tt, skip 1 (0, (0, tt))))
unfolding first_answer
first_refused κs a x v p h = let n = rw (no_of p) at h in let e = simp refused_keeps at p in λ i. (tt, skip 1 ((e i).values.0, ((e i).values.1, tt)))

pub entry_refused : Refuses 6 entry·kinds.ps entry·kinds.r entry·reads.Post (λ κs. returned) (λ κs a. (tt, skip 1 (0, (0, (0, (0, (0, tt)))))))
unfolding entry_answer entry_outcome
entry_refused κs a x v p h =
    let n = rw (no_of p) at h in let e = simp refused_keeps at p in λ i. (tt, skip 1 ((e i).values.1.1.0, ((e i).values.1.1.1, ((e i).values.0.0, ((e i).values.0.1, ((e i).values.1.0, tt))))))

pub record_info_refused : Refuses 4 record-info·kinds.ps record-info·kinds.r record-info·reads.Post (λ κs. returned) (λ κs a. (tt, skip 2 (0, (0, (0, tt)))))
unfolding info_answer info_outcome
record_info_refused κs a x v p h =
    let n = rw (no_of p) at h in let e = simp refused_keeps at p in λ i. (tt, skip 2 ((e i).values.0, ((e i).values.1.0, ((e i).values.1.1, tt))))

pub record_refused : Refuses 5 record·kinds.ps record·kinds.r record·reads.Post (λ κs. returned) (λ κs a. (tt, skip 2 (a.1.1.0.now, (a.1.1.1.0.now, (0, (0, tt))))))
unfolding record_answer record_outcome bases_after flags_after
record_refused κs a x v p h = let n = rw (no_of p.0) at h in let e = simp refused_keeps at p in λ i. (tt, skip 2 (e.1.0 i, (e.1.1 i, ((e.0 i).values.0, ((e.0 i).values.1, tt)))))
