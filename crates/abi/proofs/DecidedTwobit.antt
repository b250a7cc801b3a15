-- For each exported function of .2bit files: any two permitted outcomes coincide, in what is returned and in all that is lent to be written.
-- Assumes nothing.
use mathlib.Core.Path.{sym, ◌∙◌}
use Rattle.codes.proofs.Permitted.{Once, skip}
use Rattle.abi.proofs.files.tsiv_twobit_start.Kinds as start·kinds
use Rattle.abi.proofs.files.tsiv_twobit_start.Reads as start·reads
use Rattle.abi.proofs.files.tsiv_twobit_record_size.Kinds as record-size·kinds
use Rattle.abi.proofs.files.tsiv_twobit_record_size.Reads as record-size·reads
use Rattle.abi.proofs.files.tsiv_twobit_add.Kinds as add·kinds
use Rattle.abi.proofs.files.tsiv_twobit_add.Reads as add·reads
use Rattle.abi.proofs.files.tsiv_twobit_finish.Kinds as finish·kinds
use Rattle.abi.proofs.files.tsiv_twobit_finish.Reads as finish·reads
use Rattle.abi.proofs.files.tsiv_twobit_check.Kinds as check·kinds
use Rattle.abi.proofs.files.tsiv_twobit_check.Reads as check·reads
use Rattle.abi.proofs.files.tsiv_twobit_first.Kinds as first·kinds
use Rattle.abi.proofs.files.tsiv_twobit_first.Reads as first·reads
use Rattle.abi.proofs.files.tsiv_twobit_entry.Kinds as entry·kinds
use Rattle.abi.proofs.files.tsiv_twobit_entry.Reads as entry·reads
use Rattle.abi.proofs.files.tsiv_twobit_record_info.Kinds as record-info·kinds
use Rattle.abi.proofs.files.tsiv_twobit_record_info.Reads as record-info·reads
use Rattle.abi.proofs.files.tsiv_twobit_record.Kinds as record·kinds
use Rattle.abi.proofs.files.tsiv_twobit_record.Reads as record·reads

pub start_decided : Once 5 start·kinds.ps start·kinds.r start·reads.Post
start_decided κs a x y v w p q =
    let answer = p.0 ∙ sym q.0 in
    let bytes = p.1 ∙ sym q.1 in
    λ i. ((answer i).no, skip 2 (bytes i, ((answer i).values.entry, ((answer i).values.stop, ((answer i).values.place, ((answer i).values.left, tt))))))

pub record_size_decided : Once 2 record-size·kinds.ps record-size·kinds.r record-size·reads.Post
record_size_decided κs a x y v w p q =
    let answer = p ∙ sym q in
    λ i. ((answer i).no, skip 3 ((answer i).values, tt))

pub add_decided : Once 7 add·kinds.ps add·kinds.r add·reads.Post
add_decided κs a x y v w p q =
    let answer = p.0 ∙ sym q.0 in
    let bytes = p.1 ∙ sym q.1 in
    λ i. ((answer i).no, ((answer i).values.entry, skip 1 ((answer i).values.place, ((answer i).values.left, skip 7 (bytes i, tt)))))

pub finish_decided : Once 1 finish·kinds.ps finish·kinds.r finish·reads.Post
finish_decided κs a x y v w p q =
    let answer = p ∙ sym q in
    λ i. ((answer i).no, skip 4 ((answer i).values, tt))

pub check_decided : Once 2 check·kinds.ps check·kinds.r check·reads.Post
check_decided κs a x y v w p q =
    let answer = p ∙ sym q in
    λ i. ((answer i).no, skip 1 ((answer i).values, tt))

pub first_decided : Once 3 first·kinds.ps first·kinds.r first·reads.Post
first_decided κs a x y v w p q =
    let answer = p ∙ sym q in
    λ i. ((answer i).no, skip 1 ((answer i).values.0, ((answer i).values.1, tt)))

pub entry_decided : Once 6 entry·kinds.ps entry·kinds.r entry·reads.Post
entry_decided κs a x y v w p q =
    let answer = p ∙ sym q in
    λ i. ((answer i).no, skip 1 ((answer i).values.1.1.0, ((answer i).values.1.1.1, ((answer i).values.0.0, ((answer i).values.0.1, ((answer i).values.1.0, tt))))))

pub record_info_decided : Once 4 record-info·kinds.ps record-info·kinds.r record-info·reads.Post
record_info_decided κs a x y v w p q =
    let answer = p ∙ sym q in
    λ i. ((answer i).no, skip 2 ((answer i).values.0, ((answer i).values.1.0, ((answer i).values.1.1, tt))))

pub record_decided : Once 5 record·kinds.ps record·kinds.r record·reads.Post
record_decided κs a x y v w p q =
    let answer = p.0 ∙ sym q.0 in
    let base_bytes_lem = p.1.0 ∙ sym q.1.0 in
    let flag-bytes = p.1.1 ∙ sym q.1.1 in
    λ i. ((answer i).no, skip 2 (base_bytes_lem i, (flag-bytes i, ((answer i).values.0, ((answer i).values.1, tt)))))
