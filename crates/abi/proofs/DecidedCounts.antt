-- For each exported function of flags with their counts: any two permitted outcomes coincide, in what is returned and in all that is lent to be written.
-- Assumes nothing.
use mathlib.Core.Path.{sym, ◌∙◌}
use Rattle.codes.proofs.Permitted.{Once, skip}
use Rattle.abi.proofs.flags.count.tsiv_flags_clear_counted.Kinds as clear·kinds
use Rattle.abi.proofs.flags.count.tsiv_flags_clear_counted.Reads as clear
use Rattle.abi.proofs.flags.count.tsiv_flags_push_ascii_counted.Kinds as push-ascii·kinds
use Rattle.abi.proofs.flags.count.tsiv_flags_push_ascii_counted.Reads as push-ascii
use Rattle.abi.proofs.flags.count.tsiv_flags_push_seq_counted.Kinds as push-seq·kinds
use Rattle.abi.proofs.flags.count.tsiv_flags_push_seq_counted.Reads as push-seq
use Rattle.abi.proofs.flags.count.tsiv_flags_overwrite_counted.Kinds as overwrite·kinds
use Rattle.abi.proofs.flags.count.tsiv_flags_overwrite_counted.Reads as overwrite
use Rattle.abi.proofs.flags.count.tsiv_flags_cut_counted.Kinds as cut·kinds
use Rattle.abi.proofs.flags.count.tsiv_flags_cut_counted.Reads as cut
use Rattle.abi.proofs.flags.count.tsiv_flags_count.Kinds as count·kinds
use Rattle.abi.proofs.flags.count.tsiv_flags_count.Reads as count

pub clear_decided : Once 3 clear·kinds.ps clear·kinds.r clear.Post
clear_decided κs a x y v w p q =
    let says = p.0 ∙ sym q.0 in
    let bytes = p.1.0 ∙ sym q.1.0 in
    let entries = p.1.1 ∙ sym q.1.1 in
    λ i. ((says i).no, (bytes i, ((says i).values.2, (entries i, tt))))

pub push_ascii_decided : Once 6 push-ascii·kinds.ps push-ascii·kinds.r push-ascii.Post
push_ascii_decided κs a x y v w p q =
    let says = p.0 ∙ sym q.0 in
    let bytes = p.1.0 ∙ sym q.1.0 in
    let entries = p.1.1 ∙ sym q.1.1 in
    λ i. ((says i).no, (bytes i, ((says i).values.2, (entries i, skip 1 ((says i).values.0, ((says i).values.1, tt))))))

pub push_seq_decided : Once 6 push-seq·kinds.ps push-seq·kinds.r push-seq.Post
push_seq_decided κs a x y v w p q =
    let says = p.0 ∙ sym q.0 in
    let bytes = p.1.0 ∙ sym q.1.0 in
    let entries = p.1.1 ∙ sym q.1.1 in
    λ i. ((says i).no, (bytes i, ((says i).values.2, (entries i, skip 3 ((says i).values.0, ((says i).values.1, tt))))))

pub overwrite_decided : Once 4 overwrite·kinds.ps overwrite·kinds.r overwrite.Post
overwrite_decided κs a x y v w p q =
    let says = p.0 ∙ sym q.0 in
    let bytes = p.1.0 ∙ sym q.1.0 in
    let entries = p.1.1 ∙ sym q.1.1 in
    λ i. ((says i).no, (bytes i, ((says i).values.2, (entries i, skip 2 tt))))

pub cut_decided : Once 3 cut·kinds.ps cut·kinds.r cut.Post
cut_decided κs a x y v w p q =
    let says = p.0 ∙ sym q.0 in
    let bytes = p.1.0 ∙ sym q.1.0 in
    let entries = p.1.1 ∙ sym q.1.1 in
    λ i. ((says i).no, (bytes i, ((says i).values.2, (entries i, skip 1 tt))))

pub count_decided : Once 3 count·kinds.ps count·kinds.r count.Post
count_decided κs a x y v w p q = let e = p ∙ sym q in λ i. ((e i).no, skip 5 ((e i).values, tt))
