-- For each exported function of bases: any two permitted outcomes coincide, in what is returned and in all that is lent to be written.
-- Assumes nothing.
use mathlib.Core.Path.{sym, ◌∙◌}
use Rattle.codes.proofs.Permitted.{Once, skip}
use Rattle.abi.proofs.bases.pair.tsiv_bases_compare.Kinds as bases-compare·kinds
use Rattle.abi.proofs.bases.pair.tsiv_bases_compare.Reads as bases-compare
use Rattle.abi.proofs.bases.pair.tsiv_bases_find.Kinds as bases-find·kinds
use Rattle.abi.proofs.bases.pair.tsiv_bases_find.Reads as bases-find
use Rattle.abi.proofs.bases.pair.tsiv_bases_least.Kinds as bases-least·kinds
use Rattle.abi.proofs.bases.pair.tsiv_bases_least.Reads as bases-least
use Rattle.abi.proofs.bases.store.tsiv_bases_clear.Kinds as bases-clear·kinds
use Rattle.abi.proofs.bases.store.tsiv_bases_clear.Reads as bases-clear
use Rattle.abi.proofs.bases.store.tsiv_bases_push_ascii.Kinds as bases-push-ascii·kinds
use Rattle.abi.proofs.bases.store.tsiv_bases_push_ascii.Reads as bases-push-ascii
use Rattle.abi.proofs.bases.store.tsiv_bases_push_seq.Kinds as bases-push-seq·kinds
use Rattle.abi.proofs.bases.store.tsiv_bases_push_seq.Reads as bases-push-seq
use Rattle.abi.proofs.bases.store.tsiv_bases_overwrite.Kinds as bases-overwrite·kinds
use Rattle.abi.proofs.bases.store.tsiv_bases_overwrite.Reads as bases-overwrite
use Rattle.abi.proofs.bases.store.tsiv_bases_cut.Kinds as bases-cut·kinds
use Rattle.abi.proofs.bases.store.tsiv_bases_cut.Reads as bases-cut
use Rattle.abi.proofs.bases.stream.tsiv_bases_shape.Kinds as bases-shape·kinds
use Rattle.abi.proofs.bases.stream.tsiv_bases_shape.Reads as bases-shape
use Rattle.abi.proofs.bases.stream.tsiv_bases_fill.Kinds as bases-fill·kinds
use Rattle.abi.proofs.bases.stream.tsiv_bases_fill.Reads as bases-fill
use Rattle.abi.proofs.bases.stream.tsiv_bases_fill_delayed.Kinds as bases-fill-delayed·kinds
use Rattle.abi.proofs.bases.stream.tsiv_bases_fill_delayed.Reads as bases-fill-delayed
use Rattle.abi.proofs.bases.stream.tsiv_bases_fill_delayed_2.Kinds as bases-fill-delayed-2·kinds
use Rattle.abi.proofs.bases.stream.tsiv_bases_fill_delayed_2.Reads as bases-fill-delayed-2
use Rattle.abi.proofs.bases.stream.tsiv_bases_step.Kinds as bases-step·kinds
use Rattle.abi.proofs.bases.stream.tsiv_bases_step.Reads as bases-step
use Rattle.abi.proofs.bases.stream.tsiv_bases_step_delayed.Kinds as bases-step-delayed·kinds
use Rattle.abi.proofs.bases.stream.tsiv_bases_step_delayed.Reads as bases-step-delayed
use Rattle.abi.proofs.bases.stream.tsiv_bases_step_delayed_2.Kinds as bases-step-delayed-2·kinds
use Rattle.abi.proofs.bases.stream.tsiv_bases_step_delayed_2.Reads as bases-step-delayed-2
use Rattle.abi.proofs.bases.view.tsiv_bases_view.Kinds as bases-view·kinds
use Rattle.abi.proofs.bases.view.tsiv_bases_view.Reads as bases-view
use Rattle.abi.proofs.bases.view.tsiv_bases_slice.Kinds as bases-slice·kinds
use Rattle.abi.proofs.bases.view.tsiv_bases_slice.Reads as bases-slice
use Rattle.abi.proofs.bases.view.tsiv_bases_normalise.Kinds as bases-normalise·kinds
use Rattle.abi.proofs.bases.view.tsiv_bases_normalise.Reads as bases-normalise
use Rattle.abi.proofs.bases.view.tsiv_bases_get.Kinds as bases-get·kinds
use Rattle.abi.proofs.bases.view.tsiv_bases_get.Reads as bases-get
use Rattle.abi.proofs.bases.view.tsiv_bases_get_sliced.Kinds as bases-get-sliced·kinds
use Rattle.abi.proofs.bases.view.tsiv_bases_get_sliced.Reads as bases-get-sliced
use Rattle.abi.proofs.bases.view.tsiv_bases_as_u64.Kinds as bases-as-u64·kinds
use Rattle.abi.proofs.bases.view.tsiv_bases_as_u64.Reads as bases-as-u64
use Rattle.abi.proofs.bases.view.tsiv_bases_revcomp_as_u64.Kinds as bases-revcomp-as-u64·kinds
use Rattle.abi.proofs.bases.view.tsiv_bases_revcomp_as_u64.Reads as bases-revcomp-as-u64
use Rattle.abi.proofs.bases.view.tsiv_bases_as_u128.Kinds as bases-as-u128·kinds
use Rattle.abi.proofs.bases.view.tsiv_bases_as_u128.Reads as bases-as-u128
use Rattle.abi.proofs.bases.view.tsiv_bases_revcomp_as_u128.Kinds as bases-revcomp-as-u128·kinds
use Rattle.abi.proofs.bases.view.tsiv_bases_revcomp_as_u128.Reads as bases-revcomp-as-u128
use Rattle.abi.proofs.bases.view.tsiv_bases_to_revcomp.Kinds as bases-to-revcomp·kinds
use Rattle.abi.proofs.bases.view.tsiv_bases_to_revcomp.Reads as bases-to-revcomp
use Rattle.abi.proofs.bases.view.tsiv_bases_unpack.Kinds as bases-unpack·kinds
use Rattle.abi.proofs.bases.view.tsiv_bases_unpack.Reads as bases-unpack

pub bases_compare_decided : Once 4 bases-compare·kinds.ps bases-compare·kinds.r bases-compare.Post
bases_compare_decided κs a x y v w p q = let e = p ∙ sym q in λ i. ((e i).no, skip 6 ((e i).values.0, ((e i).values.1, tt)))

pub bases_find_decided : Once 4 bases-find·kinds.ps bases-find·kinds.r bases-find.Post
bases_find_decided κs a x y v w p q = let e = p ∙ sym q in λ i. ((e i).no, skip 6 ((e i).values.0, ((e i).values.1, tt)))

pub bases_least_decided : Once 7 bases-least·kinds.ps bases-least·kinds.r bases-least.Post
bases_least_decided κs a x y v w p q = let e = p ∙ sym q in λ i. ((e i).no, skip 6 ((e i).values.0, ((e i).values.1.0, ((e i).values.1.1, ((e i).values.1.2, ((e i).values.1.3, tt))))))

pub bases_clear_decided : Once 2 bases-clear·kinds.ps bases-clear·kinds.r bases-clear.Post
bases_clear_decided κs a x y v w p q =
    let says = p.0 ∙ sym q.0 in
    let bytes = p.1 ∙ sym q.1 in
    λ i. ((says i).no, (bytes i, ((says i).values.2, tt)))

pub bases_push_ascii_decided : Once 5 bases-push-ascii·kinds.ps bases-push-ascii·kinds.r bases-push-ascii.Post
bases_push_ascii_decided κs a x y v w p q =
    let says = p.0 ∙ sym q.0 in
    let bytes = p.1 ∙ sym q.1 in
    λ i. ((says i).no, (bytes i, ((says i).values.2, skip 1 ((says i).values.0, ((says i).values.1, tt)))))

pub bases_push_seq_decided : Once 5 bases-push-seq·kinds.ps bases-push-seq·kinds.r bases-push-seq.Post
bases_push_seq_decided κs a x y v w p q =
    let says = p.0 ∙ sym q.0 in
    let bytes = p.1 ∙ sym q.1 in
    λ i. ((says i).no, (bytes i, ((says i).values.2, skip 3 ((says i).values.0, ((says i).values.1, tt)))))

pub bases_overwrite_decided : Once 3 bases-overwrite·kinds.ps bases-overwrite·kinds.r bases-overwrite.Post
bases_overwrite_decided κs a x y v w p q =
    let says = p.0 ∙ sym q.0 in
    let bytes = p.1 ∙ sym q.1 in
    λ i. ((says i).no, (bytes i, ((says i).values.2, skip 2 tt)))

pub bases_cut_decided : Once 2 bases-cut·kinds.ps bases-cut·kinds.r bases-cut.Post
bases_cut_decided κs a x y v w p q =
    let says = p.0 ∙ sym q.0 in
    let bytes = p.1 ∙ sym q.1 in
    λ i. ((says i).no, (bytes i, ((says i).values.2, skip 1 tt)))

pub bases_shape_decided : Once 3 bases-shape·kinds.ps bases-shape·kinds.r bases-shape.Post
bases_shape_decided κs a x y v w p q = let e = p ∙ sym q in λ i. ((e i).no, skip 3 ((e i).values.0, ((e i).values.1, ((e i).values.2, tt))))

pub bases_fill_decided : Once 4 bases-fill·kinds.ps bases-fill·kinds.r bases-fill.Post
bases_fill_decided κs a x y v w p q =
    let answer = p.0 ∙ sym q.0 in
    let out = p.1 ∙ sym q.1 in
    λ i. ((answer i).no, skip 5 (out i, ((answer i).values.0, ((answer i).values.1, tt))))

pub bases_fill_delayed_decided : Once 5 bases-fill-delayed·kinds.ps bases-fill-delayed·kinds.r bases-fill-delayed.Post
bases_fill_delayed_decided κs a x y v w p q =
    let answer = p.0 ∙ sym q.0 in
    let out = p.1.0 ∙ sym q.1.0 in
    let delayed = p.1.1 ∙ sym q.1.1 in
    λ i. ((answer i).no, skip 6 (out i, (delayed i, ((answer i).values.0, ((answer i).values.1, tt)))))

pub bases_fill_delayed_2_decided : Once 6 bases-fill-delayed-2·kinds.ps bases-fill-delayed-2·kinds.r bases-fill-delayed-2.Post
bases_fill_delayed_2_decided κs a x y v w p q =
    let answer = p.0 ∙ sym q.0 in
    let out = p.1.0 ∙ sym q.1.0 in
    let out1 = p.1.1.0 ∙ sym q.1.1.0 in
    let out2 = p.1.1.1 ∙ sym q.1.1.1 in
    λ i. ((answer i).no, skip 7 (out i, (out1 i, (out2 i, ((answer i).values.0, ((answer i).values.1, tt))))))

pub bases_step_decided : Once 2 bases-step·kinds.ps bases-step·kinds.r bases-step.Post
bases_step_decided κs a x y v w p q =
    let number = p.0 ∙ sym q.0 in
    let lanes = p.1 ∙ sym q.1 in
    λ i. (number i, skip 6 (lanes i, tt))

pub bases_step_delayed_decided : Once 3 bases-step-delayed·kinds.ps bases-step-delayed·kinds.r bases-step-delayed.Post
bases_step_delayed_decided κs a x y v w p q =
    let number = p.0 ∙ sym q.0 in
    let lanes = p.1.0 ∙ sym q.1.0 in
    let lanes1 = p.1.1 ∙ sym q.1.1 in
    λ i. (number i, skip 7 (lanes i, (lanes1 i, tt)))

pub bases_step_delayed_2_decided : Once 4 bases-step-delayed-2·kinds.ps bases-step-delayed-2·kinds.r bases-step-delayed-2.Post
bases_step_delayed_2_decided κs a x y v w p q =
    let number = p.0 ∙ sym q.0 in
    let lanes = p.1.0 ∙ sym q.1.0 in
    let lanes1 = p.1.1.0 ∙ sym q.1.1.0 in
    let lanes2 = p.1.1.1 ∙ sym q.1.1.1 in
    λ i. (number i, skip 8 (lanes i, (lanes1 i, (lanes2 i, tt))))

pub bases_view_decided : Once 5 bases-view·kinds.ps bases-view·kinds.r bases-view.Post
bases_view_decided κs a x y v w p q = let e = p ∙ sym q in λ i. ((e i).no, skip 3 ((e i).values.0, ((e i).values.1, ((e i).values.2, ((e i).values.3, tt)))))

pub bases_slice_decided : Once 5 bases-slice·kinds.ps bases-slice·kinds.r bases-slice.Post
bases_slice_decided κs a x y v w p q = let e = p ∙ sym q in λ i. ((e i).no, skip 5 ((e i).values.0, ((e i).values.1, ((e i).values.2, ((e i).values.3, tt)))))

pub bases_normalise_decided : Once 5 bases-normalise·kinds.ps bases-normalise·kinds.r bases-normalise.Post
bases_normalise_decided κs a x y v w p q = let e = p ∙ sym q in λ i. ((e i).no, skip 3 ((e i).values.0, ((e i).values.1, ((e i).values.2, ((e i).values.3, tt)))))

pub bases_get_decided : Once 2 bases-get·kinds.ps bases-get·kinds.r bases-get.Post
bases_get_decided κs a x y v w p q = let e = p ∙ sym q in λ i. ((e i).no, skip 4 ((e i).values, tt))

pub bases_get_sliced_decided : Once 2 bases-get-sliced·kinds.ps bases-get-sliced·kinds.r bases-get-sliced.Post
bases_get_sliced_decided κs a x y v w p q = let e = p ∙ sym q in λ i. ((e i).no, skip 6 ((e i).values, tt))

pub bases_as_u64_decided : Once 2 bases-as-u64·kinds.ps bases-as-u64·kinds.r bases-as-u64.Post
bases_as_u64_decided κs a x y v w p q = let e = p ∙ sym q in λ i. ((e i).no, skip 3 ((e i).values, tt))

pub bases_revcomp_as_u64_decided : Once 2 bases-revcomp-as-u64·kinds.ps bases-revcomp-as-u64·kinds.r bases-revcomp-as-u64.Post
bases_revcomp_as_u64_decided κs a x y v w p q = let e = p ∙ sym q in λ i. ((e i).no, skip 3 ((e i).values, tt))

pub bases_as_u128_decided : Once 3 bases-as-u128·kinds.ps bases-as-u128·kinds.r bases-as-u128.Post
bases_as_u128_decided κs a x y v w p q = let e = p ∙ sym q in λ i. ((e i).no, skip 3 ((e i).values.0, ((e i).values.1, tt)))

pub bases_revcomp_as_u128_decided : Once 3 bases-revcomp-as-u128·kinds.ps bases-revcomp-as-u128·kinds.r bases-revcomp-as-u128.Post
bases_revcomp_as_u128_decided κs a x y v w p q = let e = p ∙ sym q in λ i. ((e i).no, skip 3 ((e i).values.0, ((e i).values.1, tt)))

pub bases_to_revcomp_decided : Once 2 bases-to-revcomp·kinds.ps bases-to-revcomp·kinds.r bases-to-revcomp.Post
bases_to_revcomp_decided κs a x y v w p q =
    let number = p.0 ∙ sym q.0 in
    let bytes = p.1 ∙ sym q.1 in
    λ i. (number i, skip 3 (bytes i, tt))

pub bases_unpack_decided : Once 2 bases-unpack·kinds.ps bases-unpack·kinds.r bases-unpack.Post
bases_unpack_decided κs a x y v w p q =
    let number = p.0 ∙ sym q.0 in
    let bytes = p.1 ∙ sym q.1 in
    λ i. (number i, skip 3 (bytes i, tt))
