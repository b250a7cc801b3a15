-- For each exported function of flags: any two permitted outcomes coincide, in what is returned and in all that is lent to be written.
-- Assumes nothing.
use mathlib.Core.Path.{sym, ◌∙◌}
use Rattle.codes.proofs.Permitted.{Once, skip}
use Rattle.abi.proofs.flags.pair.tsiv_flags_compare.Kinds as flags-compare·kinds
use Rattle.abi.proofs.flags.pair.tsiv_flags_compare.Reads as flags-compare
use Rattle.abi.proofs.flags.pair.tsiv_flags_find.Kinds as flags-find·kinds
use Rattle.abi.proofs.flags.pair.tsiv_flags_find.Reads as flags-find
use Rattle.abi.proofs.flags.pair.tsiv_flags_least.Kinds as flags-least·kinds
use Rattle.abi.proofs.flags.pair.tsiv_flags_least.Reads as flags-least
use Rattle.abi.proofs.flags.store.tsiv_flags_clear.Kinds as flags-clear·kinds
use Rattle.abi.proofs.flags.store.tsiv_flags_clear.Reads as flags-clear
use Rattle.abi.proofs.flags.store.tsiv_flags_push_ascii.Kinds as flags-push-ascii·kinds
use Rattle.abi.proofs.flags.store.tsiv_flags_push_ascii.Reads as flags-push-ascii
use Rattle.abi.proofs.flags.store.tsiv_flags_push_seq.Kinds as flags-push-seq·kinds
use Rattle.abi.proofs.flags.store.tsiv_flags_push_seq.Reads as flags-push-seq
use Rattle.abi.proofs.flags.store.tsiv_flags_overwrite.Kinds as flags-overwrite·kinds
use Rattle.abi.proofs.flags.store.tsiv_flags_overwrite.Reads as flags-overwrite
use Rattle.abi.proofs.flags.store.tsiv_flags_cut.Kinds as flags-cut·kinds
use Rattle.abi.proofs.flags.store.tsiv_flags_cut.Reads as flags-cut
use Rattle.abi.proofs.flags.stream.tsiv_flags_shape.Kinds as flags-shape·kinds
use Rattle.abi.proofs.flags.stream.tsiv_flags_shape.Reads as flags-shape
use Rattle.abi.proofs.flags.stream.tsiv_flags_fill.Kinds as flags-fill·kinds
use Rattle.abi.proofs.flags.stream.tsiv_flags_fill.Reads as flags-fill
use Rattle.abi.proofs.flags.stream.tsiv_flags_fill_delayed.Kinds as flags-fill-delayed·kinds
use Rattle.abi.proofs.flags.stream.tsiv_flags_fill_delayed.Reads as flags-fill-delayed
use Rattle.abi.proofs.flags.stream.tsiv_flags_fill_delayed_2.Kinds as flags-fill-delayed-2·kinds
use Rattle.abi.proofs.flags.stream.tsiv_flags_fill_delayed_2.Reads as flags-fill-delayed-2
use Rattle.abi.proofs.flags.stream.tsiv_flags_step.Kinds as flags-step·kinds
use Rattle.abi.proofs.flags.stream.tsiv_flags_step.Reads as flags-step
use Rattle.abi.proofs.flags.stream.tsiv_flags_step_delayed.Kinds as flags-step-delayed·kinds
use Rattle.abi.proofs.flags.stream.tsiv_flags_step_delayed.Reads as flags-step-delayed
use Rattle.abi.proofs.flags.stream.tsiv_flags_step_delayed_2.Kinds as flags-step-delayed-2·kinds
use Rattle.abi.proofs.flags.stream.tsiv_flags_step_delayed_2.Reads as flags-step-delayed-2
use Rattle.abi.proofs.flags.view.tsiv_flags_view.Kinds as flags-view·kinds
use Rattle.abi.proofs.flags.view.tsiv_flags_view.Reads as flags-view
use Rattle.abi.proofs.flags.view.tsiv_flags_slice.Kinds as flags-slice·kinds
use Rattle.abi.proofs.flags.view.tsiv_flags_slice.Reads as flags-slice
use Rattle.abi.proofs.flags.view.tsiv_flags_normalise.Kinds as flags-normalise·kinds
use Rattle.abi.proofs.flags.view.tsiv_flags_normalise.Reads as flags-normalise
use Rattle.abi.proofs.flags.view.tsiv_flags_get.Kinds as flags-get·kinds
use Rattle.abi.proofs.flags.view.tsiv_flags_get.Reads as flags-get
use Rattle.abi.proofs.flags.view.tsiv_flags_get_sliced.Kinds as flags-get-sliced·kinds
use Rattle.abi.proofs.flags.view.tsiv_flags_get_sliced.Reads as flags-get-sliced
use Rattle.abi.proofs.flags.view.tsiv_flags_as_u64.Kinds as flags-as-u64·kinds
use Rattle.abi.proofs.flags.view.tsiv_flags_as_u64.Reads as flags-as-u64
use Rattle.abi.proofs.flags.view.tsiv_flags_revcomp_as_u64.Kinds as flags-revcomp-as-u64·kinds
use Rattle.abi.proofs.flags.view.tsiv_flags_revcomp_as_u64.Reads as flags-revcomp-as-u64
use Rattle.abi.proofs.flags.view.tsiv_flags_as_u128.Kinds as flags-as-u128·kinds
use Rattle.abi.proofs.flags.view.tsiv_flags_as_u128.Reads as flags-as-u128
use Rattle.abi.proofs.flags.view.tsiv_flags_revcomp_as_u128.Kinds as flags-revcomp-as-u128·kinds
use Rattle.abi.proofs.flags.view.tsiv_flags_revcomp_as_u128.Reads as flags-revcomp-as-u128
use Rattle.abi.proofs.flags.view.tsiv_flags_to_revcomp.Kinds as flags-to-revcomp·kinds
use Rattle.abi.proofs.flags.view.tsiv_flags_to_revcomp.Reads as flags-to-revcomp
use Rattle.abi.proofs.flags.window.tsiv_flags_fill_windows.Kinds as flags-fill-windows·kinds
use Rattle.abi.proofs.flags.window.tsiv_flags_fill_windows.Reads as flags-fill-windows
use Rattle.abi.proofs.flags.window.tsiv_flags_step_windows.Kinds as flags-step-windows·kinds
use Rattle.abi.proofs.flags.window.tsiv_flags_step_windows.Reads as flags-step-windows

pub flags_compare_decided : Once 4 flags-compare·kinds.ps flags-compare·kinds.r flags-compare.Post
flags_compare_decided κs a x y v w p q = let e = p ∙ sym q in λ i. ((e i).no, skip 6 ((e i).values.0, ((e i).values.1, tt)))

pub flags_find_decided : Once 4 flags-find·kinds.ps flags-find·kinds.r flags-find.Post
flags_find_decided κs a x y v w p q = let e = p ∙ sym q in λ i. ((e i).no, skip 6 ((e i).values.0, ((e i).values.1, tt)))

pub flags_least_decided : Once 7 flags-least·kinds.ps flags-least·kinds.r flags-least.Post
flags_least_decided κs a x y v w p q = let e = p ∙ sym q in λ i. ((e i).no, skip 6 ((e i).values.0, ((e i).values.1.0, ((e i).values.1.1, ((e i).values.1.2, ((e i).values.1.3, tt))))))

pub flags_clear_decided : Once 2 flags-clear·kinds.ps flags-clear·kinds.r flags-clear.Post
flags_clear_decided κs a x y v w p q =
    let says = p.0 ∙ sym q.0 in
    let bytes = p.1 ∙ sym q.1 in
    λ i. ((says i).no, (bytes i, ((says i).values.2, tt)))

pub flags_push_ascii_decided : Once 5 flags-push-ascii·kinds.ps flags-push-ascii·kinds.r flags-push-ascii.Post
flags_push_ascii_decided κs a x y v w p q =
    let says = p.0 ∙ sym q.0 in
    let bytes = p.1 ∙ sym q.1 in
    λ i. ((says i).no, (bytes i, ((says i).values.2, skip 1 ((says i).values.0, ((says i).values.1, tt)))))

pub flags_push_seq_decided : Once 5 flags-push-seq·kinds.ps flags-push-seq·kinds.r flags-push-seq.Post
flags_push_seq_decided κs a x y v w p q =
    let says = p.0 ∙ sym q.0 in
    let bytes = p.1 ∙ sym q.1 in
    λ i. ((says i).no, (bytes i, ((says i).values.2, skip 3 ((says i).values.0, ((says i).values.1, tt)))))

pub flags_overwrite_decided : Once 3 flags-overwrite·kinds.ps flags-overwrite·kinds.r flags-overwrite.Post
flags_overwrite_decided κs a x y v w p q =
    let says = p.0 ∙ sym q.0 in
    let bytes = p.1 ∙ sym q.1 in
    λ i. ((says i).no, (bytes i, ((says i).values.2, skip 2 tt)))

pub flags_cut_decided : Once 2 flags-cut·kinds.ps flags-cut·kinds.r flags-cut.Post
flags_cut_decided κs a x y v w p q =
    let says = p.0 ∙ sym q.0 in
    let bytes = p.1 ∙ sym q.1 in
    λ i. ((says i).no, (bytes i, ((says i).values.2, skip 1 tt)))

pub flags_shape_decided : Once 3 flags-shape·kinds.ps flags-shape·kinds.r flags-shape.Post
flags_shape_decided κs a x y v w p q = let e = p ∙ sym q in λ i. ((e i).no, skip 3 ((e i).values.0, ((e i).values.1, ((e i).values.2, tt))))

pub flags_fill_decided : Once 4 flags-fill·kinds.ps flags-fill·kinds.r flags-fill.Post
flags_fill_decided κs a x y v w p q =
    let answer = p.0 ∙ sym q.0 in
    let out = p.1 ∙ sym q.1 in
    λ i. ((answer i).no, skip 5 (out i, ((answer i).values.0, ((answer i).values.1, tt))))

pub flags_fill_delayed_decided : Once 5 flags-fill-delayed·kinds.ps flags-fill-delayed·kinds.r flags-fill-delayed.Post
flags_fill_delayed_decided κs a x y v w p q =
    let answer = p.0 ∙ sym q.0 in
    let out = p.1.0 ∙ sym q.1.0 in
    let delayed = p.1.1 ∙ sym q.1.1 in
    λ i. ((answer i).no, skip 6 (out i, (delayed i, ((answer i).values.0, ((answer i).values.1, tt)))))

pub flags_fill_delayed_2_decided : Once 6 flags-fill-delayed-2·kinds.ps flags-fill-delayed-2·kinds.r flags-fill-delayed-2.Post
flags_fill_delayed_2_decided κs a x y v w p q =
    let answer = p.0 ∙ sym q.0 in
    let out = p.1.0 ∙ sym q.1.0 in
    let out1 = p.1.1.0 ∙ sym q.1.1.0 in
    let out2 = p.1.1.1 ∙ sym q.1.1.1 in
    λ i. ((answer i).no, skip 7 (out i, (out1 i, (out2 i, ((answer i).values.0, ((answer i).values.1, tt))))))

pub flags_step_decided : Once 2 flags-step·kinds.ps flags-step·kinds.r flags-step.Post
flags_step_decided κs a x y v w p q =
    let number = p.0 ∙ sym q.0 in
    let lanes = p.1 ∙ sym q.1 in
    λ i. (number i, skip 6 (lanes i, tt))

pub flags_step_delayed_decided : Once 3 flags-step-delayed·kinds.ps flags-step-delayed·kinds.r flags-step-delayed.Post
flags_step_delayed_decided κs a x y v w p q =
    let number = p.0 ∙ sym q.0 in
    let lanes = p.1.0 ∙ sym q.1.0 in
    let lanes1 = p.1.1 ∙ sym q.1.1 in
    λ i. (number i, skip 7 (lanes i, (lanes1 i, tt)))

pub flags_step_delayed_2_decided : Once 4 flags-step-delayed-2·kinds.ps flags-step-delayed-2·kinds.r flags-step-delayed-2.Post
flags_step_delayed_2_decided κs a x y v w p q =
    let number = p.0 ∙ sym q.0 in
    let lanes = p.1.0 ∙ sym q.1.0 in
    let lanes1 = p.1.1.0 ∙ sym q.1.1.0 in
    let lanes2 = p.1.1.1 ∙ sym q.1.1.1 in
    λ i. (number i, skip 8 (lanes i, (lanes1 i, (lanes2 i, tt))))

pub flags_view_decided : Once 5 flags-view·kinds.ps flags-view·kinds.r flags-view.Post
flags_view_decided κs a x y v w p q = let e = p ∙ sym q in λ i. ((e i).no, skip 3 ((e i).values.0, ((e i).values.1, ((e i).values.2, ((e i).values.3, tt)))))

pub flags_slice_decided : Once 5 flags-slice·kinds.ps flags-slice·kinds.r flags-slice.Post
flags_slice_decided κs a x y v w p q = let e = p ∙ sym q in λ i. ((e i).no, skip 5 ((e i).values.0, ((e i).values.1, ((e i).values.2, ((e i).values.3, tt)))))

pub flags_normalise_decided : Once 5 flags-normalise·kinds.ps flags-normalise·kinds.r flags-normalise.Post
flags_normalise_decided κs a x y v w p q = let e = p ∙ sym q in λ i. ((e i).no, skip 3 ((e i).values.0, ((e i).values.1, ((e i).values.2, ((e i).values.3, tt)))))

pub flags_get_decided : Once 2 flags-get·kinds.ps flags-get·kinds.r flags-get.Post
flags_get_decided κs a x y v w p q = let e = p ∙ sym q in λ i. ((e i).no, skip 4 ((e i).values, tt))

pub flags_get_sliced_decided : Once 2 flags-get-sliced·kinds.ps flags-get-sliced·kinds.r flags-get-sliced.Post
flags_get_sliced_decided κs a x y v w p q = let e = p ∙ sym q in λ i. ((e i).no, skip 6 ((e i).values, tt))

pub flags_as_u64_decided : Once 2 flags-as-u64·kinds.ps flags-as-u64·kinds.r flags-as-u64.Post
flags_as_u64_decided κs a x y v w p q = let e = p ∙ sym q in λ i. ((e i).no, skip 3 ((e i).values, tt))

pub flags_revcomp_as_u64_decided : Once 2 flags-revcomp-as-u64·kinds.ps flags-revcomp-as-u64·kinds.r flags-revcomp-as-u64.Post
flags_revcomp_as_u64_decided κs a x y v w p q = let e = p ∙ sym q in λ i. ((e i).no, skip 3 ((e i).values, tt))

pub flags_as_u128_decided : Once 3 flags-as-u128·kinds.ps flags-as-u128·kinds.r flags-as-u128.Post
flags_as_u128_decided κs a x y v w p q = let e = p ∙ sym q in λ i. ((e i).no, skip 3 ((e i).values.0, ((e i).values.1, tt)))

pub flags_revcomp_as_u128_decided : Once 3 flags-revcomp-as-u128·kinds.ps flags-revcomp-as-u128·kinds.r flags-revcomp-as-u128.Post
flags_revcomp_as_u128_decided κs a x y v w p q = let e = p ∙ sym q in λ i. ((e i).no, skip 3 ((e i).values.0, ((e i).values.1, tt)))

pub flags_to_revcomp_decided : Once 2 flags-to-revcomp·kinds.ps flags-to-revcomp·kinds.r flags-to-revcomp.Post
flags_to_revcomp_decided κs a x y v w p q =
    let number = p.0 ∙ sym q.0 in
    let bytes = p.1 ∙ sym q.1 in
    λ i. (number i, skip 3 (bytes i, tt))

pub flags_fill_windows_decided : Once 4 flags-fill-windows·kinds.ps flags-fill-windows·kinds.r flags-fill-windows.Post
flags_fill_windows_decided κs a x y v w p q =
    let answer = p.0 ∙ sym q.0 in
    let out = p.1 ∙ sym q.1 in
    λ i. ((answer i).no, skip 6 (out i, ((answer i).values.0, ((answer i).values.1, tt))))

pub flags_step_windows_decided : Once 4 flags-step-windows·kinds.ps flags-step-windows·kinds.r flags-step-windows.Post
flags_step_windows_decided κs a x y v w p q =
    let number = p.0 ∙ sym q.0 in
    let answers = p.1.0 ∙ sym q.1.0 in
    let state = p.1.1 ∙ sym q.1.1 in
    λ i. (number i, skip 5 ((state i).counts, ((state i).at, (answers i, tt))))
