-- For each exported function of flags that has refusals: where the number returned is not 0, every number given through a pointer is 0, but a store's length,
-- which is the old one, of a clear 0, and what is lent to be written is what it was.
-- Assumes nothing.
use mathlib.Core.Bool.{false}
use lib.IntN.{pos}
use lib.ListN.{replicate}
use Rattle.codes.proofs.Permitted.{Refuses, skip}
use Rattle.codes.proofs.RefusalLaws.{no_of, refused_keeps}
use Rattle.face.specs.Parts.{least_part, made_part, normalised_part, sliced_part}
use Rattle.fields.specs.Fields.{as_u128, as_u64, flipped_as_u128, flipped_as_u64, got}
use Rattle.order.specs.Order.{compared, found}
use Rattle.stores.specs.Stores.{after, answered, outcome}
use Rattle.streams.specs.Streams.{fill_after, fill_answer, fill_outcome, shaped, step_lanes, step_outcome}
use Rattle.views.specs.Views.{got_sliced}
use Rattle.windows.specs.Windows.{run_answers, run_outcome, run_state, windows_after, windows_answer, windows_outcome}
use Rattle.abi.proofs.Returned.{returned}
use Rattle.abi.proofs.flags.pair.tsiv_flags_compare.Kinds as flags-compare·kinds
use Rattle.abi.proofs.flags.pair.tsiv_flags_compare.Reads as flags-compare
use Rattle.abi.proofs.flags.pair.tsiv_flags_find.Kinds as flags-find·kinds
use Rattle.abi.proofs.flags.pair.tsiv_flags_find.Reads as flags-find
use Rattle.abi.proofs.flags.pair.tsiv_flags_least.Kinds as flags-least·kinds
use Rattle.abi.proofs.flags.pair.tsiv_flags_least.Reads as flags-least
use Rattle.abi.proofs.flags.store.tsiv_flags_clear.Kinds as flags-clear·kinds
use Rattle.abi.proofs.flags.store.tsiv_flags_clear.Reads as flags-clear
use Rattle.abi.proofs.flags.store.tsiv_flags_push_ascii.Kinds as flags-push-ascii·kinds
use Rattle.abi.proofs.flags.store.tsiv_flags_push_ascii.Reads as flags-push-ascii
use Rattle.abi.proofs.flags.store.tsiv_flags_push_seq.Kinds as flags-push-seq·kinds
use Rattle.abi.proofs.flags.store.tsiv_flags_push_seq.Reads as flags-push-seq
use Rattle.abi.proofs.flags.store.tsiv_flags_overwrite.Kinds as flags-overwrite·kinds
use Rattle.abi.proofs.flags.store.tsiv_flags_overwrite.Reads as flags-overwrite
use Rattle.abi.proofs.flags.store.tsiv_flags_cut.Kinds as flags-cut·kinds
use Rattle.abi.proofs.flags.store.tsiv_flags_cut.Reads as flags-cut
use Rattle.abi.proofs.flags.stream.tsiv_flags_shape.Kinds as flags-shape·kinds
use Rattle.abi.proofs.flags.stream.tsiv_flags_shape.Reads as flags-shape
use Rattle.abi.proofs.flags.stream.tsiv_flags_fill.Kinds as flags-fill·kinds
use Rattle.abi.proofs.flags.stream.tsiv_flags_fill.Reads as flags-fill
use Rattle.abi.proofs.flags.stream.tsiv_flags_fill_delayed.Kinds as flags-fill-delayed·kinds
use Rattle.abi.proofs.flags.stream.tsiv_flags_fill_delayed.Reads as flags-fill-delayed
use Rattle.abi.proofs.flags.stream.tsiv_flags_fill_delayed_2.Kinds as flags-fill-delayed-2·kinds
use Rattle.abi.proofs.flags.stream.tsiv_flags_fill_delayed_2.Reads as flags-fill-delayed-2
use Rattle.abi.proofs.flags.stream.tsiv_flags_step.Kinds as flags-step·kinds
use Rattle.abi.proofs.flags.stream.tsiv_flags_step.Reads as flags-step
use Rattle.abi.proofs.flags.stream.tsiv_flags_step_delayed.Kinds as flags-step-delayed·kinds
use Rattle.abi.proofs.flags.stream.tsiv_flags_step_delayed.Reads as flags-step-delayed
use Rattle.abi.proofs.flags.stream.tsiv_flags_step_delayed_2.Kinds as flags-step-delayed-2·kinds
use Rattle.abi.proofs.flags.stream.tsiv_flags_step_delayed_2.Reads as flags-step-delayed-2
use Rattle.abi.proofs.flags.view.tsiv_flags_view.Kinds as flags-view·kinds
use Rattle.abi.proofs.flags.view.tsiv_flags_view.Reads as flags-view
use Rattle.abi.proofs.flags.view.tsiv_flags_slice.Kinds as flags-slice·kinds
use Rattle.abi.proofs.flags.view.tsiv_flags_slice.Reads as flags-slice
use Rattle.abi.proofs.flags.view.tsiv_flags_normalise.Kinds as flags-normalise·kinds
use Rattle.abi.proofs.flags.view.tsiv_flags_normalise.Reads as flags-normalise
use Rattle.abi.proofs.flags.view.tsiv_flags_get.Kinds as flags-get·kinds
use Rattle.abi.proofs.flags.view.tsiv_flags_get.Reads as flags-get
use Rattle.abi.proofs.flags.view.tsiv_flags_get_sliced.Kinds as flags-get-sliced·kinds
use Rattle.abi.proofs.flags.view.tsiv_flags_get_sliced.Reads as flags-get-sliced
use Rattle.abi.proofs.flags.view.tsiv_flags_as_u64.Kinds as flags-as-u64·kinds
use Rattle.abi.proofs.flags.view.tsiv_flags_as_u64.Reads as flags-as-u64
use Rattle.abi.proofs.flags.view.tsiv_flags_revcomp_as_u64.Kinds as flags-revcomp-as-u64·kinds
use Rattle.abi.proofs.flags.view.tsiv_flags_revcomp_as_u64.Reads as flags-revcomp-as-u64
use Rattle.abi.proofs.flags.view.tsiv_flags_as_u128.Kinds as flags-as-u128·kinds
use Rattle.abi.proofs.flags.view.tsiv_flags_as_u128.Reads as flags-as-u128
use Rattle.abi.proofs.flags.view.tsiv_flags_revcomp_as_u128.Kinds as flags-revcomp-as-u128·kinds
use Rattle.abi.proofs.flags.view.tsiv_flags_revcomp_as_u128.Reads as flags-revcomp-as-u128
use Rattle.abi.proofs.flags.view.tsiv_flags_to_revcomp.Kinds as flags-to-revcomp·kinds
use Rattle.abi.proofs.flags.view.tsiv_flags_to_revcomp.Reads as flags-to-revcomp
use Rattle.abi.proofs.flags.window.tsiv_flags_fill_windows.Kinds as flags-fill-windows·kinds
use Rattle.abi.proofs.flags.window.tsiv_flags_fill_windows.Reads as flags-fill-windows
use Rattle.abi.proofs.flags.window.tsiv_flags_step_windows.Kinds as flags-step-windows·kinds
use Rattle.abi.proofs.flags.window.tsiv_flags_step_windows.Reads as flags-step-windows

pub flags_compare_refused : Refuses 4 flags-compare·kinds.ps flags-compare·kinds.r flags-compare.Post (λ κs. returned) (λ κs a. (tt, skip 6 (pos 0, (0, tt))))
unfolding compared
flags_compare_refused κs a x v p h = let n = rw (no_of p) at h in let e = simp refused_keeps at p in λ i. (tt, skip 6 ((e i).values.0, ((e i).values.1, tt)))

pub flags_find_refused : Refuses 4 flags-find·kinds.ps flags-find·kinds.r flags-find.Post (λ κs. returned) (λ κs a. (tt, skip 6 (false, (0, tt))))
unfolding found
flags_find_refused κs a x v p h = let n = rw (no_of p) at h in let e = simp refused_keeps at p in λ i. (tt, skip 6 ((e i).values.0, ((e i).values.1, tt)))

pub flags_least_refused : Refuses 7 flags-least·kinds.ps flags-least·kinds.r flags-least.Post (λ κs. returned) (λ κs a. (tt, skip 6 (false, (0, (0, (0, (0, tt)))))))
unfolding least_part
flags_least_refused κs a x v p h =
    let n = rw (no_of p) at h in let e = simp refused_keeps at p in λ i. (tt, skip 6 ((e i).values.0, ((e i).values.1.0, ((e i).values.1.1, ((e i).values.1.2, ((e i).values.1.3, tt))))))

pub flags_clear_refused : Refuses 2 flags-clear·kinds.ps flags-clear·kinds.r flags-clear.Post (λ κs. returned) (λ κs a. (tt, (a.0.now, (0, tt))))
unfolding answered outcome after
flags_clear_refused κs a x v p h = let n = rw (no_of p.0) at h in let e = simp refused_keeps at p in λ i. (tt, (e.1 i, ((e.0 i).values.2, tt)))

pub flags_push_ascii_refused : Refuses 5 flags-push-ascii·kinds.ps flags-push-ascii·kinds.r flags-push-ascii.Post (λ κs. returned) (λ κs a. (tt, (a.0.now, (a.1.0.now, skip 1 (0, (0, tt))))))
unfolding answered outcome after
flags_push_ascii_refused κs a x v p h =
    let n = rw (no_of p.0) at h in let e = simp refused_keeps at p in λ i. (tt, (e.1 i, ((e.0 i).values.2, skip 1 ((e.0 i).values.0, ((e.0 i).values.1, tt)))))

pub flags_push_seq_refused : Refuses 5 flags-push-seq·kinds.ps flags-push-seq·kinds.r flags-push-seq.Post (λ κs. returned) (λ κs a. (tt, (a.0.now, (a.1.0.now, skip 3 (0, (0, tt))))))
unfolding answered outcome after
flags_push_seq_refused κs a x v p h = let n = rw (no_of p.0) at h in let e = simp refused_keeps at p in λ i. (tt, (e.1 i, ((e.0 i).values.2, skip 3 ((e.0 i).values.0, ((e.0 i).values.1, tt)))))

pub flags_overwrite_refused : Refuses 3 flags-overwrite·kinds.ps flags-overwrite·kinds.r flags-overwrite.Post (λ κs. returned) (λ κs a. (tt, (a.0.now, (a.1.0.now, skip 2 tt))))
unfolding answered outcome after
flags_overwrite_refused κs a x v p h = let n = rw (no_of p.0) at h in let e = simp refused_keeps at p in λ i. (tt, (e.1 i, ((e.0 i).values.2, skip 2 tt)))

pub flags_cut_refused : Refuses 2 flags-cut·kinds.ps flags-cut·kinds.r flags-cut.Post (λ κs. returned) (λ κs a. (tt, (a.0.now, (a.1.0.now, skip 1 tt))))
unfolding answered outcome after
flags_cut_refused κs a x v p h = let n = rw (no_of p.0) at h in let e = simp refused_keeps at p in λ i. (tt, (e.1 i, ((e.0 i).values.2, skip 1 tt)))

pub flags_shape_refused : Refuses 3 flags-shape·kinds.ps flags-shape·kinds.r flags-shape.Post (λ κs. returned) (λ κs a. (tt, skip 3 (0, (0, (0, tt)))))
unfolding shaped
flags_shape_refused κs a x v p h = let n = rw (no_of p) at h in let e = simp refused_keeps at p in λ i. (tt, skip 3 ((e i).values.0, ((e i).values.1, ((e i).values.2, tt))))

pub flags_fill_refused : Refuses 4 flags-fill·kinds.ps flags-fill·kinds.r flags-fill.Post (λ κs. returned) (λ κs a. (tt, skip 5 (a.1.1.1.1.1.0.now, (0, (0, tt)))))
unfolding fill_answer fill_outcome fill_after
flags_fill_refused κs a x v p h = let n = rw (no_of p.0) at h in let e = simp refused_keeps at p in λ i. (tt, skip 5 (e.1 i, ((e.0 i).values.0, ((e.0 i).values.1, tt))))

pub flags_fill_delayed_refused : Refuses 5 flags-fill-delayed·kinds.ps flags-fill-delayed·kinds.r flags-fill-delayed.Post (λ κs. returned)
    (λ κs a. (tt, skip 6 (a.1.1.1.1.1.1.0.now, (a.1.1.1.1.1.1.1.0.now, (0, (0, tt))))))
unfolding fill_answer fill_outcome fill_after
flags_fill_delayed_refused κs a x v p h = let n = rw (no_of p.0) at h in let e = simp refused_keeps at p in λ i. (tt, skip 6 (e.1.0 i, (e.1.1 i, ((e.0 i).values.0, ((e.0 i).values.1, tt)))))

pub flags_fill_delayed_2_refused : Refuses 6 flags-fill-delayed-2·kinds.ps flags-fill-delayed-2·kinds.r flags-fill-delayed-2.Post (λ κs. returned)
    (λ κs a. (tt, skip 7 (a.1.1.1.1.1.1.1.0.now, (a.1.1.1.1.1.1.1.1.0.now, (a.1.1.1.1.1.1.1.1.1.0.now, (0, (0, tt)))))))
unfolding fill_answer fill_outcome fill_after
flags_fill_delayed_2_refused κs a x v p h =
    let n = rw (no_of p.0) at h in let e = simp refused_keeps at p in λ i. (tt, skip 7 (e.1.0 i, (e.1.1.0 i, (e.1.1.1 i, ((e.0 i).values.0, ((e.0 i).values.1, tt))))))

pub flags_step_refused : Refuses 2 flags-step·kinds.ps flags-step·kinds.r flags-step.Post (λ κs. returned) (λ κs a. (tt, skip 6 (replicate 8 0, tt)))
unfolding step_outcome step_lanes
flags_step_refused κs a x v p h = let n = rw p.0 at h in let e = simp refused_keeps at p in λ i. (tt, skip 6 (e.1 i, tt))

pub flags_step_delayed_refused : Refuses 3 flags-step-delayed·kinds.ps flags-step-delayed·kinds.r flags-step-delayed.Post (λ κs. returned) (λ κs a. (tt, skip 7 (replicate 8 0, (replicate 8 0, tt))))
unfolding step_outcome step_lanes
flags_step_delayed_refused κs a x v p h = let n = rw p.0 at h in let e = simp refused_keeps at p in λ i. (tt, skip 7 (e.1.0 i, (e.1.1 i, tt)))

pub flags_step_delayed_2_refused : Refuses 4 flags-step-delayed-2·kinds.ps flags-step-delayed-2·kinds.r flags-step-delayed-2.Post (λ κs. returned)
    (λ κs a. (tt, skip 8 (replicate 8 0, (replicate 8 0, (replicate 8 0, tt)))))
unfolding step_outcome step_lanes
flags_step_delayed_2_refused κs a x v p h = let n = rw p.0 at h in let e = simp refused_keeps at p in λ i. (tt, skip 8 (e.1.0 i, (e.1.1.0 i, (e.1.1.1 i, tt))))

pub flags_view_refused : Refuses 5 flags-view·kinds.ps flags-view·kinds.r flags-view.Post (λ κs. returned) (λ κs a. (tt, skip 3 (0, (0, (0, (0, tt))))))
unfolding made_part
flags_view_refused κs a x v p h = let n = rw (no_of p) at h in let e = simp refused_keeps at p in λ i. (tt, skip 3 ((e i).values.0, ((e i).values.1, ((e i).values.2, ((e i).values.3, tt)))))

pub flags_slice_refused : Refuses 5 flags-slice·kinds.ps flags-slice·kinds.r flags-slice.Post (λ κs. returned) (λ κs a. (tt, skip 5 (0, (0, (0, (0, tt))))))
unfolding sliced_part
flags_slice_refused κs a x v p h = let n = rw (no_of p) at h in let e = simp refused_keeps at p in λ i. (tt, skip 5 ((e i).values.0, ((e i).values.1, ((e i).values.2, ((e i).values.3, tt)))))

pub flags_normalise_refused : Refuses 5 flags-normalise·kinds.ps flags-normalise·kinds.r flags-normalise.Post (λ κs. returned) (λ κs a. (tt, skip 3 (0, (0, (0, (0, tt))))))
unfolding normalised_part
flags_normalise_refused κs a x v p h = let n = rw (no_of p) at h in let e = simp refused_keeps at p in λ i. (tt, skip 3 ((e i).values.0, ((e i).values.1, ((e i).values.2, ((e i).values.3, tt)))))

pub flags_get_refused : Refuses 2 flags-get·kinds.ps flags-get·kinds.r flags-get.Post (λ κs. returned) (λ κs a. (tt, skip 4 (0, tt)))
unfolding got
flags_get_refused κs a x v p h = let n = rw (no_of p) at h in let e = simp refused_keeps at p in λ i. (tt, skip 4 ((e i).values, tt))

pub flags_get_sliced_refused : Refuses 2 flags-get-sliced·kinds.ps flags-get-sliced·kinds.r flags-get-sliced.Post (λ κs. returned) (λ κs a. (tt, skip 6 (0, tt)))
unfolding got_sliced
flags_get_sliced_refused κs a x v p h = let n = rw (no_of p) at h in let e = simp refused_keeps at p in λ i. (tt, skip 6 ((e i).values, tt))

pub flags_as_u64_refused : Refuses 2 flags-as-u64·kinds.ps flags-as-u64·kinds.r flags-as-u64.Post (λ κs. returned) (λ κs a. (tt, skip 3 (0, tt)))
unfolding as_u64
flags_as_u64_refused κs a x v p h = let n = rw (no_of p) at h in let e = simp refused_keeps at p in λ i. (tt, skip 3 ((e i).values, tt))

pub flags_revcomp_as_u64_refused : Refuses 2 flags-revcomp-as-u64·kinds.ps flags-revcomp-as-u64·kinds.r flags-revcomp-as-u64.Post (λ κs. returned) (λ κs a. (tt, skip 3 (0, tt)))
unfolding flipped_as_u64
flags_revcomp_as_u64_refused κs a x v p h = let n = rw (no_of p) at h in let e = simp refused_keeps at p in λ i. (tt, skip 3 ((e i).values, tt))

pub flags_as_u128_refused : Refuses 3 flags-as-u128·kinds.ps flags-as-u128·kinds.r flags-as-u128.Post (λ κs. returned) (λ κs a. (tt, skip 3 (0, (0, tt))))
unfolding as_u128
flags_as_u128_refused κs a x v p h = let n = rw (no_of p) at h in let e = simp refused_keeps at p in λ i. (tt, skip 3 ((e i).values.0, ((e i).values.1, tt)))

pub flags_revcomp_as_u128_refused : Refuses 3 flags-revcomp-as-u128·kinds.ps flags-revcomp-as-u128·kinds.r flags-revcomp-as-u128.Post (λ κs. returned) (λ κs a. (tt, skip 3 (0, (0, tt))))
unfolding flipped_as_u128
flags_revcomp_as_u128_refused κs a x v p h = let n = rw (no_of p) at h in let e = simp refused_keeps at p in λ i. (tt, skip 3 ((e i).values.0, ((e i).values.1, tt)))

pub flags_to_revcomp_refused : Refuses 2 flags-to-revcomp·kinds.ps flags-to-revcomp·kinds.r flags-to-revcomp.Post (λ κs. returned) (λ κs a. (tt, skip 3 (a.1.1.1.0.now, tt)))
flags_to_revcomp_refused κs a x v p h = let n = rw p.0 at h in let e = simp refused_keeps at p in λ i. (tt, skip 3 (e.1 i, tt))

pub flags_fill_windows_refused : Refuses 4 flags-fill-windows·kinds.ps flags-fill-windows·kinds.r flags-fill-windows.Post (λ κs. returned)
    (λ κs a. (tt, skip 6 (a.1.1.1.1.1.1.0.now, (0, (0, tt)))))
unfolding windows_answer windows_outcome windows_after
flags_fill_windows_refused κs a x v p h = let n = rw (no_of p.0) at h in let e = simp refused_keeps at p in λ i. (tt, skip 6 (e.1 i, ((e.0 i).values.0, ((e.0 i).values.1, tt))))

pub flags_step_windows_refused : Refuses 4 flags-step-windows·kinds.ps flags-step-windows·kinds.r flags-step-windows.Post (λ κs. returned)
    (λ κs a. (tt, skip 5 (replicate 8 0, (0, (replicate 8 0, tt)))))
unfolding run_outcome run_answers run_state
flags_step_windows_refused κs a x v p h = let n = rw p.0 at h in let e = simp refused_keeps at p in λ i. (tt, skip 5 ((e.1.1 i).counts, ((e.1.1 i).at, (e.1.0 i, tt))))
