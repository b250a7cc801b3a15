-- For each exported function of bases that has refusals: where the number returned is not 0, every number given through a pointer is 0, but a store's length,
-- which is the old one, of a clear 0, and what is lent to be written is what it was.
-- Assumes nothing.
use mathlib.Core.Bool.{false}
use lib.IntN.{pos}
use lib.ListN.{replicate}
use Rattle.codes.proofs.Permitted.{Refuses, skip}
use Rattle.codes.proofs.RefusalLaws.{no_of, refused_keeps}
use Rattle.face.specs.Parts.{least_part, made_part, normalised_part, sliced_part}
use Rattle.fields.specs.Fields.{as_u128, as_u64, flipped_as_u128, flipped_as_u64, got}
use Rattle.order.specs.Order.{compared, found}
use Rattle.stores.specs.Stores.{after, answered, outcome}
use Rattle.streams.specs.Streams.{fill_after, fill_answer, fill_outcome, shaped, step_lanes, step_outcome}
use Rattle.views.specs.Views.{got_sliced}
use Rattle.abi.proofs.Returned.{returned}
use Rattle.abi.proofs.bases.pair.tsiv_bases_compare.Kinds as bases-compare·kinds
use Rattle.abi.proofs.bases.pair.tsiv_bases_compare.Reads as bases-compare
use Rattle.abi.proofs.bases.pair.tsiv_bases_find.Kinds as bases-find·kinds
use Rattle.abi.proofs.bases.pair.tsiv_bases_find.Reads as bases-find
use Rattle.abi.proofs.bases.pair.tsiv_bases_least.Kinds as bases-least·kinds
use Rattle.abi.proofs.bases.pair.tsiv_bases_least.Reads as bases-least
use Rattle.abi.proofs.bases.store.tsiv_bases_clear.Kinds as bases-clear·kinds
use Rattle.abi.proofs.bases.store.tsiv_bases_clear.Reads as bases-clear
use Rattle.abi.proofs.bases.store.tsiv_bases_push_ascii.Kinds as bases-push-ascii·kinds
use Rattle.abi.proofs.bases.store.tsiv_bases_push_ascii.Reads as bases-push-ascii
use Rattle.abi.proofs.bases.store.tsiv_bases_push_seq.Kinds as bases-push-seq·kinds
use Rattle.abi.proofs.bases.store.tsiv_bases_push_seq.Reads as bases-push-seq
use Rattle.abi.proofs.bases.store.tsiv_bases_overwrite.Kinds as bases-overwrite·kinds
use Rattle.abi.proofs.bases.store.tsiv_bases_overwrite.Reads as bases-overwrite
use Rattle.abi.proofs.bases.store.tsiv_bases_cut.Kinds as bases-cut·kinds
use Rattle.abi.proofs.bases.store.tsiv_bases_cut.Reads as bases-cut
use Rattle.abi.proofs.bases.stream.tsiv_bases_shape.Kinds as bases-shape·kinds
use Rattle.abi.proofs.bases.stream.tsiv_bases_shape.Reads as bases-shape
use Rattle.abi.proofs.bases.stream.tsiv_bases_fill.Kinds as bases-fill·kinds
use Rattle.abi.proofs.bases.stream.tsiv_bases_fill.Reads as bases-fill
use Rattle.abi.proofs.bases.stream.tsiv_bases_fill_delayed.Kinds as bases-fill-delayed·kinds
use Rattle.abi.proofs.bases.stream.tsiv_bases_fill_delayed.Reads as bases-fill-delayed
use Rattle.abi.proofs.bases.stream.tsiv_bases_fill_delayed_2.Kinds as bases-fill-delayed-2·kinds
use Rattle.abi.proofs.bases.stream.tsiv_bases_fill_delayed_2.Reads as bases-fill-delayed-2
use Rattle.abi.proofs.bases.stream.tsiv_bases_step.Kinds as bases-step·kinds
use Rattle.abi.proofs.bases.stream.tsiv_bases_step.Reads as bases-step
use Rattle.abi.proofs.bases.stream.tsiv_bases_step_delayed.Kinds as bases-step-delayed·kinds
use Rattle.abi.proofs.bases.stream.tsiv_bases_step_delayed.Reads as bases-step-delayed
use Rattle.abi.proofs.bases.stream.tsiv_bases_step_delayed_2.Kinds as bases-step-delayed-2·kinds
use Rattle.abi.proofs.bases.stream.tsiv_bases_step_delayed_2.Reads as bases-step-delayed-2
use Rattle.abi.proofs.bases.view.tsiv_bases_view.Kinds as bases-view·kinds
use Rattle.abi.proofs.bases.view.tsiv_bases_view.Reads as bases-view
use Rattle.abi.proofs.bases.view.tsiv_bases_slice.Kinds as bases-slice·kinds
use Rattle.abi.proofs.bases.view.tsiv_bases_slice.Reads as bases-slice
use Rattle.abi.proofs.bases.view.tsiv_bases_normalise.Kinds as bases-normalise·kinds
use Rattle.abi.proofs.bases.view.tsiv_bases_normalise.Reads as bases-normalise
use Rattle.abi.proofs.bases.view.tsiv_bases_get.Kinds as bases-get·kinds
use Rattle.abi.proofs.bases.view.tsiv_bases_get.Reads as bases-get
use Rattle.abi.proofs.bases.view.tsiv_bases_get_sliced.Kinds as bases-get-sliced·kinds
use Rattle.abi.proofs.bases.view.tsiv_bases_get_sliced.Reads as bases-get-sliced
use Rattle.abi.proofs.bases.view.tsiv_bases_as_u64.Kinds as bases-as-u64·kinds
use Rattle.abi.proofs.bases.view.tsiv_bases_as_u64.Reads as bases-as-u64
use Rattle.abi.proofs.bases.view.tsiv_bases_revcomp_as_u64.Kinds as bases-revcomp-as-u64·kinds
use Rattle.abi.proofs.bases.view.tsiv_bases_revcomp_as_u64.Reads as bases-revcomp-as-u64
use Rattle.abi.proofs.bases.view.tsiv_bases_as_u128.Kinds as bases-as-u128·kinds
use Rattle.abi.proofs.bases.view.tsiv_bases_as_u128.Reads as bases-as-u128
use Rattle.abi.proofs.bases.view.tsiv_bases_revcomp_as_u128.Kinds as bases-revcomp-as-u128·kinds
use Rattle.abi.proofs.bases.view.tsiv_bases_revcomp_as_u128.Reads as bases-revcomp-as-u128
use Rattle.abi.proofs.bases.view.tsiv_bases_to_revcomp.Kinds as bases-to-revcomp·kinds
use Rattle.abi.proofs.bases.view.tsiv_bases_to_revcomp.Reads as bases-to-revcomp
use Rattle.abi.proofs.bases.view.tsiv_bases_unpack.Kinds as bases-unpack·kinds
use Rattle.abi.proofs.bases.view.tsiv_bases_unpack.Reads as bases-unpack

pub bases_compare_refused : Refuses 4 bases-compare·kinds.ps bases-compare·kinds.r bases-compare.Post (λ κs. returned) (λ κs a. (tt, skip 6 (pos 0, (0, tt))))
unfolding compared
bases_compare_refused κs a x v p h = let n = rw (no_of p) at h in let e = simp refused_keeps at p in λ i. (tt, skip 6 ((e i).values.0, ((e i).values.1, tt)))

pub bases_find_refused : Refuses 4 bases-find·kinds.ps bases-find·kinds.r bases-find.Post (λ κs. returned) (λ κs a. (tt, skip 6 (false, (0, tt))))
unfolding found
bases_find_refused κs a x v p h = let n = rw (no_of p) at h in let e = simp refused_keeps at p in λ i. (tt, skip 6 ((e i).values.0, ((e i).values.1, tt)))

pub bases_least_refused : Refuses 7 bases-least·kinds.ps bases-least·kinds.r bases-least.Post (λ κs. returned) (λ κs a. (tt, skip 6 (false, (0, (0, (0, (0, tt)))))))
unfolding least_part
bases_least_refused κs a x v p h =
    let n = rw (no_of p) at h in let e = simp refused_keeps at p in λ i. (tt, skip 6 ((e i).values.0, ((e i).values.1.0, ((e i).values.1.1, ((e i).values.1.2, ((e i).values.1.3, tt))))))

pub bases_clear_refused : Refuses 2 bases-clear·kinds.ps bases-clear·kinds.r bases-clear.Post (λ κs. returned) (λ κs a. (tt, (a.0.now, (0, tt))))
unfolding answered outcome after
bases_clear_refused κs a x v p h = let n = rw (no_of p.0) at h in let e = simp refused_keeps at p in λ i. (tt, (e.1 i, ((e.0 i).values.2, tt)))

pub bases_push_ascii_refused : Refuses 5 bases-push-ascii·kinds.ps bases-push-ascii·kinds.r bases-push-ascii.Post (λ κs. returned) (λ κs a. (tt, (a.0.now, (a.1.0.now, skip 1 (0, (0, tt))))))
unfolding answered outcome after
bases_push_ascii_refused κs a x v p h =
    let n = rw (no_of p.0) at h in let e = simp refused_keeps at p in λ i. (tt, (e.1 i, ((e.0 i).values.2, skip 1 ((e.0 i).values.0, ((e.0 i).values.1, tt)))))

pub bases_push_seq_refused : Refuses 5 bases-push-seq·kinds.ps bases-push-seq·kinds.r bases-push-seq.Post (λ κs. returned) (λ κs a. (tt, (a.0.now, (a.1.0.now, skip 3 (0, (0, tt))))))
unfolding answered outcome after
bases_push_seq_refused κs a x v p h = let n = rw (no_of p.0) at h in let e = simp refused_keeps at p in λ i. (tt, (e.1 i, ((e.0 i).values.2, skip 3 ((e.0 i).values.0, ((e.0 i).values.1, tt)))))

pub bases_overwrite_refused : Refuses 3 bases-overwrite·kinds.ps bases-overwrite·kinds.r bases-overwrite.Post (λ κs. returned) (λ κs a. (tt, (a.0.now, (a.1.0.now, skip 2 tt))))
unfolding answered outcome after
bases_overwrite_refused κs a x v p h = let n = rw (no_of p.0) at h in let e = simp refused_keeps at p in λ i. (tt, (e.1 i, ((e.0 i).values.2, skip 2 tt)))

pub bases_cut_refused : Refuses 2 bases-cut·kinds.ps bases-cut·kinds.r bases-cut.Post (λ κs. returned) (λ κs a. (tt, (a.0.now, (a.1.0.now, skip 1 tt))))
unfolding answered outcome after
bases_cut_refused κs a x v p h = let n = rw (no_of p.0) at h in let e = simp refused_keeps at p in λ i. (tt, (e.1 i, ((e.0 i).values.2, skip 1 tt)))

pub bases_shape_refused : Refuses 3 bases-shape·kinds.ps bases-shape·kinds.r bases-shape.Post (λ κs. returned) (λ κs a. (tt, skip 3 (0, (0, (0, tt)))))
unfolding shaped
bases_shape_refused κs a x v p h = let n = rw (no_of p) at h in let e = simp refused_keeps at p in λ i. (tt, skip 3 ((e i).values.0, ((e i).values.1, ((e i).values.2, tt))))

pub bases_fill_refused : Refuses 4 bases-fill·kinds.ps bases-fill·kinds.r bases-fill.Post (λ κs. returned) (λ κs a. (tt, skip 5 (a.1.1.1.1.1.0.now, (0, (0, tt)))))
unfolding fill_answer fill_outcome fill_after
bases_fill_refused κs a x v p h = let n = rw (no_of p.0) at h in let e = simp refused_keeps at p in λ i. (tt, skip 5 (e.1 i, ((e.0 i).values.0, ((e.0 i).values.1, tt))))

pub bases_fill_delayed_refused : Refuses 5 bases-fill-delayed·kinds.ps bases-fill-delayed·kinds.r bases-fill-delayed.Post (λ κs. returned)
    (λ κs a. (tt, skip 6 (a.1.1.1.1.1.1.0.now, (a.1.1.1.1.1.1.1.0.now, (0, (0, tt))))))
unfolding fill_answer fill_outcome fill_after
bases_fill_delayed_refused κs a x v p h = let n = rw (no_of p.0) at h in let e = simp refused_keeps at p in λ i. (tt, skip 6 (e.1.0 i, (e.1.1 i, ((e.0 i).values.0, ((e.0 i).values.1, tt)))))

pub bases_fill_delayed_2_refused : Refuses 6 bases-fill-delayed-2·kinds.ps bases-fill-delayed-2·kinds.r bases-fill-delayed-2.Post (λ κs. returned)
    (λ κs a. (tt, skip 7 (a.1.1.1.1.1.1.1.0.now, (a.1.1.1.1.1.1.1.1.0.now, (a.1.1.1.1.1.1.1.1.1.0.now, (0, (0, tt)))))))
unfolding fill_answer fill_outcome fill_after
bases_fill_delayed_2_refused κs a x v p h =
    let n = rw (no_of p.0) at h in let e = simp refused_keeps at p in λ i. (tt, skip 7 (e.1.0 i, (e.1.1.0 i, (e.1.1.1 i, ((e.0 i).values.0, ((e.0 i).values.1, tt))))))

pub bases_step_refused : Refuses 2 bases-step·kinds.ps bases-step·kinds.r bases-step.Post (λ κs. returned) (λ κs a. (tt, skip 6 (replicate 8 0, tt)))
unfolding step_outcome step_lanes
bases_step_refused κs a x v p h = let n = rw p.0 at h in let e = simp refused_keeps at p in λ i. (tt, skip 6 (e.1 i, tt))

pub bases_step_delayed_refused : Refuses 3 bases-step-delayed·kinds.ps bases-step-delayed·kinds.r bases-step-delayed.Post (λ κs. returned) (λ κs a. (tt, skip 7 (replicate 8 0, (replicate 8 0, tt))))
unfolding step_outcome step_lanes
bases_step_delayed_refused κs a x v p h = let n = rw p.0 at h in let e = simp refused_keeps at p in λ i. (tt, skip 7 (e.1.0 i, (e.1.1 i, tt)))

pub bases_step_delayed_2_refused : Refuses 4 bases-step-delayed-2·kinds.ps bases-step-delayed-2·kinds.r bases-step-delayed-2.Post (λ κs. returned)
    (λ κs a. (tt, skip 8 (replicate 8 0, (replicate 8 0, (replicate 8 0, tt)))))
unfolding step_outcome step_lanes
bases_step_delayed_2_refused κs a x v p h = let n = rw p.0 at h in let e = simp refused_keeps at p in λ i. (tt, skip 8 (e.1.0 i, (e.1.1.0 i, (e.1.1.1 i, tt))))

pub bases_view_refused : Refuses 5 bases-view·kinds.ps bases-view·kinds.r bases-view.Post (λ κs. returned) (λ κs a. (tt, skip 3 (0, (0, (0, (0, tt))))))
unfolding made_part
bases_view_refused κs a x v p h = let n = rw (no_of p) at h in let e = simp refused_keeps at p in λ i. (tt, skip 3 ((e i).values.0, ((e i).values.1, ((e i).values.2, ((e i).values.3, tt)))))

pub bases_slice_refused : Refuses 5 bases-slice·kinds.ps bases-slice·kinds.r bases-slice.Post (λ κs. returned) (λ κs a. (tt, skip 5 (0, (0, (0, (0, tt))))))
unfolding sliced_part
bases_slice_refused κs a x v p h = let n = rw (no_of p) at h in let e = simp refused_keeps at p in λ i. (tt, skip 5 ((e i).values.0, ((e i).values.1, ((e i).values.2, ((e i).values.3, tt)))))

pub bases_normalise_refused : Refuses 5 bases-normalise·kinds.ps bases-normalise·kinds.r bases-normalise.Post (λ κs. returned) (λ κs a. (tt, skip 3 (0, (0, (0, (0, tt))))))
unfolding normalised_part
bases_normalise_refused κs a x v p h = let n = rw (no_of p) at h in let e = simp refused_keeps at p in λ i. (tt, skip 3 ((e i).values.0, ((e i).values.1, ((e i).values.2, ((e i).values.3, tt)))))

pub bases_get_refused : Refuses 2 bases-get·kinds.ps bases-get·kinds.r bases-get.Post (λ κs. returned) (λ κs a. (tt, skip 4 (0, tt)))
unfolding got
bases_get_refused κs a x v p h = let n = rw (no_of p) at h in let e = simp refused_keeps at p in λ i. (tt, skip 4 ((e i).values, tt))

pub bases_get_sliced_refused : Refuses 2 bases-get-sliced·kinds.ps bases-get-sliced·kinds.r bases-get-sliced.Post (λ κs. returned) (λ κs a. (tt, skip 6 (0, tt)))
unfolding got_sliced
bases_get_sliced_refused κs a x v p h = let n = rw (no_of p) at h in let e = simp refused_keeps at p in λ i. (tt, skip 6 ((e i).values, tt))

pub bases_as_u64_refused : Refuses 2 bases-as-u64·kinds.ps bases-as-u64·kinds.r bases-as-u64.Post (λ κs. returned) (λ κs a. (tt, skip 3 (0, tt)))
unfolding as_u64
bases_as_u64_refused κs a x v p h = let n = rw (no_of p) at h in let e = simp refused_keeps at p in λ i. (tt, skip 3 ((e i).values, tt))

pub bases_revcomp_as_u64_refused : Refuses 2 bases-revcomp-as-u64·kinds.ps bases-revcomp-as-u64·kinds.r bases-revcomp-as-u64.Post (λ κs. returned) (λ κs a. (tt, skip 3 (0, tt)))
unfolding flipped_as_u64
bases_revcomp_as_u64_refused κs a x v p h = let n = rw (no_of p) at h in let e = simp refused_keeps at p in λ i. (tt, skip 3 ((e i).values, tt))

pub bases_as_u128_refused : Refuses 3 bases-as-u128·kinds.ps bases-as-u128·kinds.r bases-as-u128.Post (λ κs. returned) (λ κs a. (tt, skip 3 (0, (0, tt))))
unfolding as_u128
bases_as_u128_refused κs a x v p h = let n = rw (no_of p) at h in let e = simp refused_keeps at p in λ i. (tt, skip 3 ((e i).values.0, ((e i).values.1, tt)))

pub bases_revcomp_as_u128_refused : Refuses 3 bases-revcomp-as-u128·kinds.ps bases-revcomp-as-u128·kinds.r bases-revcomp-as-u128.Post (λ κs. returned) (λ κs a. (tt, skip 3 (0, (0, tt))))
unfolding flipped_as_u128
bases_revcomp_as_u128_refused κs a x v p h = let n = rw (no_of p) at h in let e = simp refused_keeps at p in λ i. (tt, skip 3 ((e i).values.0, ((e i).values.1, tt)))

pub bases_to_revcomp_refused : Refuses 2 bases-to-revcomp·kinds.ps bases-to-revcomp·kinds.r bases-to-revcomp.Post (λ κs. returned) (λ κs a. (tt, skip 3 (a.1.1.1.0.now, tt)))
bases_to_revcomp_refused κs a x v p h = let n = rw p.0 at h in let e = simp refused_keeps at p in λ i. (tt, skip 3 (e.1 i, tt))

pub bases_unpack_refused : Refuses 2 bases-unpack·kinds.ps bases-unpack·kinds.r bases-unpack.Post (λ κs. returned) (λ κs a. (tt, skip 3 (a.1.1.1.0.now, tt)))
bases_unpack_refused κs a x v p h = let n = rw p.0 at h in let e = simp refused_keeps at p in λ i. (tt, skip 3 (e.1 i, tt))
