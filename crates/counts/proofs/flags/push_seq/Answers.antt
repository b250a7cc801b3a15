-- The ways out: refused as the plain call is, too few entries, or done, and the blocks that it touches are counted. Assumes nothing.
use Rattle.std.specs.Prelude.{Ok}
use mathlib.Core.Path.{◌≡◌, refl, sym, ap₂, ◌∙◌}
use Prim.Native.Nat.{ℕ, ◌+◌, ◌^◌, ◌≤◌}
use native.Mathlib.Omega.{arith}
use borrow.Author.Tests.{ltb-false}
use lib.ListN.{length}
use Rattle.codes.specs.Codes.{chars, up, trailing}
use Rattle.runs.specs.Runs.{seq_start}
use Rattle.stores.specs.Stores.{push_seq, outcome}
use Rattle.stores.proofs.CallLaws.{was_refused, was_done}
use borrow.Author.Rules.{rules}
use Rattle.counts.specs.Blocks.{blocks, recounted}
use Rattle.counts.specs.Counts.{new_flags}
use Rattle.counts.proofs.CallLaws.{plain_refused, plain-few, enough_of, left_refused, left_done, plain-passed, plain-room}
use Rattle.counts.proofs.TouchLaws.{touched-seq}
use Rattle.counts.proofs.flags.push_seq.Goals.{After-count, After-seq_outcome-outcome, In_ok-map_err, In_ok-map_err-2}
use Rattle.counts.proofs.flags.push_seq.Goals as goal

judged : (c : After-seq_outcome-outcome)
    → let a = c.args in c.seq_outcome-outcome.result ≡ outcome 1 (length a.buffer.now) a.len.0 (push_seq a.bytes.now a.offset.0 a.count.0)
unfolding outcome
judged c = c.seq_outcome-outcome.ensures

done : (c : In_ok-map_err) → let a = c.args in outcome 1 (length a.buffer.now) a.len.0 (push_seq a.bytes.now a.offset.0 a.count.0) ≡ Ok tt
done c = sym (judged (goal.at.In_ok-map_err c).After-seq_outcome-outcome) ∙ was_done c.seq_outcome-outcome.result _ c.in_ok-map_err.ensures.cases

-- what is known where the plain call is done
module _ (c : In_ok-map_err) where
  room : (length c.args.buffer.now ≤ 2 ^ 28) × (up 1 (seq_start 1 c.args.len.0 c.args.offset.0 + c.args.count.0) + trailing ≤ length c.args.buffer.now)
  room = plain-room c.args.buffer.now c.args.len.0 (push_seq c.args.bytes.now c.args.offset.0 c.args.count.0) (done c)

  sound : up 1 c.args.len.0 + trailing ≤ length c.args.buffer.now
  sound =
      ltb-false (length c.args.buffer.now) (up 1 c.args.len.0 + trailing)
      (plain-passed c.args.buffer.now c.args.len.0 (push_seq c.args.bytes.now c.args.offset.0 c.args.count.0) (done c)).1.1.0

end_is : (c : After-count) → let a = c.args in c.seq_start-start.result + c.count.result ≡ seq_start 1 a.len.0 a.offset.0 + a.count.0
end_is c = ap₂ (λ (x y : ℕ). x + y) c.seq_start-start.ensures c.count.ensures

enough : (c : In_ok-map_err-2) → let a = c.args in blocks (seq_start 1 a.len.0 a.offset.0 + a.count.0) ≤ length a.entries.now
enough c = enough_of _ _ (end_is (goal.at.In_ok-map_err-2 c).After-count) c.room_for-room.ensures (was_done c.room_for-room.result _ c.in_ok-map_err-2.ensures.cases)

pub returns-in_err-map_err : goal.returns-in_err-map_err
returns-in_err-map_err c =
    let a = c.args in
    let u = c.in_err-map_err.field-0.0 in
    let r = was_refused c.seq_outcome-outcome.result u c.in_err-map_err.ensures.cases in
    let e : u ≡ record { refusal = r.0; len = a.len } = search rules in
    let q = left_refused a.buffer.now a.len.0 a.entries.now (push_seq a.bytes.now a.offset.0 a.count.0) _ u _ _
    (plain_refused a.buffer.now a.len.0 a.entries.now (push_seq a.bytes.now a.offset.0 a.count.0) r.0 (sym (judged (goal.at.returns-in_err-map_err c).After-seq_outcome-outcome) ∙ r.1)) e refl c.from_residual.ensures.1 in
    record { says = q.0; bytes = q.1.0; entries = q.1.1 }

pub seq_start-start-requires : goal.seq_start-start-requires
seq_start-start-requires c = omega (arith, (room (goal.at.seq_start-start-requires c).In_ok-map_err).0, sound (goal.at.seq_start-start-requires c).In_ok-map_err)

pub overflow_add-end : goal.overflow_add-end
overflow_add-end c =
    omega (arith, end_is c, (room (goal.at.overflow_add-end c).In_ok-map_err).0, (room (goal.at.overflow_add-end c).In_ok-map_err).1)

pub returns-in_err-map_err-2 : goal.returns-in_err-map_err-2
returns-in_err-map_err-2 c =
    let a = c.args in
    let u = c.in_err-map_err-2.field-0.0 in
    let r = was_refused c.room_for-room.result u c.in_err-map_err-2.ensures.cases in
    let e : u ≡ record { refusal = r.0; len = a.len } = search rules in
    let q = left_refused a.buffer.now a.len.0 a.entries.now (push_seq a.bytes.now a.offset.0 a.count.0) _ u _ _
    (plain-few a.buffer.now a.len.0 a.entries.now (push_seq a.bytes.now a.offset.0 a.count.0) (done (goal.at.returns-in_err-map_err-2 c).In_ok-map_err) (end_is (goal.at.returns-in_err-map_err-2 c).After-count) c.room_for-room.ensures r.1) e refl c.from_residual-in_err-map_err-2.ensures.1 in
    record { says = q.0; bytes = q.1.0; entries = q.1.1 }

pub recount-requires : goal.recount-requires
recount-requires c =
    let r = room (goal.at.recount-requires c).In_ok-map_err in
    let e = end_is (goal.at.recount-requires c).After-count in
    let n = enough (goal.at.recount-requires c).In_ok-map_err-2 in
    record { track_len_bound = omega arith; len_in_bounds = omega arith }

pub returns : goal.returns
returns c =
    let a = c.args in
    let bs = a.buffer.now in
    let vs = a.bytes.now in
    let q = left_done bs a.len.0 a.entries.now (push_seq vs a.offset.0 a.count.0) (done (goal.at.returns c).In_ok-map_err)
    (enough (goal.at.returns c).In_ok-map_err-2)
    (c.push_seq-pushed.ensures.says, c.push_seq-pushed.ensures.bytes)
    (c.recount.ensures
    ∙ (λ i. recounted a.entries.now (c.count-old.ensures i, end_is (goal.at.returns c).After-count i) (chars 1 (c.push_seq-pushed.ensures.bytes i) 0 (end_is (goal.at.returns c).After-count i)))
    ∙ touched-seq a.entries.now a.len.0 (new_flags bs a.len.0 (push_seq vs a.offset.0 a.count.0)) vs a.offset.0 a.count.0) in
    record { says = q.0; bytes = q.1.0; entries = q.1.1 }
