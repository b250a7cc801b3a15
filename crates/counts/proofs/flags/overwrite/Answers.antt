-- The ways out: refused as the plain call is, too few entries, or done, and the blocks that it touches are counted. Assumes nothing.
use Rattle.std.proofs.Common.{rules}
use Rattle.std.specs.Prelude.{Ok}
use mathlib.Core.Path.{◌≡◌, refl, sym, ◌∙◌}
use Prim.Native.Nat.{◌+◌, ◌^◌, ◌≤◌}
use native.Mathlib.Omega.{arith}
use borrow.Author.Tests.{ltb-false}
use lib.ListN.{length}
use Rattle.codes.specs.Codes.{chars, up, trailing}
use Rattle.stores.specs.Stores.{overwrite, outcome}
use Rattle.stores.proofs.CallLaws.{was_refused, was_done}
use Rattle.counts.specs.Blocks.{blocks, recounted}
use Rattle.counts.specs.Counts.{new_flags}
use Rattle.counts.proofs.CallLaws.{plain_refused, plain-few, enough_of, left_refused, left_done, plain-passed, plain-room}
use Rattle.counts.proofs.TouchLaws.{touched-over}
use Rattle.counts.proofs.flags.overwrite.Goals.{After-end_outcome-outcome, In_ok-map_err, In_ok-map_err-2, After-count-n}
use Rattle.counts.proofs.flags.overwrite.Goals as goal

judged : (c : After-end_outcome-outcome)
    → let a = c.args in c.end_outcome-outcome.result ≡ outcome 1 (length a.buffer.now) a.len.0 (overwrite a.start.0 a.letters.now)
unfolding outcome
judged c = c.end_outcome-outcome.ensures

done : (c : In_ok-map_err) → let a = c.args in outcome 1 (length a.buffer.now) a.len.0 (overwrite a.start.0 a.letters.now) ≡ Ok tt
done c = sym (judged (goal.at.In_ok-map_err c).After-end_outcome-outcome) ∙ was_done c.end_outcome-outcome.result _ c.in_ok-map_err.ensures.cases

-- what is known where the plain call is done
module _ (c : After-count-n) where
  count_is : c.count-n.result ≡ c.args.len.0
  count_is = c.count-n.ensures

  room : (length c.args.buffer.now ≤ 2 ^ 28) × (up 1 c.args.len.0 + trailing ≤ length c.args.buffer.now)
  room = plain-room c.args.buffer.now c.args.len.0 (overwrite c.args.start.0 c.args.letters.now) (done (goal.at.After-count-n c).In_ok-map_err)

  end : c.args.start.0 + length c.args.letters.now ≤ c.args.len.0
  end =
      ltb-false c.args.len.0 (c.args.start.0 + length c.args.letters.now)
      (plain-passed c.args.buffer.now c.args.len.0 (overwrite c.args.start.0 c.args.letters.now) (done (goal.at.After-count-n c).In_ok-map_err)).1.1.0

enough : (c : In_ok-map_err-2) → let a = c.args in blocks a.len.0 ≤ length a.entries.now
enough c = enough_of _ _ (count_is (goal.at.In_ok-map_err-2 c).After-count-n) c.room_for-room.ensures (was_done c.room_for-room.result _ c.in_ok-map_err-2.ensures.cases)

pub returns-in_err-map_err : goal.returns-in_err-map_err
returns-in_err-map_err c =
    let a = c.args in
    let u = c.in_err-map_err.field-0.0 in
    let r = was_refused c.end_outcome-outcome.result u c.in_err-map_err.ensures.cases in
    let e : u ≡ record { refusal = r.0; len = a.len } = search rules in
    let q = left_refused a.buffer.now a.len.0 a.entries.now (overwrite a.start.0 a.letters.now) _ u _ _
    (plain_refused a.buffer.now a.len.0 a.entries.now (overwrite a.start.0 a.letters.now) r.0 (sym (judged (goal.at.returns-in_err-map_err c).After-end_outcome-outcome) ∙ r.1)) e refl c.from_residual.ensures.1 in
    record { says = q.0; bytes = q.1.0; entries = q.1.1 }

pub returns-in_err-map_err-2 : goal.returns-in_err-map_err-2
returns-in_err-map_err-2 c =
    let a = c.args in
    let u = c.in_err-map_err-2.field-0.0 in
    let r = was_refused c.room_for-room.result u c.in_err-map_err-2.ensures.cases in
    let e : u ≡ record { refusal = r.0; len = a.len } = search rules in
    let q = left_refused a.buffer.now a.len.0 a.entries.now (overwrite a.start.0 a.letters.now) _ u _ _
    (plain-few a.buffer.now a.len.0 a.entries.now (overwrite a.start.0 a.letters.now) (done (goal.at.returns-in_err-map_err-2 c).In_ok-map_err) (count_is (goal.at.returns-in_err-map_err-2 c).After-count-n) c.room_for-room.ensures r.1) e refl c.from_residual-in_err-map_err-2.ensures.1 in
    record { says = q.0; bytes = q.1.0; entries = q.1.1 }

pub overflow_add-at : goal.overflow_add-at
overflow_add-at c =
    omega (arith, c.count-at.ensures, end (goal.at.overflow_add-at c).After-count-n, (room (goal.at.overflow_add-at c).After-count-n).0, (room (goal.at.overflow_add-at c).After-count-n).1)

pub recount-requires : goal.recount-requires
recount-requires c =
    let r = room (goal.at.recount-requires c).After-count-n in
    let e = end (goal.at.recount-requires c).After-count-n in
    let n = enough (goal.at.recount-requires c).In_ok-map_err-2 in
    record { track_len_bound = omega arith; len_in_bounds = omega arith }

pub returns : goal.returns
returns c =
    let a = c.args in
    let bs = a.buffer.now in
    let ls = a.letters.now in
    let q = left_done bs a.len.0 a.entries.now (overwrite a.start.0 ls) (done (goal.at.returns c).In_ok-map_err)
    (enough (goal.at.returns c).In_ok-map_err-2) (c.overwrite-kept.ensures.says, c.overwrite-kept.ensures.bytes)
    (c.recount.ensures
    ∙ (λ i. recounted a.entries.now (c.count-at.ensures i, c.count-at.ensures i + length ls) (chars 1 (c.overwrite-kept.ensures.bytes i) 0 (count_is (goal.at.returns c).After-count-n i)))
    ∙ touched-over a.entries.now a.len.0 (new_flags bs a.len.0 (overwrite a.start.0 ls)) a.start.0 ls) in
    record { says = q.0; bytes = q.1.0; entries = q.1.1 }
