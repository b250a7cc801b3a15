-- The ways out: refused as the plain call is, too few entries, or done, and the blocks that it touches are counted. Assumes nothing.
use Rattle.std.proofs.Common.{rules}
use mathlib.Core.List.{[], ◌∷◌}
use Rattle.std.specs.Prelude.{Ok}
use mathlib.Core.Path.{◌≡◌, refl, sym, ap, ap₂, ◌∙◌}
use Prim.Native.Nat.{ℕ, ◌+◌, ◌^◌, ◌≤◌}
use native.Mathlib.Nat.{zero-add}
use native.Mathlib.Omega.{arith}
use borrow.Author.Tests.{ltb-false}
use lib.ListN.{length}
use Rattle.codes.specs.Codes.{chars, up, trailing}
use Rattle.codes.specs.Refusals.{first, too_long, bad_store, bad_end}
use Rattle.stores.specs.Stores.{cut, outcome}
use Rattle.stores.proofs.CallLaws.{was_refused, was_done}
use Rattle.counts.specs.Blocks.{blocks, recounted}
use Rattle.counts.specs.Counts.{new_flags}
use Rattle.counts.proofs.CallLaws.{plain_refused, plain-few, enough_of, left_refused, left_done, plain-passed, plain-room}
use Rattle.counts.proofs.TouchLaws.{touched-cut}
use Rattle.counts.proofs.flags.cut.Goals.{After-end_outcome-outcome, In_ok-map_err, In_ok-map_err-2, After-count-n}
use Rattle.counts.proofs.flags.cut.Goals as goal

judged : (c : After-end_outcome-outcome) → let a = c.args in c.end_outcome-outcome.result ≡ outcome 1 (length a.buffer.now) a.len.0 (cut a.m.0)
unfolding outcome
judged c =
    let a = c.args in
    let m : ℕ = length a.buffer.now in
    let end = ap₂ ◌+◌ c.new.ensures c.count-n.ensures ∙ zero-add a.m.0 in
    c.end_outcome-outcome.ensures ∙ ap (λ (x : ℕ). first (too_long m ∷ bad_store 1 m a.len.0 ∷ bad_end a.len.0 x ∷ [])) end

done : (c : In_ok-map_err) → let a = c.args in outcome 1 (length a.buffer.now) a.len.0 (cut a.m.0) ≡ Ok tt
done c = sym (judged (goal.at.In_ok-map_err c).After-end_outcome-outcome) ∙ was_done c.end_outcome-outcome.result _ c.in_ok-map_err.ensures.cases

count_is : (c : After-count-n) → c.count-n.result ≡ c.args.m.0
count_is c = c.count-n.ensures

-- what is known where the plain call is done
module _ (c : In_ok-map_err) where
  room : (length c.args.buffer.now ≤ 2 ^ 28) × (up 1 c.args.m.0 + trailing ≤ length c.args.buffer.now)
  room = plain-room c.args.buffer.now c.args.len.0 (cut c.args.m.0) (done c)

  within : c.args.m.0 ≤ c.args.len.0
  within = ltb-false c.args.len.0 c.args.m.0 (plain-passed c.args.buffer.now c.args.len.0 (cut c.args.m.0) (done c)).1.1.0

enough : (c : In_ok-map_err-2) → let a = c.args in blocks a.m.0 ≤ length a.entries.now
enough c = enough_of _ _ (count_is (goal.at.In_ok-map_err-2 c).After-count-n) c.room_for-room.ensures (was_done c.room_for-room.result _ c.in_ok-map_err-2.ensures.cases)

pub returns-in_err-map_err : goal.returns-in_err-map_err
returns-in_err-map_err c =
    let a = c.args in
    let u = c.in_err-map_err.field-0.0 in
    let r = was_refused c.end_outcome-outcome.result u c.in_err-map_err.ensures.cases in
    let e : u ≡ record { refusal = r.0; len = a.len } = search rules in
    let q = left_refused a.buffer.now a.len.0 a.entries.now (cut a.m.0) _ u _ _
    (plain_refused a.buffer.now a.len.0 a.entries.now (cut a.m.0) r.0 (sym (judged (goal.at.returns-in_err-map_err c).After-end_outcome-outcome) ∙ r.1)) e refl c.from_residual.ensures.1 in
    record { says = q.0; bytes = q.1.0; entries = q.1.1 }

pub returns-in_err-map_err-2 : goal.returns-in_err-map_err-2
returns-in_err-map_err-2 c =
    let a = c.args in
    let u = c.in_err-map_err-2.field-0.0 in
    let r = was_refused c.room_for-room.result u c.in_err-map_err-2.ensures.cases in
    let e : u ≡ record { refusal = r.0; len = a.len } = search rules in
    let q = left_refused a.buffer.now a.len.0 a.entries.now (cut a.m.0) _ u _ _
    (plain-few a.buffer.now a.len.0 a.entries.now (cut a.m.0) (done (goal.at.returns-in_err-map_err-2 c).In_ok-map_err) (count_is (goal.at.returns-in_err-map_err-2 c).After-count-n) c.room_for-room.ensures r.1) e refl c.from_residual-in_err-map_err-2.ensures.1 in
    record { says = q.0; bytes = q.1.0; entries = q.1.1 }

pub recount-requires : goal.recount-requires
recount-requires c =
    let r = room (goal.at.recount-requires c).In_ok-map_err in
    let n = enough (goal.at.recount-requires c).In_ok-map_err-2 in
    record { track_len_bound = omega arith; len_in_bounds = omega arith }

pub returns : goal.returns
returns c =
    let a = c.args in
    let bs = a.buffer.now in
    let q = left_done bs a.len.0 a.entries.now (cut a.m.0) (done (goal.at.returns c).In_ok-map_err)
    (enough (goal.at.returns c).In_ok-map_err-2) (c.cut-kept.ensures.says, c.cut-kept.ensures.bytes)
    (c.recount.ensures
    ∙ (λ i. recounted a.entries.now (count_is (goal.at.returns c).After-count-n i, c.count.ensures i) (chars 1 (c.cut-kept.ensures.bytes i) 0 (count_is (goal.at.returns c).After-count-n i)))
    ∙ touched-cut a.entries.now a.len.0 (new_flags bs a.len.0 (cut a.m.0)) a.m.0 (within (goal.at.returns c).In_ok-map_err)) in
    record { says = q.0; bytes = q.1.0; entries = q.1.1 }
