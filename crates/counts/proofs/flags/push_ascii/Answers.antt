-- The ways out: refused as the plain call is, too few entries, or done, and the blocks that it touches are counted. Assumes nothing.
use Rattle.std.proofs.Common.{rules}
use Rattle.std.specs.Prelude.{Ok}
use mathlib.Core.Path.{◌≡◌, refl, sym, ap, ◌∙◌}
use Prim.Native.Nat.{ℕ, ◌+◌, ◌^◌, ◌≤◌}
use native.Mathlib.Omega.{arith}
use lib.ListN.{length}
use Rattle.codes.specs.Codes.{chars, up, trailing}
use Rattle.stores.specs.Stores.{push_ascii, outcome}
use Rattle.stores.proofs.CallLaws.{was_refused, was_done}
use Rattle.counts.specs.Blocks.{blocks, recounted}
use Rattle.counts.specs.Counts.{new_flags}
use Rattle.counts.proofs.CallLaws.{plain_refused, plain-few, enough_of, left_refused, left_done, plain-room}
use Rattle.counts.proofs.TouchLaws.{touched-letters}
use Rattle.counts.proofs.flags.push_ascii.Goals.{After-count-at, After-letters_outcome-outcome, In_ok-map_err, In_ok-map_err-2}
use Rattle.counts.proofs.flags.push_ascii.Goals as goal

judged : (c : After-letters_outcome-outcome)
    → let a = c.args in c.letters_outcome-outcome.result ≡ outcome 1 (length a.buffer.now) a.len.0 (push_ascii a.letters.now)
unfolding outcome
judged c = c.letters_outcome-outcome.ensures

done : (c : In_ok-map_err) → let a = c.args in outcome 1 (length a.buffer.now) a.len.0 (push_ascii a.letters.now) ≡ Ok tt
done c = sym (judged (goal.at.In_ok-map_err c).After-letters_outcome-outcome) ∙ was_done c.letters_outcome-outcome.result _ c.in_ok-map_err.ensures.cases

-- what is known where the plain call is done
module _ (c : After-count-at) where
  end_is : c.count-at.result + length c.args.letters.now ≡ c.args.len.0 + length c.args.letters.now
  end_is = ap (λ (x : ℕ). x + length c.args.letters.now) c.count-at.ensures

  room : (length c.args.buffer.now ≤ 2 ^ 28) × (up 1 (c.args.len.0 + length c.args.letters.now) + trailing ≤ length c.args.buffer.now)
  room = plain-room c.args.buffer.now c.args.len.0 (push_ascii c.args.letters.now) (done (goal.at.After-count-at c).In_ok-map_err)

enough : (c : In_ok-map_err-2) → let a = c.args in blocks (a.len.0 + length a.letters.now) ≤ length a.entries.now
enough c = enough_of _ _ (end_is (goal.at.In_ok-map_err-2 c).After-count-at) c.room_for-room.ensures (was_done c.room_for-room.result _ c.in_ok-map_err-2.ensures.cases)

pub returns-in_err-map_err : goal.returns-in_err-map_err
returns-in_err-map_err c =
    let a = c.args in
    let u = c.in_err-map_err.field-0.0 in
    let r = was_refused c.letters_outcome-outcome.result u c.in_err-map_err.ensures.cases in
    let e : u ≡ record { refusal = r.0; len = a.len } = search rules in
    let q = left_refused a.buffer.now a.len.0 a.entries.now (push_ascii a.letters.now) _ u _ _
    (plain_refused a.buffer.now a.len.0 a.entries.now (push_ascii a.letters.now) r.0 (sym (judged (goal.at.returns-in_err-map_err c).After-letters_outcome-outcome) ∙ r.1)) e refl c.from_residual.ensures.1 in
    record { says = q.0; bytes = q.1.0; entries = q.1.1 }

pub overflow_add-end : goal.overflow_add-end
overflow_add-end c =
    omega (arith, c.count-at.ensures, (room c).0, (room c).1)

pub returns-in_err-map_err-2 : goal.returns-in_err-map_err-2
returns-in_err-map_err-2 c =
    let a = c.args in
    let u = c.in_err-map_err-2.field-0.0 in
    let r = was_refused c.room_for-room.result u c.in_err-map_err-2.ensures.cases in
    let e : u ≡ record { refusal = r.0; len = a.len } = search rules in
    let q = left_refused a.buffer.now a.len.0 a.entries.now (push_ascii a.letters.now) _ u _ _
    (plain-few a.buffer.now a.len.0 a.entries.now (push_ascii a.letters.now) (done (goal.at.returns-in_err-map_err-2 c).In_ok-map_err) (end_is (goal.at.returns-in_err-map_err-2 c).After-count-at) c.room_for-room.ensures r.1) e refl c.from_residual-in_err-map_err-2.ensures.1 in
    record { says = q.0; bytes = q.1.0; entries = q.1.1 }

pub recount-requires : goal.recount-requires
recount-requires c =
    let r = room (goal.at.recount-requires c).After-count-at in
    let n = enough (goal.at.recount-requires c).In_ok-map_err-2 in
    record { track_len_bound = omega arith; len_in_bounds = omega arith }

pub returns : goal.returns
returns c =
    let a = c.args in
    let bs = a.buffer.now in
    let ls = a.letters.now in
    let q = left_done bs a.len.0 a.entries.now (push_ascii ls) (done (goal.at.returns c).In_ok-map_err)
    (enough (goal.at.returns c).In_ok-map_err-2) (c.push_ascii-pushed.ensures.says, c.push_ascii-pushed.ensures.bytes)
    (c.recount.ensures
    ∙ (λ i. recounted a.entries.now (c.count-at.ensures i, end_is (goal.at.returns c).After-count-at i) (chars 1 (c.push_ascii-pushed.ensures.bytes i) 0 (end_is (goal.at.returns c).After-count-at i)))
    ∙ touched-letters a.entries.now a.len.0 (new_flags bs a.len.0 (push_ascii ls)) ls) in
    record { says = q.0; bytes = q.1.0; entries = q.1.1 }
