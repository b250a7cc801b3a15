-- Refused, nothing is written; done, the tests give the room that the writing asks for. Assumes nothing.
use Rattle.std.proofs.Common.{rules}
use Rattle.std.specs.Prelude.{Ok}
use mathlib.Core.Path.{◌≡◌, refl, sym, ap₂, ◌∙◌, subst}
use Prim.Native.Nat.{ℕ, ◌+◌, ◌*◌, ◌^◌, ◌≤◌}
use native.Mathlib.Omega.{arith}
use borrow.Author.Tests.{ltb-false}
use lib.ListN.{length}
use Rattle.codes.specs.Codes.{per, up, trailing}
use Rattle.codes.specs.Refusals.{answer}
use Rattle.stores.specs.Stores.{tests, outcome, push_seq}
use Rattle.runs.specs.Bytes.{Placed}
use Rattle.runs.specs.Runs.{written, seq_start, seq_chars}
use Rattle.stores.proofs.CallLaws.{Passed, Judged, judged_passed, refused, done_says, done_after, was_refused, was_done}
use Rattle.runs.proofs.RoomLaws.{room_chars}
use Rattle.stores.proofs.calls.push_seq.Given.{Over}
use Rattle.stores.proofs.calls.push_seq.Goals.{After-seq_outcome-outcome, In_ok-map_err}
use Rattle.stores.proofs.calls.push_seq.Goals as goal

judged : (g : Over) (c : After-seq_outcome-outcome g)
    → let a = c.args in Judged g.W.Width.BITS a.buffer.now a.len.0 (push_seq a.bytes.now a.offset.0 a.count.0) c.seq_outcome-outcome.result
unfolding outcome
judged g c = record { is = c.seq_outcome-outcome.ensures }

-- what is known where it is done
module _ (g : Over) (c : In_ok-map_err g) where
  abbrev size : ℕ
  size = length c.args.buffer.now

  abbrev passed : Passed (tests g.W.Width.BITS size c.args.len.0 (push_seq c.args.bytes.now c.args.offset.0 c.args.count.0))
  passed = judged_passed (judged g (goal.at.In_ok-map_err g c).After-seq_outcome-outcome) (was_done c.seq_outcome-outcome.result _ c.in_ok-map_err.ensures.cases)

  small : size ≤ 2 ^ 28
  small = ltb-false _ _ passed.0

  view_small : length c.args.bytes.now ≤ 2 ^ 28
  view_small = ltb-false _ _ passed.1.0

  sound : up g.W.Width.BITS c.args.len.0 + trailing ≤ size
  sound = ltb-false _ _ passed.1.1.0

  view : c.args.offset.0 + c.args.count.0 + trailing * per g.W.Width.BITS ≤ length c.args.bytes.now * per g.W.Width.BITS
  view = ltb-false _ _ passed.1.1.1.0

  room : up g.W.Width.BITS (seq_start g.W.Width.BITS c.args.len.0 c.args.offset.0 + c.args.count.0) + trailing ≤ size
  room = ltb-false _ _ passed.1.1.1.1.0

pub seq_start-requires : goal.seq_start-requires
seq_start-requires g c = omega (arith, sound g (goal.at.seq_start-requires g c).In_ok-map_err, small g (goal.at.seq_start-requires g c).In_ok-map_err)

pub write_seq-requires : goal.write_seq-requires
write_seq-requires g c =
    let w : ℕ = g.W.Width.BITS in
    let at = c.seq_start.ensures in
    let placed : Placed w c.count.result c.seq_start.result c.count-2.result c.count-3.result (length c.args.bytes.now) = record {
      starts = at ∙ ap₂ (seq_start w) (sym c.count.ensures) (sym c.count-2.ensures);
      small = view_small g (goal.at.write_seq-requires g c).In_ok-map_err;
      inside = omega (arith, view g (goal.at.write_seq-requires g c).In_ok-map_err, c.count-2.ensures, c.count-3.ensures);
    } in record {
      placed = placed;
      buffer_len_bound = (
        small g (goal.at.write_seq-requires g c).In_ok-map_err,
        subst (λ (x : ℕ). up w x + trailing ≤ size g (goal.at.write_seq-requires g c).In_ok-map_err) (sym (ap₂ ◌+◌ at c.count-3.ensures)) (room g (goal.at.write_seq-requires g c).In_ok-map_err),
      );
    }

pub overflow_add-place : goal.overflow_add-place
overflow_add-place g c =
    let a = c.args in
    omega (
      arith,
      c.seq_start.ensures,
      c.count-3.ensures,
      room_chars g.W.Width.divides (seq_start g.W.Width.BITS a.len.0 a.offset.0 + a.count.0) (size g (goal.at.overflow_add-place g c).In_ok-map_err)
          (omega (arith, room g (goal.at.overflow_add-place g c).In_ok-map_err)) (small g (goal.at.overflow_add-place g c).In_ok-map_err),
    )

pub returns-in_err-map_err : goal.returns-in_err-map_err
returns-in_err-map_err g c =
    let u = c.in_err-map_err.field-0.0 in
    let q = was_refused c.seq_outcome-outcome.result u c.in_err-map_err.ensures.cases in
    let e : u ≡ record { refusal = q.0; len = c.args.len } = search rules in
    let p = refused (judged g (goal.at.returns-in_err-map_err g c).After-seq_outcome-outcome) q.1 _ u _ _ e refl c.from_residual.ensures.1 in
    record { says = p.0; bytes = p.1 }

pub returns : goal.returns
returns g c =
    let a = c.args in
    let at = c.seq_start.ensures in
    let h = judged g (goal.at.returns g c).After-seq_outcome-outcome in
    let q = was_done c.seq_outcome-outcome.result _ c.in_ok-map_err.ensures.cases in record {
      says = ap₂ (λ (x y : ℕ). answer (Ok tt) (x, y, y) (0, 0, 0)) (c.new.ensures ∙ at) (c.new-2.ensures ∙ ap₂ ◌+◌ at c.count-3.ensures) ∙ done_says h q;
      bytes = c.write_seq.ensures
          ∙ (λ i. written g.W.Width.BITS a.buffer.now (c.count.ensures i) (seq_chars g.W.Width.BITS (c.count.ensures i) a.bytes.now (c.count-2.ensures i) (c.count-3.ensures i)))
          ∙ done_after h q;
    }
