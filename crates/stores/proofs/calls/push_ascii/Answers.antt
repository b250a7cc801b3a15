-- Refused, nothing is written; done, the tests give the room that the writing asks for. Assumes nothing.
use Rattle.std.proofs.Common.{rules}
use Rattle.std.specs.Prelude.{Ok}
use mathlib.Core.List.{List, map}
use mathlib.Core.Path.{◌≡◌, refl, sym, ap, ◌∙◌, subst}
use Prim.Native.Nat.{ℕ, ◌+◌, ◌^◌, ◌≤◌}
use native.Mathlib.Omega.{arith}
use borrow.Author.Tests.{ltb-false}
use lib.ListN.{length}
use Rattle.codes.specs.Codes.{up, trailing, code}
use Rattle.codes.specs.Refusals.{answer}
use Rattle.stores.specs.Stores.{tests, outcome, push_ascii}
use Rattle.runs.specs.Runs.{written}
use Rattle.stores.proofs.CallLaws.{Passed, Judged, judged_passed, refused, done_says, push_none, push_some, was_refused, was_done}
use Rattle.runs.proofs.RoomLaws.{room_chars}
use Rattle.stores.proofs.calls.push_ascii.Given.{Over}
use Rattle.stores.proofs.calls.push_ascii.Goals.{After-letters_outcome, In_ok-map_err}
use Rattle.stores.proofs.calls.push_ascii.Goals as goal

judged : (g : Over) (c : After-letters_outcome g)
    → let a = c.args in Judged g.W.Width.BITS a.buffer.now a.len.0 (push_ascii a.letters.now) c.letters_outcome.result
unfolding outcome
judged g c = record { is = c.letters_outcome.ensures }

-- what is known where it is done
module _ (g : Over) (c : In_ok-map_err g) where
  abbrev size : ℕ
  size = length c.args.buffer.now

  abbrev passed : Passed (tests g.W.Width.BITS size c.args.len.0 (push_ascii c.args.letters.now))
  passed = judged_passed (judged g (goal.at.In_ok-map_err g c).After-letters_outcome) (was_done c.letters_outcome.result _ c.in_ok-map_err.ensures.cases)

  small : size ≤ 2 ^ 28
  small = ltb-false _ _ passed.0

  room : up g.W.Width.BITS (c.args.len.0 + length c.args.letters.now) + trailing ≤ size
  room = ltb-false _ _ passed.1.1.0

pub returns-in_err-map_err : goal.returns-in_err-map_err
returns-in_err-map_err g c =
    let u = c.in_err-map_err.field-0.0 in
    let q = was_refused c.letters_outcome.result u c.in_err-map_err.ensures.cases in
    let e : u ≡ record { refusal = q.0; len = c.args.len } = search rules in
    let p = refused (judged g (goal.at.returns-in_err-map_err g c).After-letters_outcome) q.1 _ u _ _ e refl c.from_residual.ensures.1 in
    record { says = p.0; bytes = p.1 }

pub returns-then-count-eq0 : goal.returns-then-count-eq0
returns-then-count-eq0 g c = let q = push_none _ (judged g (goal.at.returns-then-count-eq0 g c).After-letters_outcome) (was_done c.letters_outcome.result _ c.in_ok-map_err.ensures.cases) c.if-count-eq0.true in
    record { says = q.0; bytes = q.1 }

pub write_letters-requires : goal.write_letters-requires
write_letters-requires g c =
    let a = c.args in record {
      buffer_len_bound = small g (goal.at.write_letters-requires g c).In_ok-map_err;
      trailing_in_bounds = subst (λ (x : ℕ). up g.W.Width.BITS (x + length a.letters.now) + trailing ≤ size g (goal.at.write_letters-requires g c).In_ok-map_err) (sym c.count-at.ensures)
          (room g (goal.at.write_letters-requires g c).In_ok-map_err);
    }

pub overflow_add-at : goal.overflow_add-at
overflow_add-at g c =
    let a = c.args in
    omega (
      arith,
      c.count-at.ensures,
      room_chars g.W.Width.divides (a.len.0 + length a.letters.now) (size g (goal.at.overflow_add-at g c).In_ok-map_err)
          (omega (arith, room g (goal.at.overflow_add-at g c).In_ok-map_err)) (small g (goal.at.overflow_add-at g c).In_ok-map_err),
    )

pub returns : goal.returns
returns g c =
    let a = c.args in
    let ls : List ℕ = a.letters.now in
    let end = c.new.ensures ∙ ap (λ (x : ℕ). x + length ls) c.count-at.ensures in
    let h = judged g (goal.at.returns g c).After-letters_outcome in
    let q = (was_done c.letters_outcome.result _ c.in_ok-map_err.ensures.cases) in record {
      says = ap (λ (x : ℕ). answer (Ok tt) (a.len.0, x, x) (0, 0, 0)) end ∙ done_says h q;
      bytes = c.write_letters.ensures
          ∙ ap (λ (x : ℕ). written g.W.Width.BITS a.buffer.now x (map (code g.W.Width.BITS) ls)) c.count-at.ensures
          ∙ push_some ls h q c.if-count-eq0.false;
    }
