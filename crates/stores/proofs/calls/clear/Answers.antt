-- Refused, nothing is written; done, the tests give the room that the writing asks for. Assumes nothing.
use Rattle.std.proofs.Common.{rules}
use Rattle.std.specs.Prelude.{Ok}
use mathlib.Core.Path.{◌≡◌, ap, ◌∙◌}
use Prim.Native.Nat.{ℕ}
use Rattle.codes.specs.Refusals.{answer}
use Rattle.stores.specs.Stores.{outcome, clear}
use Rattle.stores.proofs.CallLaws.{Judged, refused, done_says, done_after, was_refused, was_done}
use Rattle.stores.proofs.calls.clear.Given.{Over}
use Rattle.stores.proofs.calls.clear.Goals.{After-clear_outcome}
use Rattle.stores.proofs.calls.clear.Goals as goal

judged : (g : Over) (c : After-clear_outcome g) → let a = c.args in Judged g.W.Width.BITS a.buffer.now 0 clear c.clear_outcome.result
unfolding outcome
judged g c = record { is = c.clear_outcome.ensures }

pub returns-in_err-map_err : goal.returns-in_err-map_err
returns-in_err-map_err g c =
    let u = c.in_err-map_err.field-0.0 in
    let q = was_refused c.clear_outcome.result u c.in_err-map_err.ensures.cases in
    let e : u ≡ record { refusal = q.0; len = c.new-none.result } = search rules in
    let p = refused (judged g (goal.at.returns-in_err-map_err g c).After-clear_outcome) q.1 _ u _ _ e c.new-none.ensures c.from_residual.ensures.1 in
    record { says = p.0; bytes = p.1 }

pub returns : goal.returns
returns g c =
    let h = judged g (goal.at.returns g c).After-clear_outcome in
    let q = was_done c.clear_outcome.result _ c.in_ok-map_err.ensures.cases in
    record {
      says = ap (λ (x : ℕ). answer (Ok tt) (0, 0, x) (0, 0, 0)) c.new-none.ensures ∙ done_says h q;
      bytes = c.write_letters.ensures ∙ done_after h q;
    }
