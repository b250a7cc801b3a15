-- Refused, nothing is written; done, the tests give the room that the writing asks for. Assumes nothing.
use Rattle.std.proofs.Common.{rules}
use mathlib.Core.List.{[], ◌∷◌}
use mathlib.Core.Path.{◌≡◌, refl, ap, ap₂, ◌∙◌}
use Prim.Native.Nat.{ℕ, ◌+◌, ◌≤◌}
use native.Mathlib.Nat.{zero-add}
use native.Mathlib.Omega.{arith}
use borrow.Author.Tests.{ltb-false}
use lib.ListN.{length}
use Rattle.codes.specs.Codes.{up, trailing}
use Rattle.codes.specs.Refusals.{first, too_long, bad_store, bad_end}
use Rattle.codes.proofs.WidthLaws.{up-mono}
use Rattle.stores.specs.Stores.{outcome, cut}
use Rattle.runs.specs.Runs.{written}
use Rattle.stores.proofs.CallLaws.{Judged, judged_passed, refused, done_says, done_after, was_refused, was_done}
use Rattle.stores.proofs.calls.cut.Given.{Over}
use Rattle.stores.proofs.calls.cut.Goals.{After-end_outcome}
use Rattle.stores.proofs.calls.cut.Goals as goal

judged : (g : Over) (c : After-end_outcome g)
    → let a = c.args in Judged g.W.Width.BITS a.buffer.now a.len.0 (cut a.m.0) c.end_outcome.result
unfolding outcome
judged g c =
    let a = c.args in
    let m : ℕ = length a.buffer.now in
    let end = ap₂ ◌+◌ c.new-none.ensures c.count-at.ensures ∙ zero-add a.m.0 in
    record { is = c.end_outcome.ensures ∙ ap (λ (x : ℕ). first (too_long m ∷ bad_store g.W.Width.BITS m a.len.0 ∷ bad_end a.len.0 x ∷ [])) end }

pub write_end-requires : goal.write_end-requires
write_end-requires g c =
    let n = c.count-at in
    let p = judged_passed (judged g (goal.at.write_end-requires g c).After-end_outcome) (was_done c.end_outcome.result _ c.in_ok-map_err.ensures.cases) in
    let sound : up g.W.Width.BITS c.args.len.0 + trailing ≤ length c.args.buffer.now = ltb-false _ _ p.1.0 in
    let within : c.args.m.0 ≤ c.args.len.0 = ltb-false _ _ p.1.1.0 in
    record { buffer_len_bound = ltb-false _ _ p.0; trailing_in_bounds = omega (arith, up-mono g.W.Width.divides n.result c.args.len.0 (omega (arith, n.ensures))) }

pub returns-in_err-map_err : goal.returns-in_err-map_err
returns-in_err-map_err g c =
    let u = c.in_err-map_err.field-0.0 in
    let q = was_refused c.end_outcome.result u c.in_err-map_err.ensures.cases in
    let e : u ≡ record { refusal = q.0; len = c.args.len } = search rules in
    let p = refused (judged g (goal.at.returns-in_err-map_err g c).After-end_outcome) q.1 _ u _ _ e refl c.from_residual.ensures.1 in
    record { says = p.0; bytes = p.1 }

pub returns : goal.returns
returns g c =
    let a = c.args in
    let h = judged g (goal.at.returns g c).After-end_outcome in
    let q = was_done c.end_outcome.result _ c.in_ok-map_err.ensures.cases in record {
      says = done_says h q;
      bytes = c.write_end.ensures ∙ ap (λ (x : ℕ). written g.W.Width.BITS a.buffer.now x []) c.count-at.ensures ∙ done_after h q;
    }
