-- The choice decides whose part it is. Assumes nothing.
use Rattle.std.specs.Prelude.{Result, Ok, Err}
use Rattle.std.proofs.lemmas.Result.{err_from_is_err_and}
use mathlib.Core.Bool.{Bool, true, false}
use mathlib.Core.Path.{◌≡◌, sym, ap, ◌∙◌}
use lib.ListN.{length}
use Rattle.codes.specs.Answers.{says_by}
use Rattle.codes.specs.Codes.{pick}
use Rattle.codes.specs.Refusals.{first, view_tests}
use Rattle.codes.specs.declared.refusals.Refusal.{Refusal}
use Rattle.codes.proofs.RefusalLaws.{says_giving}
use Rattle.order.specs.Order.{pair_outcome, pair_order, is_second, choice}
use Rattle.order.proofs.LeastLaws.{choice-done}
use Rattle.order.proofs.OrderLaws.{pair_views}
use Rattle.given.specs.Face.{Part, no_part}
use Rattle.face.specs.Parts.{part_of, least_part, least_says}
use Rattle.face.proofs.inner.parts.least_part.Given.{Over}
use Rattle.face.proofs.inner.parts.least_part.Goals.{In_ok-second, Start}
use Rattle.face.proofs.inner.parts.least_part.Goals as goal

-- what a choice says of the part
abbrev by_choice : (g : Over) → Start g → Bool → Bool × Part
by_choice g s b = let a = s.args in pick b (true, part_of g.W.Width.BITS a.bo.0 a.bl.0) (false, part_of g.W.Width.BITS a.ao.0 a.al.0)

chosen : (g : Over) (s : Start g) (r : Result Bool Refusal) → let a = s.args in
    r ≡ choice g.W.Width.BITS a.a.now a.ao.0 a.al.0 a.b.now a.bo.0 a.bl.0 → says_by (by_choice g s) (false, no_part) r ≡ least_part g.W.Width.BITS a.a.now a.ao.0 a.al.0 a.b.now a.bo.0 a.bl.0
unfolding least_part
chosen g s r e = ap (says_by (by_choice g s) (false, no_part)) e ∙ says_giving (by_choice g s) (false, no_part) _ _

-- neither view is refused
views : (g : Over) (c : In_ok-second g) → let a = c.args in
    (first (view_tests g.W.Width.BITS (length a.a.now) a.ao.0 a.al.0) ≡ Ok tt) × (first (view_tests g.W.Width.BITS (length a.b.now) a.bo.0 a.bl.0) ≡ Ok tt)
views g c =
    let a = c.args in
    pair_views g.W.Width.BITS (length a.a.now) a.ao.0 a.al.0 (length a.b.now) a.bo.0 a.bl.0
    (choice-done (pair_outcome g.W.Width.BITS a.a.now a.ao.0 a.al.0 a.b.now a.bo.0 a.bl.0) (is_second (pair_order g.W.Width.BITS a.a.now a.ao.0 a.al.0 a.b.now a.bo.0 a.bl.0)) _ c.in_ok-second.ensures)

pub normal-part-requires : goal.normal-part-requires
normal-part-requires g c = (views g (goal.at.normal-part-requires g c).In_ok-second).1

pub normal-part-requires-else-second : goal.normal-part-requires-else-second
normal-part-requires-else-second g c = (views g (goal.at.normal-part-requires-else-second g c).In_ok-second).0

pub returns-in_err-second : goal.returns-in_err-second
returns-in_err-second g c =
    let p = err_from_is_err_and c.from_residual.result c.from_residual.ensures.1 in
    ap least_says (p.1 ∙ ap Err p.2) ∙ chosen g (goal.at.returns-in_err-second g c).Start _ c.in_err-second.ensures

pub returns-then-second : goal.returns-then-second
returns-then-second g c =
    let e = chosen g (goal.at.returns-then-second g c).Start (Ok true) (ap Ok (sym c.if-second.true) ∙ c.in_ok-second.ensures) in
    rw (c.if-second.true, c.normal-part.ensures) e

pub returns-else-second : goal.returns-else-second
returns-else-second g c =
    let e = chosen g (goal.at.returns-else-second g c).Start (Ok false) (ap Ok (sym c.if-second.false) ∙ c.in_ok-second.ensures) in
    rw (c.if-second.false, c.normal-part-else-second.ensures) e
