-- By the outcome, and which of the two it is. Assumes nothing.
use mathlib.Core.Path.{◌≡◌, sym, ap, ◌∙◌}
use lib.ListN.{length}
use Rattle.std.specs.Prelude.{Result, Ok}
use mathlib.Core.Bool.{Bool, true, false}
use Rattle.codes.specs.Refusals.{first, view_tests}
use Rattle.codes.specs.declared.refusals.Refusal.{Refusal}
use Rattle.fields.specs.Spans.{span_of}
use Rattle.order.specs.Order.{chosen, pair_outcome, pair_order, is_second}
use Rattle.order.proofs.LeastLaws.{span_by, span-chosen, choice-done}
use Rattle.order.proofs.OrderLaws.{pair_views}
use Rattle.order.proofs.inner.least.chosen_part.Given.{Over}
use Rattle.order.proofs.inner.least.chosen_part.Goals.{Start}
use Rattle.order.proofs.inner.least.chosen_part.Goals as goal

-- where neither is refused
views : (g : Over) (s : Start g) (b : Bool) → s.args.second ≡ Ok b
    → (first (view_tests g.W.Width.BITS (length s.args.a.now) s.args.ao.0 s.args.al.0) ≡ Ok tt) × (first (view_tests g.W.Width.BITS (length s.args.b.now) s.args.bo.0 s.args.bl.0) ≡ Ok tt)
views g s b e =
    let a = s.args in
    pair_views g.W.Width.BITS (length a.a.now) a.ao.0 a.al.0 (length a.b.now) a.bo.0 a.bl.0
    (choice-done (pair_outcome g.W.Width.BITS a.a.now a.ao.0 a.al.0 a.b.now a.bo.0 a.bl.0) (is_second (pair_order g.W.Width.BITS a.a.now a.ao.0 a.al.0 a.b.now a.bo.0 a.bl.0)) b (sym e ∙ s.requires))

-- the part by the choice
picked : (g : Over) (s : Start g) (r : Result Bool Refusal) → s.args.second ≡ r
    → let a = s.args in
    span_by g.W.Width.BITS (span_of a.a) a.ao.0 a.al.0 (span_of a.b) a.bo.0 a.bl.0 r ≡ (chosen g.W.Width.BITS (span_of a.a) a.ao.0 a.al.0 (span_of a.b) a.bo.0 a.bl.0).values.span
picked g s r e =
    let a = s.args in
    span-chosen g.W.Width.BITS (span_of a.a) a.ao.0 a.al.0 (span_of a.b) a.bo.0 a.bl.0 r (sym e ∙ s.requires)

pub returns-in-Err : goal.returns-in-Err
returns-in-Err g c = picked g (goal.at.returns-in-Err g c).Start _ c.in-Err.is

pub accepted_part-requires : goal.accepted_part-requires
accepted_part-requires g c = (views g (goal.at.accepted_part-requires g c).Start _ c.in-Ok-true.is).1

pub returns-in-Ok-true : goal.returns-in-Ok-true
returns-in-Ok-true g c = c.accepted_part.ensures ∙ picked g (goal.at.returns-in-Ok-true g c).Start (Ok true) (c.in-Ok-true.is ∙ ap Ok c.in-Ok-true.field-0-test)

pub accepted_part-requires-in-Ok-false : goal.accepted_part-requires-in-Ok-false
accepted_part-requires-in-Ok-false g c = (views g (goal.at.accepted_part-requires-in-Ok-false g c).Start _ c.in-Ok-false.is).0

pub returns-in-Ok-false : goal.returns-in-Ok-false
returns-in-Ok-false g c = c.accepted_part-in-Ok-false.ensures ∙ picked g (goal.at.returns-in-Ok-false g c).Start (Ok false) (c.in-Ok-false.is ∙ ap Ok c.in-Ok-false.field-0-test)
