-- The numbers are those of the plan. Assumes nothing.
use Rattle.std.specs.Prelude.{Ok}
use mathlib.Core.List.{[], ◌∷◌}
use mathlib.Core.Path.{◌≡◌, sym, ◌∙◌}
use Rattle.codes.specs.Refusals.{first}
use Rattle.codes.proofs.OutcomeLaws.{answer_done}
use Rattle.lanes.specs.Lanes.{bad_shape}
use Rattle.streams.specs.Streams.{shaped}
use Rattle.streams.proofs.calls.shape.Given.{Over}
use Rattle.streams.proofs.calls.shape.Goals.{Else-bad_shape}
use Rattle.streams.proofs.calls.shape.Goals as goal

pub returns-then-bad_shape : goal.returns-then-bad_shape
unfolding shaped
returns-then-bad_shape g c = rw (sym c.bad_shape.ensures ∙ c.if-bad_shape.true)

fine : (g : Over) (c : Else-bad_shape g) → let a = c.args in first (bad_shape a.context.0 a.factor ∷ []) ≡ Ok tt
fine g c = rw (sym c.bad_shape.ensures ∙ c.if-bad_shape.false)

pub plan_of-p-requires : goal.plan_of-p-requires
plan_of-p-requires g c = fine g c

pub returns : goal.returns
unfolding shaped
returns g c =
    let p = c.plan_of-p.ensures in
    let lane = c.new.ensures ∙ p.lane in
    let padding = c.new-2.ensures ∙ p.padding in
    answer_done _ _ _ (0, 0, 0) (fine g (goal.at.returns g c).Else-bad_shape) (λ i. (lane i, p.steps i, padding i))
