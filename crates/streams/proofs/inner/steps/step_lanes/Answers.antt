-- The lanes of a step that is not refused. Assumes nothing.
use mathlib.Core.Path.{◌∙◌}
use Prim.Native.Nat.{◌<◌}
use native.Mathlib.Omega.{arith}
use Rattle.lanes.specs.Lanes.{steps}
use Rattle.lanes.proofs.LaneLaws.{Open}
use Rattle.streams.proofs.OpenLaws.{step_open, open_sizes}
use Rattle.streams.proofs.inner.steps.step_lanes.Given.{Over}
use Rattle.streams.proofs.inner.steps.step_lanes.Goals.{Start}
use Rattle.streams.proofs.inner.steps.step_lanes.Goals as goal

opened : (g : Over) (c : Start g)
    → let a = c.args in
    Open g.W.Width.BITS a.bytes.now a.offset.0 a.len.0 a.context.0 a.factor 0 0 × (a.j < steps g.W.Width.BITS a.len.0 a.context.0 a.factor)
opened g c =
    let a = c.args in
    step_open g.W.Width.BITS a.bytes.now a.offset.0 a.len.0 a.context.0 a.factor 0 0 a.j c.requires

pub plan_of-p-requires : goal.plan_of-p-requires
plan_of-p-requires g c = (opened g (goal.at.plan_of-p-requires g c).Start).0.shape

pub lanes_at-requires : goal.lanes_at-requires
lanes_at-requires g c =
    let W = g.W.Width.divides in
    let o = opened g (goal.at.lanes_at-requires g c).Start in
    let z = open_sizes W o.0 in record { len_value = rw (c.count.ensures, c.count-2.ensures) o.0.view; n_bound = (omega (arith, z.lane-few, c.plan_of-p.ensures.lane), omega (arith, z.steps-few, o.1)) }

pub returns : goal.returns
returns g c =
    c.lanes_at.ensures
    ∙ rw (c.count.ensures, c.count-2.ensures, c.count-3.ensures, c.plan_of-p.ensures.lane)
