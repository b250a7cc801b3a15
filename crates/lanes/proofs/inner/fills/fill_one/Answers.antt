-- The numbers are those of the plan. Assumes nothing.
use mathlib.Core.Path.{◌∙◌}
use native.Mathlib.Omega.{arith}
use lib.ListN.{length}
use Rattle.lanes.proofs.LaneLaws.{Open, stream_open, Sized, stream_sizes}
use Rattle.lanes.proofs.inner.fills.fill_one.Given.{Over}
use Rattle.lanes.proofs.inner.fills.fill_one.Goals.{Start}
use Rattle.lanes.proofs.inner.fills.fill_one.Goals as goal

module _ (g : Over) (c : Start g) where
  opened : Open g.W.Width.BITS c.args.bytes.now c.args.offset.0 c.args.len.0 c.args.context.0 c.args.factor 0 0
  opened = stream_open g.W.Width.BITS c.args.bytes.now c.args.offset.0 c.args.len.0 c.args.context.0 c.args.factor 0 0 c.requires.factor_value

  sized : Sized g.W.Width.BITS c.args.len.0 c.args.context.0 c.args.factor
  sized = stream_sizes g.W.Width.divides (length c.args.bytes.now) c.args.offset.0 c.args.len.0 c.args.context.0 c.args.factor opened.view opened.shape

pub plan_of-p-requires : goal.plan_of-p-requires
plan_of-p-requires g c = (opened g (goal.at.plan_of-p-requires g c).Start).shape

pub fill_lanes-requires : goal.fill_lanes-requires
fill_lanes-requires g c =
    let z = sized g (goal.at.fill_lanes-requires g c).Start in
    let p = c.plan_of-p.ensures in record { len_value = rw (c.count.ensures, c.count-2.ensures) (opened g (goal.at.fill_lanes-requires g c).Start).view; n_bound = (omega arith, omega arith, omega (arith, c.requires.factor_in_bounds)) }

pub returns : goal.returns
returns g c =
    let p = c.plan_of-p.ensures in
    c.fill_lanes.ensures ∙ rw (c.count.ensures, c.count-2.ensures, c.count-3.ensures, p.lane, p.steps)
