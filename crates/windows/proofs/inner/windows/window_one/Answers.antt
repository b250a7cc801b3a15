-- The numbers are those of the plan. Assumes nothing.
use mathlib.Core.Path.{◌∙◌}
use native.Mathlib.Omega.{arith}
use lib.ListN.{length}
use Rattle.codes.specs.Widths.{width_1}
use Rattle.lanes.proofs.LaneLaws.{Sized, stream_sizes}
use Rattle.windows.proofs.RunLaws.{Windowed, window-open}
use Rattle.windows.proofs.inner.windows.window_one.Goals.{Start}
use Rattle.windows.proofs.inner.windows.window_one.Goals as goal

module _ (c : Start) where
  opened : Windowed c.args.bytes.now c.args.offset.0 c.args.len.0 c.args.context.0 c.args.k.0
  opened = window-open c.args.bytes.now c.args.offset.0 c.args.len.0 c.args.context.0 c.args.k.0 c.requires.k_value

  sized : Sized 1 c.args.len.0 c.args.context.0 1
  sized = stream_sizes width_1 (length c.args.bytes.now) c.args.offset.0 c.args.len.0 c.args.context.0 1 opened.view opened.shape

pub plan_of-p-requires : goal.plan_of-p-requires
plan_of-p-requires c = (opened (goal.at.plan_of-p-requires c).Start).shape

pub window_lanes-requires : goal.window_lanes-requires
window_lanes-requires c =
    let z = sized (goal.at.window_lanes-requires c).Start in
    let p = c.plan_of-p.ensures in record {
      len_value = rw (c.count.ensures, c.count-2.ensures) (opened (goal.at.window_lanes-requires c).Start).view;
      n_bound = (omega arith, omega (arith, (opened (goal.at.window_lanes-requires c).Start).high, c.count-3.ensures), omega arith);
      skip_in_bounds = omega (arith, c.requires.skip_in_bounds);
    }

pub returns : goal.returns
returns c =
    let p = c.plan_of-p.ensures in
    c.window_lanes.ensures ∙ rw (c.count.ensures, c.count-2.ensures, c.count-3.ensures, p.lane, p.steps)
