-- The tests of the slice go first, and then the calls in turn read it. Assumes nothing.
use mathlib.Core.List.{[], ◌∷◌}
use Prim.Native.Nat.{◌-◌}
use lib.ListN.{length}
use Rattle.codes.specs.Refusals.{bad_index}
use Rattle.codes.proofs.OutcomeLaws.{passes}
use Rattle.fields.specs.Fields.{slice_tests}
use Rattle.views.specs.Views.{got_sliced}
use Rattle.views.proofs.ReadLaws.{got_sliced-says}
use Rattle.views.proofs.calls.get_sliced.Goals as goal

pub returns-in_err-slice_outcome : goal.returns-in_err-slice_outcome
unfolding got_sliced
returns-in_err-slice_outcome g c =
    let a = c.args in
    let p = passes (slice_tests g.W.Width.BITS (length a.bytes.now) a.offset.0 a.len.0 a.start.0 a.end.0) (bad_index (a.end.0 - a.start.0) a.i.0 ∷ []) _ _
    c.in_err-slice_outcome.ensures c.from_residual.ensures.1 in
    rw (p.0, p.1)

pub returns : goal.returns
returns g c =
    let a = c.args in
    got_sliced-says g.W.Width.divides a.bytes a.offset.0 a.len.0 a.start.0 a.end.0 a.i.0 c.new-made.result c.slice-cut.result c.normalise-normal.result c.get.result
    c.in_ok-slice_outcome.ensures c.new-made.ensures c.slice-cut.ensures c.normalise-normal.ensures c.get.ensures
