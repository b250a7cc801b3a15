-- The bytes themselves, by the numbers of the slice. Assumes nothing.
use mathlib.Core.Path.{refl}
use Rattle.fields.specs.Spans.{span_of}
use Rattle.views.proofs.PartLaws.{sliced-says}
use Rattle.views.proofs.view.View.slice.Goals as goal

pub returns : goal.returns
returns g c =
    let v = c.args.self in
    let s = span_of v.bytes in
    sliced-says s s _ _ c.of.ensures g.W.Width.BITS v.offset.0 v.len.0 c.args.start.0 c.args.end.0 refl c.slice_numbers-numbers.ensures
