-- The fewest bytes, and none of them beside a refusal. Assumes nothing.
use Rattle.fields.specs.Spans.{span_of}
use Rattle.views.proofs.PartLaws.{normalised-says}
use Rattle.views.proofs.view.View.normalise.Goals as goal

pub returns : goal.returns
returns g c =
    let v = c.args.self in
    normalised-says (span_of v.bytes) _ _ _ c.of.ensures g.W.Width.BITS v.offset.0 v.len.0
    c.normal_numbers-numbers.ensures c.normal_part-held.ensures
