-- The part by the numbers and the bytes that are chosen. Assumes nothing.
use Rattle.fields.specs.Spans.{span_of}
use Rattle.order.proofs.LeastLaws.{part-chosen}
use Rattle.order.proofs.calls.least_part.Goals as goal

pub returns : goal.returns
returns g c =
    let a = c.args in
    part-chosen g.W.Width.BITS (span_of a.a) a.ao.0 a.al.0 (span_of a.b) a.bo.0 a.bl.0 c.choose-second.result c.choose-second.ensures
    _ _ _ c.chosen_numbers-numbers.ensures c.chosen_part-held.ensures c.of.ensures
