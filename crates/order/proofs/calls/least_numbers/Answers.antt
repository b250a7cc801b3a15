-- By the choice between the two. Assumes nothing.
use Rattle.fields.specs.Spans.{span_of}
use Rattle.order.proofs.LeastLaws.{numbers_chosen}
use Rattle.order.proofs.calls.least_numbers.Goals as goal

pub returns : goal.returns
returns g c =
    let a = c.args in
    numbers_chosen g.W.Width.BITS (span_of a.a) a.ao.0 a.al.0 (span_of a.b) a.bo.0 a.bl.0 c.choose-second.result c.choose-second.ensures _ c.chosen_numbers.ensures
