-- The bytes themselves, by the numbers of the view. Assumes nothing.
use mathlib.Core.Path.{refl}
use Rattle.fields.specs.Spans.{span_of}
use Rattle.views.proofs.PartLaws.{made-says}
use Rattle.views.proofs.view.View.new.Goals as goal

pub returns : goal.returns
returns g c =
    let s = span_of c.args.bytes in
    made-says s s _ _ c.of.ensures g.W.Width.BITS c.args.offset.0 c.args.len.0 refl c.made_numbers-numbers.ensures
