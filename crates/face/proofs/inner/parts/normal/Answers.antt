-- The count of the bytes that an accepted view needs. Assumes nothing.
use mathlib.Core.Path.{ap, ◌∙◌}
use lib.ListN.{length}
use Rattle.fields.specs.Spans.{Span, span_of}
use Rattle.fields.proofs.ViewLaws.{view_accepted, normal-length}
use Rattle.face.proofs.inner.parts.normal.Goals as goal

pub returns : goal.returns
returns g c =
    let a = c.args in
    let room = view_accepted g.W.Width.BITS (length a.bytes.now) a.offset.0 a.len.0 c.requires in
    let size = ap (λ (s : Span). length s.bytes) c.accepted_part.ensures ∙ normal-length g.W.Width.divides (span_of a.bytes) a.offset.0 a.len.0 room in
    rw (c.count.ensures, c.byte_of.ensures, c.count-2.ensures, c.within_byte.ensures, c.count-3.ensures, size)
