-- What a part of this crate says: its number, and its other values.
-- Assumes nothing.
use Rattle.codes.specs.Refusals.{Answer, number_of}
use Rattle.fields.specs.Spans.{span_of}
use Rattle.views.specs.Views.{Lent, lent}
use Rattle.views.specs.declared.view.Part.{Part}

-- a part's number, and its bytes with their place, its offset and its length
abbrev pub part_says : Part → Answer Lent
part_says p = record { no = number_of p.outcome; values = lent (span_of p.view.bytes) p.view.offset.0 p.view.len.0 }
