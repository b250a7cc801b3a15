-- The part of an accepted view, and nothing beside a refusal. Assumes nothing.
use mathlib.Core.Path.{sym, ◌∙◌}
use lib.ListN.{length}
use Rattle.codes.specs.Refusals.{first, view_tests}
use Rattle.fields.specs.Spans.{span_of, front}
use Rattle.codes.proofs.OutcomeLaws.{gives_done, gives_refused}
use Rattle.fields.proofs.inner.parts.normal_part.Goals as goal

pub accepted_part-requires : goal.accepted_part-requires
accepted_part-requires g c = sym c.view_outcome.ensures ∙ c.in-Ok.is

pub returns-in-Err : goal.returns-in-Err
returns-in-Err g c =
    let a = c.args in
    gives_refused (first (view_tests g.W.Width.BITS (length a.bytes.now) a.offset.0 a.len.0)) _ _ (front (span_of a.bytes)) (sym c.view_outcome.ensures ∙ c.in-Err.is)

pub returns-in-Ok : goal.returns-in-Ok
returns-in-Ok g c =
    let a = c.args in
    let tests = view_tests g.W.Width.BITS (length a.bytes.now) a.offset.0 a.len.0 in
    c.accepted_part.ensures ∙ gives_done (first tests) _ (front (span_of a.bytes)) (sym c.view_outcome.ensures ∙ c.in-Ok.is)
