-- The answer is the first call's, and the buffer is filled where it is no refusal. Assumes nothing.
use Rattle.std.specs.Prelude.{Ok, Err}
use mathlib.Core.List.{[], ◌∷◌}
use mathlib.Core.Path.{◌∙◌}
use lib.ListN.{length}
use Rattle.streams.proofs.FillLaws.{Answered, refused_says, refused_keeps, done_ready, done_fills}
use Rattle.streams.proofs.calls.fill.Given.{Over}
use Rattle.streams.proofs.calls.fill.Goals.{In_ok-filled}
use Rattle.streams.proofs.calls.fill.Goals as goal

answered : (g : Over) (c : In_ok-filled g)
    → let a = c.args in
    Answered g.W.Width.BITS a.bytes.now a.offset.0 a.len.0 a.context.0 a.factor 0 0
    (length a.out.now ∷ []) (Ok c.in_ok-filled.filled)
answered g c = record { said = rw c.new-zero.ensures at c.in_ok-filled.ensures }

pub fill_one-requires : goal.fill_one-requires
fill_one-requires g c =
    let r = done_ready (answered g (goal.at.fill_one-requires g c).In_ok-filled) in record { factor_value = r.0; factor_in_bounds = r.1.0 }

pub returns-in_err-filled : goal.returns-in_err-filled
returns-in_err-filled g c =
    let a = c.args in
    let h : Answered g.W.Width.BITS a.bytes.now a.offset.0 a.len.0 a.context.0 a.factor 0 0 (length a.out.now ∷ []) (Err c.in_err-filled.field-0.0) = record { said = rw c.new-zero.ensures at c.in_err-filled.ensures } in
    record { answer = refused_says h _ c.from_residual.ensures.1; out = refused_keeps h _ _ }

pub returns : goal.returns
returns g c =
    let h = answered g (goal.at.returns g c).In_ok-filled in record {
      answer = h.said;
      out = (rw c.new-zero.ensures at c.fill_one.ensures) ∙ done_fills h _ _;
    }
