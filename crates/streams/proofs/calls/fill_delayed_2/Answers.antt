-- The answer is the first call's, by the least room, and all three buffers are filled where it is no refusal. Assumes nothing.
use Rattle.std.specs.Prelude.{Ok, Err}
use mathlib.Core.List.{[], ◌∷◌}
use mathlib.Core.Path.{◌∙◌}
use lib.ListN.{length}
use Rattle.streams.proofs.FillLaws.{Answered, answered-least, refused_says, refused_keeps, done_ready, done_fills}
use Rattle.streams.proofs.calls.fill_delayed_2.Given.{Over}
use Rattle.streams.proofs.calls.fill_delayed_2.Goals.{In_ok-filled}
use Rattle.streams.proofs.calls.fill_delayed_2.Goals as goal

answered : (g : Over) (c : In_ok-filled g)
    → let a = c.args in
    Answered g.W.Width.BITS a.bytes.now a.offset.0 a.len.0 a.context.0 a.factor a.first.0 a.second.0
    (length a.out.now ∷ length a.out1.now ∷ length a.out2.now ∷ []) (Ok c.in_ok-filled.filled)
answered g c = answered-least (answered-least (record { said = c.in_ok-filled.ensures }) _ _ c.smaller-room.ensures) _ _ c.smaller.ensures

pub fill_one-requires : goal.fill_one-requires
fill_one-requires g c =
    let r = done_ready (answered g (goal.at.fill_one-requires g c).In_ok-filled) in record { factor_value = r.0; factor_in_bounds = r.1.0 }

pub fill_one-requires-2 : goal.fill_one-requires-2
fill_one-requires-2 g c =
    let r = done_ready (answered g (goal.at.fill_one-requires-2 g c).In_ok-filled) in record { factor_value = r.0; factor_in_bounds = r.1.1.0 }

pub fill_one-requires-3 : goal.fill_one-requires-3
fill_one-requires-3 g c =
    let r = done_ready (answered g (goal.at.fill_one-requires-3 g c).In_ok-filled) in record { factor_value = r.0; factor_in_bounds = r.1.1.1.0 }

pub returns-in_err-filled : goal.returns-in_err-filled
returns-in_err-filled g c =
    let a = c.args in
    let h : Answered g.W.Width.BITS a.bytes.now a.offset.0 a.len.0 a.context.0 a.factor a.first.0 a.second.0 (length a.out.now ∷ length a.out1.now ∷ length a.out2.now ∷ []) (Err c.in_err-filled.field-0.0) = answered-least (answered-least (record { said = c.in_err-filled.ensures }) _ _ c.smaller-room.ensures) _ _ c.smaller.ensures in
    record { answer = refused_says h _ c.from_residual.ensures.1; out = refused_keeps h _ _; out1 = refused_keeps h _ _; out2 = refused_keeps h _ _ }

pub returns : goal.returns
returns g c =
    let h = answered g (goal.at.returns g c).In_ok-filled in record {
      answer = h.said;
      out = (rw c.new-none.ensures at c.fill_one.ensures) ∙ done_fills h _ _;
      out1 = c.fill_one-2.ensures ∙ done_fills h _ _;
      out2 = c.fill_one-3.ensures ∙ done_fills h _ _;
    }
