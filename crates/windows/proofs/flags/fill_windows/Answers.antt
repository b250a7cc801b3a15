-- The answer is the first call's, and the buffer is filled where it is no refusal. Assumes nothing.
use mathlib.Core.Path.{ap, ◌∙◌}
use lib.ListN.{length}
use Rattle.std.specs.Prelude.{Err}
use Rattle.std.proofs.lemmas.Result.{err_from_is_err_and}
use Rattle.streams.specs.Answers.{filled_says}
use Rattle.windows.proofs.WindowFillLaws.{windows_open, windows_is_done, windows_after_refused, windows_after_done}
use Rattle.windows.proofs.flags.fill_windows.Goals as goal

pub window_one-requires : goal.window_one-requires
window_one-requires c =
    let a = c.args in
    let d = windows_is_done a.bytes.now a.offset.0 a.len.0 a.context.0 a.k.0 a.skip a.out.now _ c.in_ok-filled.ensures in
    let r = windows_open a.bytes.now a.offset.0 a.len.0 a.context.0 a.k.0 a.skip (length a.out.now) d in record { k_value = r.0; skip_in_bounds = r.3 }

pub returns-in_err-filled : goal.returns-in_err-filled
returns-in_err-filled c =
    let a = c.args in
    let s = err_from_is_err_and c.from_residual.result c.from_residual.ensures.1 in
    record {
      answer = ap filled_says (s.1 ∙ ap Err s.2) ∙ c.in_err-filled.ensures;
      out = windows_after_refused a.bytes.now a.offset.0 a.len.0 a.context.0 a.k.0 a.skip a.out.now _ c.in_err-filled.ensures;
    }

pub returns : goal.returns
returns c =
    let a = c.args in
    let e = windows_after_done a.bytes.now a.offset.0 a.len.0 a.context.0 a.k.0 a.skip a.out.now _ c.in_ok-filled.ensures in
    record { answer = c.in_ok-filled.ensures; out = c.window_one.ensures ∙ e }
