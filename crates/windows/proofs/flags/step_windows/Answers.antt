-- The windows' tests, and then the step. Assumes nothing.
use mathlib.Core.Path.{sym}
use Rattle.codes.proofs.OutcomeLaws.{passes}
use Rattle.windows.specs.Answers.{running}
use Rattle.windows.specs.Windows.{window_tests, run_outcome}
use Rattle.windows.proofs.RunLaws.{own, run_refused}
use Rattle.windows.proofs.flags.step_windows.Goals as goal

pub run-requires : goal.run-requires
run-requires c = sym c.in_ok-window_outcome.ensures

pub returns-in_err-window_outcome : goal.returns-in_err-window_outcome
unfolding run_outcome
returns-in_err-window_outcome c =
    let a = c.args in
    let ts = window_tests a.bytes.now a.offset.0 a.len.0 a.context.0 a.k.0 in
    let us = own a.bytes.now a.offset.0 a.len.0 a.context.0 a.k.0 (running a.state) in
    let p = passes ts us _ _ c.in_err-window_outcome.ensures c.from_residual.ensures.1 in
    let q = run_refused a.bytes.now a.offset.0 a.len.0 a.context.0 a.k.0 (running a.state) p.1 p.0 in
    record { number = q.0; answers = q.1; state = q.2 }
