-- The four conditions of a finished file, one by one. Assumes nothing.
use native.Mathlib.Omega.{arith}
use Rattle.twowrite.proofs.StepLaws.{finish_left, finish_entry, finish_header, finish_place, finish_done}
use Rattle.twowrite.proofs.writing.finish.Goals as goal

pub returns-then-state-ne0 : goal.returns-then-state-ne0
returns-then-state-ne0 c = finish_left c.args.state c.if-state-ne0.true

pub returns-then-state : goal.returns-then-state
returns-then-state c = finish_entry c.args.state c.if-state.true

pub returns-then-state-lt-HEADER : goal.returns-then-state-lt-HEADER
returns-then-state-lt-HEADER c = finish_header c.args.state (omega arith)

pub returns-then-state-2 : goal.returns-then-state-2
returns-then-state-2 c = finish_place c.args.state (omega arith)

pub returns : goal.returns
returns c =
    finish_done c.args.state (omega arith) (omega arith) (omega arith) (omega arith)
