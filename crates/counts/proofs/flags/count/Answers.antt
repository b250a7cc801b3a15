-- Refused, or the range counted: the tests give what the counting asks for. Assumes nothing.
use mathlib.Core.Path.{sym, ◌∙◌}
use Prim.Native.Nat.{ℕ, ◌+◌, ◌^◌, ◌≤◌}
use native.Mathlib.Omega.{arith}
use borrow.Author.Tests.{ltb-false}
use lib.ListN.{length}
use Rattle.codes.specs.Codes.{chars, up, trailing}
use Rattle.codes.proofs.OutcomeLaws.{answer_passed, answer_done}
use Rattle.stores.proofs.CallLaws.{done_passed}
use Rattle.counts.specs.Blocks.{blocks, range_count}
use Rattle.counts.specs.Counts.{query_tests, queried}
use Rattle.counts.proofs.flags.count.Goals as goal

pub count_range-requires : goal.count_range-requires
count_range-requires c =
    let a = c.args in
    let m : ℕ = length a.buffer.now in
    let p = done_passed (query_tests m a.len.0 (length a.entries.now) a.start.0 a.end.0) c.in_ok-query_outcome.ensures in
    let small : m ≤ 2 ^ 28 = ltb-false (2 ^ 28) m p.0 in
    let sound : up 1 a.len.0 + trailing ≤ m = ltb-false m (up 1 a.len.0 + trailing) p.1.0 in
    let ends : a.end.0 ≤ a.len.0 = ltb-false a.len.0 a.end.0 p.1.1.0 in
    let starts : a.start.0 ≤ a.end.0 = ltb-false a.end.0 a.start.0 p.1.1.1.0 in
    let enough : blocks a.len.0 ≤ length a.entries.now = ltb-false (length a.entries.now) (blocks a.len.0) p.1.1.1.1.0 in
    record { track_len_bound = omega arith; start_le_end = omega arith }

pub returns-in_err-query_outcome : goal.returns-in_err-query_outcome
unfolding queried
returns-in_err-query_outcome c = answer_passed _ _ _ _ _ _ c.in_err-query_outcome.ensures c.from_residual.ensures.1

pub returns : goal.returns
unfolding queried
returns c =
    let a = c.args in
    answer_done _ _ _ 0 (sym c.in_ok-query_outcome.ensures)
    (c.count_range.ensures
    ∙ (λ i. range_count a.entries.now (chars 1 a.buffer.now 0 (c.count.ensures i)) (c.count-2.ensures i) (c.count-3.ensures i)))
