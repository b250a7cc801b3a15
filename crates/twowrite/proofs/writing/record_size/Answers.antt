-- Where no test holds, the runs are counted. Assumes nothing.
use Rattle.std.specs.Prelude.{Ok}
use mathlib.Core.Path.{◌≡◌, sym, ap₂, ◌∙◌}
use Prim.Native.Nat.{ℕ, ◌^◌, ◌≤◌}
use native.Mathlib.Omega.{arith}
use lib.ListN.{length}
use Rattle.codes.specs.Codes.{chars}
use Rattle.codes.specs.Refusals.{first, view_tests, Outcome}
use Rattle.codes.proofs.OutcomeLaws.{answer_done, answer_passed}
use Rattle.codes.specs.Widths.{width_2}
use Rattle.codes.proofs.WidthLaws.{up_le}
use Rattle.fields.specs.Runs.{runs}
use Rattle.fields.proofs.ViewLaws.{Room, view_accepted}
use Rattle.twowrite.specs.Writing.{size_answer}
use Rattle.twowrite.proofs.RunLaws.{runs_few, record_size-is}
use Rattle.twowrite.proofs.writing.record_size.Goals.{After-count_runs-count, In_ok-view_outcome, Start}
use Rattle.twowrite.proofs.writing.record_size.Goals as goal

abbrev outcome : Start → Outcome
outcome s = first (view_tests 1 (length s.args.flags.now) s.args.flag_offset.0 s.args.flag_len.0)

module _ (c : In_ok-view_outcome) where
  done : outcome (goal.at.In_ok-view_outcome c).Start ≡ Ok tt
  done = sym c.in_ok-view_outcome.ensures

  room : Room 1 (length c.args.flags.now) c.args.flag_offset.0 c.args.flag_len.0
  room = view_accepted 1 (length c.args.flags.now) c.args.flag_offset.0 c.args.flag_len.0 done

module _ (c : After-count_runs-count) where
  counted : c.count_runs-count.result ≡ length (runs (chars 1 c.args.flags.now c.args.flag_offset.0 c.args.flag_len.0))
  counted = c.count_runs-count.ensures ∙ ap₂ (λ (o n : ℕ). length (runs (chars 1 c.args.flags.now o n))) c.count.ensures c.count-2.ensures

  few : c.count_runs-count.result ≤ 2 ^ 31
  few = let h = runs_few c.args.flags.now c.args.flag_offset.0 c.args.flag_len.0 (room (goal.at.After-count_runs-count c).In_ok-view_outcome) in omega (arith, counted)

pub overflow_mul-result : goal.overflow_mul-result
overflow_mul-result c = omega (arith, few c)

pub overflow_add-result : goal.overflow_add-result
overflow_add-result c = omega (arith, few c)

pub overflow_add-result-2 : goal.overflow_add-result-2
overflow_add-result-2 c =
    let n = c.args.flag_len.0 in
    let r = room (goal.at.overflow_add-result-2 c).In_ok-view_outcome in
    omega (arith, few (goal.at.overflow_add-result-2 c).After-count_runs-count, c.count-3.ensures ∙ c.bytes_as.ensures, up_le width_2 n, r.fits, r.small)

pub returns-in_err-view_outcome : goal.returns-in_err-view_outcome
unfolding size_answer
returns-in_err-view_outcome c =
    answer_passed _ _ _ _ _ _ c.in_err-view_outcome.ensures c.from_residual.ensures.1

pub returns : goal.returns
unfolding size_answer
returns c =
    let a = c.args in
    answer_done (outcome (goal.at.returns c).Start) _ _ 0 (done (goal.at.returns c).In_ok-view_outcome)
    (record_size-is a.flags.now a.flag_offset.0 a.flag_len.0 (counted (goal.at.returns c).After-count_runs-count) (c.count-3.ensures ∙ c.bytes_as.ensures))
