-- The windows' tests, then those of the skip, the partial windows and the room. Assumes nothing.
use Rattle.std.specs.Prelude.{Ok}
use mathlib.Core.Bool.{false}
use mathlib.Core.List.{List}
use mathlib.Core.Path.{◌≡◌, sym, ap, ap₂, ◌∙◌}
use Prim.Native.Nat.{ℕ, ◌-◌, ◌*◌}
use native.Mathlib.Omega.{arith}
use lib.Dec.{ltb}
use lib.ListN.{length}
use borrow.Author.Tests.{lt-ltb, le-ltb}
use Rattle.codes.specs.Refusals.{Test, first}
use Rattle.codes.specs.declared.refusals.Refusal.TheVariants.{BadStream, NoRoom, Partial}
use Rattle.codes.specs.Widths.{width_1}
use Rattle.codes.proofs.OutcomeLaws.{passes, answer_done, answer_refused}
use Rattle.codes.proofs.TestLaws.{first_behind}
use Rattle.lanes.specs.Lanes.{padding, steps}
use Rattle.windows.specs.Windows.{partial, window_tests, windows_outcome, windows_answer}
use Rattle.lanes.proofs.LaneLaws.{stream_sizes}
use Rattle.windows.proofs.RunLaws.{Windowed, window-open}
use Rattle.windows.proofs.WindowFillLaws.{fills_own}
use Rattle.windows.proofs.inner.windows.windows_answer.Goals.{After-partial, In_ok-window_outcome, Start}
use Rattle.windows.proofs.inner.windows.windows_answer.Goals as goal

-- the windows' tests, filling's own, and the answer
module _ (s : Start) where
  abbrev tests : List Test
  tests = window_tests s.args.bytes.now s.args.offset.0 s.args.len.0 s.args.context.0 s.args.k.0

  abbrev many : ℕ
  many = steps 1 s.args.len.0 s.args.context.0 1

  abbrev own : List Test
  own = fills_own many s.args.context.0 s.args.k.0 s.args.skip s.args.room

  abbrev given : ℕ × ℕ
  given = (many - s.args.skip, padding 1 s.args.len.0 s.args.context.0 1)

-- the windows are not refused
module _ (c : In_ok-window_outcome) where
  done : first (tests (goal.at.In_ok-window_outcome c).Start) ≡ Ok tt
  done = sym c.in_ok-window_outcome.ensures

  right : Windowed c.args.bytes.now c.args.offset.0 c.args.len.0 c.args.context.0 c.args.k.0
  right = window-open c.args.bytes.now c.args.offset.0 c.args.len.0 c.args.context.0 c.args.k.0 done

pub plan_of-p-requires : goal.plan_of-p-requires
plan_of-p-requires c = (right c).shape

pub returns-then-p-skip : goal.returns-then-p-skip
unfolding windows_answer windows_outcome
returns-then-p-skip c =
    let e = first_behind (tests (goal.at.returns-then-p-skip c).Start) (own (goal.at.returns-then-p-skip c).Start) (done (goal.at.returns-then-p-skip c).In_ok-window_outcome) 0
    (lt-ltb (many (goal.at.returns-then-p-skip c).Start) c.args.skip (omega (arith, c.plan_of-p.ensures.steps))) in
    answer_refused _ BadStream (given (goal.at.returns-then-p-skip c).Start) (0, 0) (sym e)

pub partial-requires : goal.partial-requires
partial-requires c = (right (goal.at.partial-requires c).In_ok-window_outcome).low

-- nor is the skip
module _ (c : After-partial) where
  skips : ltb (many (goal.at.After-partial c).Start) c.args.skip ≡ false
  skips = le-ltb (many (goal.at.After-partial c).Start) c.args.skip (omega (arith, c.plan_of-p.ensures.steps))

  judged : (partial (many (goal.at.After-partial c).Start) c.args.context.0 c.args.k.0 c.args.skip).0 ≡ c.partial.result
  judged = sym (c.partial.ensures ∙ ap (λ (n : ℕ). (partial n c.args.context.0 c.args.k.0 c.args.skip).0) c.plan_of-p.ensures.steps)

pub returns-then-partial : goal.returns-then-partial
unfolding windows_answer windows_outcome
returns-then-partial c =
    let e = first_behind (tests (goal.at.returns-then-partial c).Start) (own (goal.at.returns-then-partial c).Start) (done (goal.at.returns-then-partial c).In_ok-window_outcome) 1
    (skips (goal.at.returns-then-partial c).After-partial, judged (goal.at.returns-then-partial c).After-partial ∙ c.if-partial.true) in
    answer_refused _ Partial (given (goal.at.returns-then-partial c).Start) (0, 0) (sym e)

pub overflow_mul-left : goal.overflow_mul-left
overflow_mul-left c =
    let a = c.args in
    let z = stream_sizes width_1 (length a.bytes.now) a.offset.0 a.len.0 a.context.0 1 (right (goal.at.overflow_mul-left c).In_ok-window_outcome).view (right (goal.at.overflow_mul-left c).In_ok-window_outcome).shape in
    omega (arith, z.steps-few, c.plan_of-p.ensures.steps)

pub returns-then-room-left : goal.returns-then-room-left
unfolding windows_answer windows_outcome
returns-then-room-left c =
    let a = c.args in
    let q = c.plan_of-p.ensures.steps in
    let room = lt-ltb a.room (8 * (many (goal.at.returns-then-room-left c).Start - a.skip)) (omega arith) in
    let e = first_behind (tests (goal.at.returns-then-room-left c).Start) (own (goal.at.returns-then-room-left c).Start) (done (goal.at.returns-then-room-left c).In_ok-window_outcome) 2
    (skips (goal.at.returns-then-room-left c).After-partial, (judged (goal.at.returns-then-room-left c).After-partial ∙ c.if-partial.false, room)) in
    answer_refused _ NoRoom (given (goal.at.returns-then-room-left c).Start) (0, 0) (sym e)

pub returns-in_err-window_outcome : goal.returns-in_err-window_outcome
unfolding windows_answer windows_outcome
returns-in_err-window_outcome c =
    let s = (goal.at.returns-in_err-window_outcome c).Start in
    let p = passes (tests s) (own s) _ _ c.in_err-window_outcome.ensures c.from_residual.ensures.1 in
    rw (p.0, p.1)

pub returns : goal.returns
unfolding windows_answer windows_outcome
returns c =
    let a = c.args in
    let p = c.plan_of-p in
    let q = p.ensures.steps in
    let room = le-ltb a.room (8 * (many (goal.at.returns c).Start - a.skip)) (omega arith) in
    let e = first_behind (tests (goal.at.returns c).Start) (own (goal.at.returns c).Start) (done (goal.at.returns c).In_ok-window_outcome) 3
    (skips (goal.at.returns c).After-partial, (judged (goal.at.returns c).After-partial ∙ c.if-partial.false, (room, tt))) in
    answer_done _ (p.result.steps - a.skip, c.new.result.0) (given (goal.at.returns c).Start) (0, 0) (sym e)
    (ap₂ (λ (x y : ℕ). (x - a.skip, y)) q (c.new.ensures ∙ p.ensures.padding))
