-- The step's tests in their order; then the lanes that enter and leave give the answers and the next state. Assumes nothing.
use mathlib.Core.Bool.{Bool}
use mathlib.Core.List.{List}
use mathlib.Core.Path.{◌≡◌, refl, sym, ap, ap₂, ◌∙◌, subst}
use Prim.Native.Nat.{ℕ, ◌+◌, ◌-◌, ◌^◌, ◌<◌, ◌≤◌}
use native.Mathlib.Nat.{lt_of_lt_of_le}
use native.Mathlib.Omega.{arith}
use lib.Dec.{lit≤}
use lib.ListN.{length, get_or}
use Rattle.codes.specs.Codes.{chars}
use Rattle.codes.specs.Refusals.{number_of}
use Rattle.codes.proofs.CharLaws.{chars-fit}
use Rattle.codes.specs.Widths.{width_1}
use Rattle.lanes.specs.Lanes.{lane, lanes, steps}
use Rattle.lanes.proofs.LaneLaws.{Sized, stream_sizes}
use Rattle.windows.specs.Answers.{running}
use Rattle.windows.specs.Windows.{Running, any_lane, bad_state}
use Rattle.windows.proofs.RunLaws.{Windowed, window-open, bad_lane, lanes_small, bad_is, answers_are, state_is, sound, run_refused, run_done, run_past, run-bad, run-right}
use Rattle.windows.proofs.inner.running.run.Goals.{After-bad_counts, After-count-m, After-lanes_at-leave, Else-bad_counts, Start}
use Rattle.windows.proofs.inner.running.run.Goals as goal

-- the flags, the lanes' length, and the state
module _ (s : Start) where
  abbrev cs : List ℕ
  cs = chars 1 s.args.bytes.now s.args.offset.0 s.args.len.0

  abbrev n : ℕ
  n = lane 1 s.args.len.0 s.args.context.0 1

  abbrev k : ℕ
  k = s.args.k.0

  abbrev state : Running
  state = running s.args.state

  opened : Windowed s.args.bytes.now s.args.offset.0 s.args.len.0 s.args.context.0 k
  opened = window-open s.args.bytes.now s.args.offset.0 s.args.len.0 s.args.context.0 k s.requires

  sized : Sized 1 s.args.len.0 s.args.context.0 1
  sized = stream_sizes width_1 (length s.args.bytes.now) s.args.offset.0 s.args.len.0 s.args.context.0 1 opened.view opened.shape

pub plan_of-p-requires : goal.plan_of-p-requires
plan_of-p-requires c = (opened (goal.at.plan_of-p-requires c).Start).shape

pub returns-then-p-j : goal.returns-then-p-j
returns-then-p-j c =
    let a = c.args in
    let e = run_past a.bytes.now a.offset.0 a.len.0 a.context.0 (k (goal.at.returns-then-p-j c).Start) (state (goal.at.returns-then-p-j c).Start) c.requires
    (omega (arith, c.plan_of-p.ensures.steps)) in
    let q = run_refused a.bytes.now a.offset.0 a.len.0 a.context.0 (k (goal.at.returns-then-p-j c).Start) (state (goal.at.returns-then-p-j c).Start) e refl in
    record { number = q.0; answers = q.1; state = q.2 }

pub overflow_sub-most : goal.overflow_sub-most
overflow_sub-most c = omega (arith, (opened (goal.at.overflow_sub-most c).Start).low, c.count-most.ensures)

-- the lanes are those of the plan
module _ (c : After-count-m) where
  few : (c.plan_of-p.result.lane ≤ 2 ^ 29) × (c.plan_of-p.result.steps ≤ 2 ^ 32)
  few = (omega (arith, (sized (goal.at.After-count-m c).Start).lane-few, c.plan_of-p.ensures.lane), omega (arith, (sized (goal.at.After-count-m c).Start).steps-few, c.plan_of-p.ensures.steps))

  planned : (e : ℕ) → lanes (chars 1 c.args.bytes.now c.count-o.result c.count-m.result) c.plan_of-p.result.lane e (state (goal.at.After-count-m c).Start).at ≡ lanes
      (cs (goal.at.After-count-m c).Start) (n (goal.at.After-count-m c).Start) e (state (goal.at.After-count-m c).Start).at
  planned e =
      ap₂ (λ (x : List ℕ) (m : ℕ). lanes x m e (state (goal.at.After-count-m c).Start).at) (ap₂ (chars 1 c.args.bytes.now) c.count-o.ensures c.count-m.ensures) c.plan_of-p.ensures.lane

pub lanes_at-enter-requires : goal.lanes_at-enter-requires
lanes_at-enter-requires c = record { len_value = rw (c.count-o.ensures, c.count-m.ensures) (opened (goal.at.lanes_at-enter-requires c).Start).view; n_bound = ((few c).0, omega (arith, (few c).1)) }

pub lanes_at-leave-requires : goal.lanes_at-leave-requires
lanes_at-leave-requires c =
    record { len_value = rw (c.count-o.ensures, c.count-m.ensures) (opened (goal.at.lanes_at-leave-requires c).Start).view; n_bound = ((few (goal.at.lanes_at-leave-requires c).After-count-m).0, omega (arith, (few (goal.at.lanes_at-leave-requires c).After-count-m).1)) }

module _ (c : After-lanes_at-leave) where
  abbrev enter : List ℕ
  enter = c.lanes_at-enter.result

  abbrev leave : List ℕ
  leave = c.lanes_at-leave.result

  enter_is : enter ≡ lanes (cs (goal.at.After-lanes_at-leave c).Start) (n (goal.at.After-lanes_at-leave c).Start) 0 (state (goal.at.After-lanes_at-leave c).Start).at
  enter_is = c.lanes_at-enter.ensures ∙ planned (goal.at.After-lanes_at-leave c).After-count-m 0

  leave_is : leave ≡ lanes (cs (goal.at.After-lanes_at-leave c).Start) (n (goal.at.After-lanes_at-leave c).Start) (k (goal.at.After-lanes_at-leave c).Start - 1)
      (state (goal.at.After-lanes_at-leave c).Start).at
  leave_is = c.lanes_at-leave.ensures ∙ planned (goal.at.After-lanes_at-leave c).After-count-m _
      ∙ ap (λ (m : ℕ). lanes (cs (goal.at.After-lanes_at-leave c).Start) (n (goal.at.After-lanes_at-leave c).Start) (m - 1) (state (goal.at.After-lanes_at-leave c).Start).at) c.count-most.ensures

  small : (l : ℕ) → get_or enter l 0 < 16
  small l =
      let a = c.args in
      let fit = chars-fit 1 a.bytes.now a.offset.0 a.len.0 in
      subst (λ (x : List ℕ). get_or x l 0 < 16) (sym enter_is)
      (lt_of_lt_of_le (lanes_small 1 (cs (goal.at.After-lanes_at-leave c).Start) fit (n (goal.at.After-lanes_at-leave c).Start) 0 (state (goal.at.After-lanes_at-leave c).Start).at l) (lit≤ tt))

  within : (state (goal.at.After-lanes_at-leave c).Start).at < steps 1 c.args.len.0 c.args.context.0 1
  within = omega (arith, c.if-p-j.false, c.plan_of-p.ensures.steps)

pub bad_counts-requires : goal.bad_counts-requires
bad_counts-requires c = (omega (arith, (opened (goal.at.bad_counts-requires c).Start).high, c.count-most.ensures), small c)

-- whether the state is bad
module _ (c : After-bad_counts) where
  abbrev o : Start
  o = (goal.at.After-bad_counts c).Start

  abbrev t : After-lanes_at-leave
  t = (goal.at.After-bad_counts c).After-lanes_at-leave

  bad_as : c.bad_counts.result ≡ any_lane 8 (bad_lane (k o - 1) (state o).counts (enter t) (leave t))
  bad_as = c.bad_counts.ensures ∙ ap (λ (m : ℕ). any_lane 8 (bad_lane (m - 1) (state o).counts (enter t) (leave t))) c.count-most.ensures

  judged : {b : Bool} → c.bad_counts.result ≡ b → (bad_state (cs o) (n o) (k o) (state o)).0 ≡ b
  judged q = sym (bad_is (cs o) (n o) (k o) (state o) (enter t) (leave t) (enter_is t) (leave_is t)) ∙ sym bad_as ∙ q

pub returns-then-bad_counts : goal.returns-then-bad_counts
returns-then-bad_counts c =
    let a = c.args in
    let e = run-bad a.bytes.now a.offset.0 a.len.0 a.context.0 (k (goal.at.returns-then-bad_counts c).Start) (state (goal.at.returns-then-bad_counts c).Start) c.requires
    (within (goal.at.returns-then-bad_counts c).After-lanes_at-leave) (judged (goal.at.returns-then-bad_counts c).After-bad_counts c.if-bad_counts.true) in
    let q = run_refused a.bytes.now a.offset.0 a.len.0 a.context.0 (k (goal.at.returns-then-bad_counts c).Start) (state (goal.at.returns-then-bad_counts c).Start) e refl in
    record { number = q.0; answers = q.1; state = q.2 }

calm : (c : Else-bad_counts) (l : ℕ) → l < 8
    → (get_or (state (goal.at.Else-bad_counts c).Start).counts l 0 ≤ 95)
    × (get_or (leave (goal.at.Else-bad_counts c).After-lanes_at-leave) l 0 ≤ get_or (state (goal.at.Else-bad_counts c).Start).counts l 0 + get_or
    (enter (goal.at.Else-bad_counts c).After-lanes_at-leave) l 0)
calm c l h =
    let x = (goal.at.Else-bad_counts c).After-lanes_at-leave in
    sound (cs (goal.at.Else-bad_counts c).Start) (n (goal.at.Else-bad_counts c).Start) (k (goal.at.Else-bad_counts c).Start) (state (goal.at.Else-bad_counts c).Start) (enter x)
    (leave x) (enter_is x) (leave_is x) (opened (goal.at.Else-bad_counts c).Start).high (sym (bad_as (goal.at.Else-bad_counts c).After-bad_counts) ∙ c.if-bad_counts.false) l h

pub answers_of-answers-requires : goal.answers_of-answers-requires
answers_of-answers-requires c = λ l h. ((calm c l h).0, small (goal.at.answers_of-answers-requires c).After-lanes_at-leave l)

pub counts_after-next-requires : goal.counts_after-next-requires
counts_after-next-requires c = λ l h. (
  (calm (goal.at.counts_after-next-requires c).Else-bad_counts l h).0,
  small (goal.at.counts_after-next-requires c).After-lanes_at-leave l,
  (calm (goal.at.counts_after-next-requires c).Else-bad_counts l h).1,
)

pub returns : goal.returns
returns c =
    let x = (goal.at.returns c).After-lanes_at-leave in
    let s = (goal.at.returns c).Start in
    let a = c.args in
    let e = run-right a.bytes.now a.offset.0 a.len.0 a.context.0 (k s) (state s) c.requires (within x) (judged (goal.at.returns c).After-bad_counts c.if-bad_counts.false) in
    let r = run_done a.bytes.now a.offset.0 a.len.0 a.context.0 (k s) (state s) e in
    let answers = answers_are (cs s) (n s) (k s) (state s) (enter x) (leave x) (enter_is x) (leave_is x) in
    let next = state_is (cs s) (n s) (k s) (state s) (enter x) (leave x) (enter_is x) (leave_is x) in
    record {
      number = sym (ap number_of e);
      answers = c.answers_of-answers.ensures ∙ answers
          ∙ sym r.0;
      state = ap (λ (y : List ℕ). record { counts = y; at = a.state.step + 1 }) c.counts_after-next.ensures ∙ next ∙ sym r.1;
    }
