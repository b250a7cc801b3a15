-- For each public call: where its number is not 0, every other number and each lane is 0, and the lent buffers are what they were.
-- Assumes nothing.
use lib.ListN.{replicate}
use denote.Param.Laws.{Laws}
use denote.RattleType.{RattleType}
use mir.Syntax.{Dict}
use Rattle.codes.specs.declared.widths.Width.{Ghosts}
use Rattle.codes.proofs.Permitted.{Refuses, skip}
use Rattle.codes.proofs.RefusalLaws.{refused_keeps}
use Rattle.streams.specs.Answers.{shape_says, filled_says, lanes_say, delayed_say}
use Rattle.streams.specs.Streams.{shaped, fill_outcome, fill_answer, fill_after, step_outcome, step_lanes}
use Rattle.streams.proofs.calls.fill.Kinds as fill·kinds
use Rattle.streams.proofs.calls.fill.Reads as fill
use Rattle.streams.proofs.calls.fill_delayed.Kinds as fill-delayed·kinds
use Rattle.streams.proofs.calls.fill_delayed.Reads as fill-delayed
use Rattle.streams.proofs.calls.fill_delayed_2.Kinds as fill-delayed-2·kinds
use Rattle.streams.proofs.calls.fill_delayed_2.Reads as fill-delayed-2
use Rattle.streams.proofs.calls.shape.Kinds as shape·kinds
use Rattle.streams.proofs.calls.shape.Reads as shape
use Rattle.streams.proofs.calls.step.Kinds as step·kinds
use Rattle.streams.proofs.calls.step.Reads as step
use Rattle.streams.proofs.calls.step_delayed.Kinds as step-delayed·kinds
use Rattle.streams.proofs.calls.step_delayed.Reads as step-delayed
use Rattle.streams.proofs.calls.step_delayed_2.Kinds as step-delayed-2·kinds
use Rattle.streams.proofs.calls.step_delayed_2.Reads as step-delayed-2

-- at every width W
module _ (T : RattleType) (L : Laws T) (W : Ghosts T.Denot) (D : Dict) where
  pub shape_refused : Refuses 1 (shape·kinds.ps T L) (shape·kinds.r T L) (shape.Post T L W D) (λ κs. shape_says) (λ κs a. ((0, 0, 0), skip 3 tt))
  unfolding shaped
  shape_refused κs a x v p h = let n = rw p at h in rw (p, refused_keeps)

  pub fill_refused : Refuses 3 (fill·kinds.ps T L) (fill·kinds.r T L) (fill.Post T L W D) (λ κs. filled_says) (λ κs a. ((0, 0), skip 5 (a.1.1.1.1.1.0.now, tt)))
  unfolding fill_answer fill_after fill_outcome
  fill_refused κs a x v p h = let n = rw p.0 at h in let e = simp refused_keeps at p in λ i. ((e.0 i).values, skip 5 (e.1 i, tt))

  pub fill_delayed_refused : Refuses 4 (fill-delayed·kinds.ps T L) (fill-delayed·kinds.r T L) (fill-delayed.Post T L W D) (λ κs. filled_says)
      (λ κs a. ((0, 0), skip 6 (a.1.1.1.1.1.1.0.now, (a.1.1.1.1.1.1.1.0.now, tt))))
  unfolding fill_answer fill_after fill_outcome
  fill_delayed_refused κs a x v p h = let n = rw p.0 at h in let e = simp refused_keeps at p in λ i. ((e.0 i).values, skip 6 (e.1.0 i, (e.1.1 i, tt)))

  pub fill_delayed_2_refused : Refuses 5 (fill-delayed-2·kinds.ps T L) (fill-delayed-2·kinds.r T L) (fill-delayed-2.Post T L W D) (λ κs. filled_says)
      (λ κs a. ((0, 0), skip 7 (a.1.1.1.1.1.1.1.0.now, (a.1.1.1.1.1.1.1.1.0.now, (a.1.1.1.1.1.1.1.1.1.0.now, tt)))))
  unfolding fill_answer fill_after fill_outcome
  fill_delayed_2_refused κs a x v p h = let n = rw p.0 at h in let e = simp refused_keeps at p in λ i. ((e.0 i).values, skip 7 (e.1.0 i, (e.1.1.0 i, (e.1.1.1 i, tt))))

  pub step_refused : Refuses 2 (step·kinds.ps T L) (step·kinds.r T L) (step.Post T L W D) (λ κs. lanes_say) (λ κs a. (replicate 8 0, skip 6 tt))
  unfolding step_lanes step_outcome
  step_refused κs a x v p h = let n = rw p.0 at h in let e = simp refused_keeps at p.1 in λ i. (e i, skip 6 tt)

  pub step_delayed_refused : Refuses 2 (step-delayed·kinds.ps T L) (step-delayed·kinds.r T L) (step-delayed.Post T L W D) (λ κs. delayed_say 2) (λ κs a. (replicate 2 (replicate 8 0), skip 7 tt))
  unfolding step_lanes step_outcome
  step_delayed_refused κs a x v p h = let n = rw p.0 at h in let e = simp refused_keeps at p.1 in λ i. (e i, skip 7 tt)

  pub step_delayed_2_refused : Refuses 2 (step-delayed-2·kinds.ps T L) (step-delayed-2·kinds.r T L) (step-delayed-2.Post T L W D) (λ κs. delayed_say 3)
      (λ κs a. (replicate 3 (replicate 8 0), skip 8 tt))
  unfolding step_lanes step_outcome
  step_delayed_2_refused κs a x v p h = let n = rw p.0 at h in let e = simp refused_keeps at p.1 in λ i. (e i, skip 8 tt)
