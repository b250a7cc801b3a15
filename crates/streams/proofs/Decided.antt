-- For each public call: any two permitted outcomes coincide, in the answer and in all that is lent to be written.
-- Assumes nothing.
use denote.Param.Laws.{Laws}
use denote.RattleType.{RattleType}
use mir.Syntax.{Dict}
use Rattle.codes.specs.declared.widths.Width.{Ghosts}
use Rattle.std.specs.Prelude.{Result}
use Rattle.codes.specs.declared.refusals.Refusal.{Refusal}
use mathlib.Core.List.{List}
use mathlib.Core.Path.{◌≡◌, sym, ◌∙◌}
use Prim.Native.Nat.{ℕ}
use Rattle.codes.proofs.Permitted.{Decided, Once, skip}
use Rattle.codes.proofs.RefusalLaws.{says-once, leaves_once}
use Rattle.streams.proofs.AnswerLaws.{shape_told, filled_told, lanes_told, delayed_told}
use Rattle.streams.specs.Answers.{lanes_say, delayed_say}
use Rattle.streams.proofs.calls.fill.Kinds as fill·kinds
use Rattle.streams.proofs.calls.fill.Reads as fill
use Rattle.streams.proofs.calls.fill_delayed.Kinds as fill-delayed·kinds
use Rattle.streams.proofs.calls.fill_delayed.Reads as fill-delayed
use Rattle.streams.proofs.calls.fill_delayed_2.Kinds as fill-delayed-2·kinds
use Rattle.streams.proofs.calls.fill_delayed_2.Reads as fill-delayed-2
use Rattle.streams.proofs.calls.shape.Kinds as shape·kinds
use Rattle.streams.proofs.calls.shape.Reads as shape
use Rattle.streams.proofs.calls.step.Kinds as step·kinds
use Rattle.streams.proofs.calls.step.Reads as step
use Rattle.streams.proofs.calls.step_delayed.Kinds as step-delayed·kinds
use Rattle.streams.proofs.calls.step_delayed.Reads as step-delayed
use Rattle.streams.proofs.calls.step_delayed_2.Kinds as step-delayed-2·kinds
use Rattle.streams.proofs.calls.step_delayed_2.Reads as step-delayed-2

-- two results of which a contract says the number and the lanes
lanes_once : {n : ℕ} {l : List ℕ} (x y : Result (List ℕ) Refusal) → ((lanes_say x).no ≡ n) × ((lanes_say x).values ≡ l)
    → ((lanes_say y).no ≡ n) × ((lanes_say y).values ≡ l) → x ≡ y
lanes_once x y p q = says-once lanes_told x y (λ i. record { no = (p.0 ∙ sym q.0) i; values = (p.1 ∙ sym q.1) i })

delayed_once : (m : ℕ) {n : ℕ} {l : List (List ℕ)} (x y : Result (List (List ℕ)) Refusal) → ((delayed_say m x).no ≡ n) × ((delayed_say m x).values ≡ l)
    → ((delayed_say m y).no ≡ n) × ((delayed_say m y).values ≡ l) → x ≡ y
delayed_once m x y p q = says-once (delayed_told m) x y (λ i. record { no = (p.0 ∙ sym q.0) i; values = (p.1 ∙ sym q.1) i })

-- at every width W
module _ (T : RattleType) (L : Laws T) (W : Ghosts T.Denot) (D : Dict) where
  pub fill_decided : Once 3 (fill·kinds.ps T L) (fill·kinds.r T L) (fill.Post T L W D)
  fill_decided κs a x y v w p q = λ i. let e = leaves_once filled_told x y p q i in (e.0, skip 5 (e.1, tt))

  pub fill_delayed_decided : Once 4 (fill-delayed·kinds.ps T L) (fill-delayed·kinds.r T L) (fill-delayed.Post T L W D)
  fill_delayed_decided κs a x y v w p q =
      let says = says-once filled_told x y (p.0 ∙ sym q.0) in
      let out = p.1.0 ∙ sym q.1.0 in
      let delayed = p.1.1 ∙ sym q.1.1 in
      λ i. (says i, skip 6 (out i, (delayed i, tt)))

  pub fill_delayed_2_decided : Once 5 (fill-delayed-2·kinds.ps T L) (fill-delayed-2·kinds.r T L) (fill-delayed-2.Post T L W D)
  fill_delayed_2_decided κs a x y v w p q =
      let says = says-once filled_told x y (p.0 ∙ sym q.0) in
      let out = p.1.0 ∙ sym q.1.0 in
      let out1 = p.1.1.0 ∙ sym q.1.1.0 in
      let out2 = p.1.1.1 ∙ sym q.1.1.1 in
      λ i. (says i, skip 7 (out i, (out1 i, (out2 i, tt))))

  pub shape_decided : Decided 1 (shape·kinds.ps T L) (shape·kinds.r T L) (shape.Post T L W D)
  shape_decided κs a x y s t p q = says-once shape_told x y (p ∙ sym q)

  pub step_decided : Decided 2 (step·kinds.ps T L) (step·kinds.r T L) (step.Post T L W D)
  step_decided κs a x y s t p q = lanes_once x y p q

  pub step_delayed_decided : Decided 2 (step-delayed·kinds.ps T L) (step-delayed·kinds.r T L) (step-delayed.Post T L W D)
  step_delayed_decided κs a x y s t p q = delayed_once 2 x y p q

  pub step_delayed_2_decided : Decided 2 (step-delayed-2·kinds.ps T L) (step-delayed-2·kinds.r T L) (step-delayed-2.Post T L W D)
  step_delayed_2_decided κs a x y s t p q = delayed_once 3 x y p q
