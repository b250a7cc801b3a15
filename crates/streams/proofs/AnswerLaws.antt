-- Each answer of this crate can be made again from what it says.
-- Assumes nothing.
use mathlib.Core.Path.{refl}
use Prim.Native.Nat.{ℕ}
use Rattle.codes.proofs.AnswerLaws.{told_by}
use Rattle.codes.proofs.RefusalLaws.{Told}
use Rattle.streams.specs.Answers.{shape_says, filled_says, lanes_say, delayed_say}

pub shape_told : Told shape_says
shape_told = told_by (λ x. (x.lane.0, x.steps, x.padding.0)) (0, 0, 0) (λ v. record { lane = record { 0 = v.0 }; steps = v.1; padding = record { 0 = v.2 } }) (λ x. refl)

pub filled_told : Told filled_says
filled_told = told_by (λ x. (x.steps, x.padding.0)) (0, 0) (λ v. record { steps = v.0; padding = record { 0 = v.1 } }) (λ x. refl)

pub lanes_told : Told lanes_say
lanes_told = told_by (λ x. x) _ (λ x. x) (λ x. refl)

pub delayed_told : (n : ℕ) → Told (delayed_say n)
delayed_told n = told_by (λ x. x) _ (λ x. x) (λ x. refl)
