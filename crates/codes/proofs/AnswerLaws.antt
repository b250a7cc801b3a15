-- Each answer can be made again from what it says.
-- Assumes nothing.
use mathlib.Core.Path.{◌≡◌, refl, sym, ap, ◌∙◌}
use Rattle.std.specs.Prelude.{Result, Ok, Err}
use Rattle.codes.specs.Answers.{says_by, says, word128_says}
use Rattle.codes.specs.Refusals.{Outcome}
use Rattle.codes.specs.declared.refusals.Refusal.{Refusal}
use Rattle.codes.proofs.RefusalLaws.{Told, outcome_at, outcome_at_number}

-- the result of an outcome and of the numbers that its value stands for
abbrev pub result_of : {A V : Type 0} → (V → A) → Outcome → V → Result A Refusal
result_of g (Ok _) v = Ok (g v)
result_of g (Err r) v = Err r

-- where the value can be made again from its numbers, so can the result
module _ {A V : Type 0} (f : A → V) (zeros : V) (g : V → A) (back : (x : A) → x ≡ g (f x)) where
  made : (r : Result A Refusal) → r ≡ result_of g (outcome_at (says_by f zeros r).no) (says_by f zeros r).values
  made (Ok x) = ap Ok (back x) ∙ ap (λ (o : Outcome). result_of g o (f x)) (sym (outcome_at_number (Ok tt)))
  made (Err r) = ap (λ (o : Outcome). result_of g o zeros) (sym (outcome_at_number (Err r)))

  pub told_by : Told (says_by f zeros)
  told_by = record { make = result_of g; back = made }

pub told : Told says
told = told_by (λ x. x) _ (λ x. x) (λ x. refl)

pub word128_told : Told word128_says
word128_told = told_by (λ p. (p.low, p.high)) _ (λ v. record { low = v.0; high = v.1 }) (λ p. refl)
