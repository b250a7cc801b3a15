-- Each answer of this crate can be made again from what it says.
-- Assumes nothing.
use mathlib.Core.Path.{◌≡◌, refl, sym, ap, ◌∙◌}
use Prim.Native.Nat.{ℕ}
use Rattle.std.specs.Prelude.{Result, Ok, Err}
use Rattle.codes.specs.Refusals.{Outcome}
use Rattle.codes.specs.declared.units.Chars.{Chars}
use Rattle.codes.proofs.RefusalLaws.{Told, outcome_at, outcome_at_number}
use Rattle.stores.specs.Answers.{kept_by, pushed_says, kept_says}
use Rattle.stores.specs.declared.answers.Unchanged.{Unchanged}

abbrev count : ℕ → Chars
count n = record { 0 = n }

abbrev result_of : {A : Type 0} → (ℕ × ℕ × ℕ → A) → Outcome → ℕ × ℕ × ℕ → Result A Unchanged
result_of g (Ok _) v = Ok (g v)
result_of g (Err r) v = Err (record { refusal = r; len = count v.2 })

-- where the value can be made again from its numbers, so can the result
module _ {A : Type 0} (f : A → ℕ × ℕ × ℕ) (g : ℕ × ℕ × ℕ → A) (back : (x : A) → x ≡ g (f x)) where
  made : (r : Result A Unchanged) → r ≡ result_of g (outcome_at (kept_by f r).no) (kept_by f r).values
  made (Ok x) = ap Ok (back x) ∙ ap (λ (o : Outcome). result_of g o (f x)) (sym (outcome_at_number (Ok tt)))
  made (Err u) = sym (ap (λ (o : Outcome). result_of g o (0, 0, u.len.0)) (outcome_at_number (Err u.refusal)))

  kept_told_by : Told (kept_by f)
  kept_told_by = record { make = result_of g; back = made }

pub pushed_told : Told pushed_says
pushed_told = kept_told_by (λ p. (p.start.0, p.end.0, p.end.0)) (λ v. record { start = count v.0; end = count v.1 }) (λ p. refl)

pub kept_told : Told kept_says
kept_told = kept_told_by (λ n. (0, 0, n.0)) (λ v. count v.2) (λ n. refl)
