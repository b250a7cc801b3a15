-- What each answer of this crate says: its number, and its other numbers.
-- Assumes nothing.
use Rattle.std.specs.Prelude.{Result, Option, Some, None, Bool, false, ℕ, ℤ, pos}
use Rattle.codes.specs.Answers.{says_by}
use Rattle.codes.specs.Refusals.{Answer}
use Rattle.codes.specs.declared.refusals.Refusal.{Refusal}
use Rattle.codes.specs.declared.units.Chars.{Chars}
use Rattle.order.specs.Order.{order_number, placed}
use Rattle.order.specs.declared.answers.Compared.{Compared}

abbrev pub compared_says : Result Compared Refusal → Answer (ℤ × ℕ)
compared_says r = says_by (λ c. (order_number c.order, c.common.0)) (pos 0, 0) r

-- a place as a number
abbrev pub counted : Option Chars → Option ℕ
counted None = None
counted (Some p) = Some p.0

-- whether it was found, and the place
abbrev pub found_says : Result (Option Chars) Refusal → Answer (Bool × ℕ)
found_says r = says_by (λ p. placed (counted p)) (false, 0) r
