-- Each answer of this crate can be made again from what it says.
-- Assumes nothing.
use Rattle.std.specs.declared.cmp.Ordering.{Ordering}
use Rattle.std.specs.declared.cmp.Ordering.TheVariants.{Less, Equal, Greater}
use Rattle.std.specs.Prelude.{Option, Some, None}
use mathlib.Core.Path.{◌≡◌, refl, ap}
use Prim.Native.Nat.{ℕ, zero, suc}
use mathlib.Core.Bool.{Bool, true, false}
use lib.IntN.{ℤ, pos, negsuc}
use Rattle.codes.specs.declared.units.Chars.{Chars}
use Rattle.codes.proofs.AnswerLaws.{told_by}
use Rattle.codes.proofs.RefusalLaws.{Told}
use Rattle.order.specs.Answers.{compared_says, counted, found_says}
use Rattle.order.specs.Order.{order_number, placed}

-- the order of a number
abbrev pub order_at : ℤ → Ordering
order_at (negsuc n) = Less
order_at (pos zero) = Equal
order_at (pos (suc n)) = Greater

pub order_back : (o : Ordering) → o ≡ order_at (order_number o)
order_back Less = refl
order_back Equal = refl
order_back Greater = refl

pub compared_told : Told compared_says
compared_told =
    told_by (λ c. (order_number c.order, c.common.0)) _ (λ v. record { order = order_at v.0; common = record { 0 = v.1 } })
    (λ c. ap (λ (o : Ordering). record { order = o; common = c.common }) (order_back c.order))

-- the place of a number, if it was found
abbrev place_at : Bool × ℕ → Option Chars
place_at (true, p) = Some (record { 0 = p })
place_at (false, p) = None

place_back : (p : Option Chars) → p ≡ place_at (placed (counted p))
place_back None = refl
place_back (Some p) = refl

pub found_told : Told found_says
found_told = told_by (λ p. placed (counted p)) _ place_at place_back
