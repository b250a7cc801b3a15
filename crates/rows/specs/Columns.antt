-- The columns of a row: decimal numbers and the strand; and bytes put into a buffer.
-- Assumes nothing.
use Rattle.std.specs.Prelude.{List, [], ◌∷◌, ◌++◌, ◌≡◌, ℕ, zero, suc, ◌+◌, ◌/◌, ◌%◌, ltb, length}
use Rattle.std.proofs.lemmas.List.Edits.{sets}
use Rattle.codes.specs.Codes.{pick}
use Rattle.order.specs.Order.{compare}
use Rattle.std.specs.declared.cmp.Ordering.{Ordering}
use Rattle.std.specs.declared.cmp.Ordering.TheVariants.{Less, Equal, Greater}
use Rattle.fields.specs.Fields.{flipped}

-- a number in decimal, in at most k digits
unfoldable pub decimal_in : ℕ → ℕ → List ℕ
decimal_in zero n = []
decimal_in (suc k) n = pick (ltb n 10) ((48 + n) ∷ []) (decimal_in k (n / 10) ++ ((48 + n % 10) ∷ []))

abbrev pub decimal : ℕ → List ℕ
decimal = decimal_in 20

-- `<`, `=` or `>`
abbrev pub sign : Ordering → ℕ
sign Less = 60
sign Equal = 61
sign Greater = 62

-- bases against their reverse complement
unfoldable pub strand_of : List ℕ → ℕ
strand_of cs = sign (compare cs (flipped 2 cs))

-- the columns after the number, by tabs
unfoldable pub columns : ℕ → ℕ → ℕ → List ℕ
columns count ambiguous mark = decimal count ++ (9 ∷ (decimal ambiguous ++ (9 ∷ mark ∷ [])))

-- the bytes vs stand in l' from `at` on, which else is l; the place behind them
pub record Put (l : List ℕ) (at : ℕ) (vs l' : List ℕ) (next : ℕ) : Type 0 where
  pub behind : next ≡ at + length vs
  pub bytes : l' ≡ sets l at vs
