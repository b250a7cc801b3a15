-- What a result says: its number, and its other numbers.
-- Assumes nothing.
use Rattle.std.specs.Prelude.{Result, Ok, Err, ℕ, ◌/◌, ◌%◌, ◌^◌}
use Rattle.codes.specs.Refusals.{Answer, answer}
use Rattle.codes.specs.declared.inner.bits.Pair.{Pair}
use Rattle.codes.specs.declared.refusals.Refusal.{Refusal}

-- what a result says whose value stands for the numbers f, and which are zeros beside a refusal
abbrev pub says_by : {A V : Type 0} → (A → V) → V → Result A Refusal → Answer V
says_by f zeros (Ok x) = answer (Ok tt) (f x) zeros
says_by f zeros (Err r) = answer (Err r) zeros zeros

-- of one number
abbrev pub says : Result ℕ Refusal → Answer ℕ
says r = says_by (λ x. x) 0 r

-- the low and the high half of a word of 128 bits
abbrev pub halves : ℕ → ℕ × ℕ
halves x = (x % 2 ^ 64, x / 2 ^ 64)

-- of a word of 128 bits
abbrev pub word128_says : Result Pair Refusal → Answer (ℕ × ℕ)
word128_says r = says_by (λ p. (p.low, p.high)) (0, 0) r
