-- What each answer of this crate says: its number, and its start, end and length.
-- Assumes nothing.
use Rattle.std.specs.Prelude.{Result, Ok, Err, ℕ}
use Rattle.codes.specs.Refusals.{Answer, answer}
use Rattle.codes.specs.declared.units.Chars.{Chars}
use Rattle.stores.specs.declared.answers.Pushed.{Pushed}
use Rattle.stores.specs.declared.answers.Unchanged.{Unchanged}

-- what a result says whose value stands for the numbers f; beside a refusal the length stays, and the others are 0
abbrev pub kept_by : {A : Type 0} → (A → ℕ × ℕ × ℕ) → Result A Unchanged → Answer (ℕ × ℕ × ℕ)
kept_by f (Ok x) = answer (Ok tt) (f x) (0, 0, 0)
kept_by f (Err u) = answer (Err u.refusal) (0, 0, 0) (0, 0, u.len.0)

-- a push that is done leaves the length at its end
abbrev pub pushed_says : Result Pushed Unchanged → Answer (ℕ × ℕ × ℕ)
pushed_says r = kept_by (λ p. (p.start.0, p.end.0, p.end.0)) r

abbrev pub kept_says : Result Chars Unchanged → Answer (ℕ × ℕ × ℕ)
kept_says r = kept_by (λ n. (0, 0, n.0)) r
