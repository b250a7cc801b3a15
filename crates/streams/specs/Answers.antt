-- What each answer of this crate says: its number, and its other numbers.
-- Assumes nothing.
use Rattle.std.specs.Prelude.{Result, List, ℕ, replicate}
use Rattle.codes.specs.Answers.{says_by}
use Rattle.codes.specs.Refusals.{Answer}
use Rattle.codes.specs.declared.refusals.Refusal.{Refusal}
use Rattle.streams.specs.declared.answers.Shape.{Shape}
use Rattle.streams.specs.declared.answers.Filled.{Filled}

-- lane length, steps and padding
abbrev pub shape_says : Result Shape Refusal → Answer (ℕ × ℕ × ℕ)
shape_says r = says_by (λ x. (x.lane.0, x.steps, x.padding.0)) (0, 0, 0) r

-- the steps written, and the padding
abbrev pub filled_says : Result Filled Refusal → Answer (ℕ × ℕ)
filled_says r = says_by (λ x. (x.steps, x.padding.0)) (0, 0) r

-- the eight lanes of a step; zeros where it is refused
abbrev pub lanes_say : Result (List ℕ) Refusal → Answer (List ℕ)
lanes_say r = says_by (λ x. x) (replicate 8 0) r

-- the lanes of a step, and those of its delays, n in all
abbrev pub delayed_say : ℕ → Result (List (List ℕ)) Refusal → Answer (List (List ℕ))
delayed_say n r = says_by (λ x. x) (replicate n (replicate 8 0)) r
