-- What the numbers of a part say.
-- Assumes nothing.
use Rattle.std.specs.Prelude.{Result, ℕ}
use Rattle.codes.specs.Answers.{says_by}
use Rattle.codes.specs.Refusals.{Answer}
use Rattle.codes.specs.declared.refusals.Refusal.{Refusal}
use Rattle.fields.specs.declared.inner.parts.Numbers.{Numbers}

-- the number of a part, its offset and its length
abbrev pub numbers_say : Result Numbers Refusal → Answer (ℕ × ℕ)
numbers_say r = says_by (λ n. (n.offset.0, n.len.0)) (0, 0) r
