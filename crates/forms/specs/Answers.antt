-- What each answer of this crate says: its number, and its other number.
-- Assumes nothing.
use Rattle.std.specs.Prelude.{Result, ℕ, Option, Some, None}
use Rattle.codes.specs.Answers.{says_by}
use Rattle.codes.specs.Refusals.{Answer}
use Rattle.codes.specs.declared.refusals.Refusal.{Refusal}
use Rattle.codes.specs.declared.units.Bytes.{Bytes}
use Rattle.codes.specs.declared.units.Chars.{Chars}
use Rattle.forms.specs.Numbers.{Spelling}
use Rattle.forms.specs.declared.inner.numbers.Spelled.{Spelled}
use Rattle.forms.specs.declared.inner.reading.Checked.{Checked}

-- the bytes written
abbrev pub wrote_says : Result Bytes Refusal → Answer ℕ
wrote_says r = says_by (λ n. n.0) 0 r

-- the length of both stores
abbrev pub restored_says : Result Chars Refusal → Answer ℕ
restored_says r = says_by (λ n. n.0) 0 r

-- a number and how many bytes it took
abbrev pub spelled_says : Option Spelled → Option Spelling
spelled_says (Some s) = Some (record { value = s.value; size = s.size })
spelled_says None = None

-- the length of a form that can be read, and where its base bytes begin
abbrev pub checked_says : Result Checked Refusal → Answer (ℕ × ℕ)
checked_says r = says_by (λ c. (c.len.0, c.body)) (0, 0) r
