-- Parts of views that are handed back: what making, slicing and normalising a view answer, and what reading a slice does.
-- Assumes nothing.
use Rattle.std.specs.Prelude.{List, [], ◌∷◌, ◌++◌, ℕ, ◌+◌, ◌-◌, ◌%◌, length, get_or}
use Rattle.codes.specs.Codes.{per, chars}
use Rattle.codes.specs.Refusals.{Answer, answer, first, bad_index, view_tests}
use Rattle.fields.specs.Fields.{slice_tests}
use Rattle.fields.specs.Spans.{Span, front, normal_part}

-- a part that is handed back: its bytes with their place, its offset and its length
pub record Lent : Type 0 where
  pub span : Span
  pub offset : ℕ
  pub len : ℕ

abbrev pub lent : Span → ℕ → ℕ → Lent
lent s o len = record { span = s; offset = o; len = len }

-- what a refusal hands back
abbrev pub empty : Span → Lent
empty s = lent (front s) 0 0

-- a view's normalised part, with offset mod C8
abbrev pub normal : ℕ → Span → ℕ → ℕ → Lent
normal w s o len = lent (normal_part w s o len) (o % per w) len

-- a view is made
unfoldable pub made : ℕ → Span → ℕ → ℕ → Answer Lent
made w s o len = answer (first (view_tests w (length s.bytes) o len)) (lent s o len) (empty s)

-- slicing keeps the buffer
unfoldable pub sliced : ℕ → Span → ℕ → ℕ → ℕ → ℕ → Answer Lent
sliced w s o len start end = answer (first (slice_tests w (length s.bytes) o len start end)) (lent s (o + start) (end - start)) (empty s)

-- normalising hands back the part
unfoldable pub normalised : ℕ → Span → ℕ → ℕ → Answer Lent
normalised w s o len = answer (first (view_tests w (length s.bytes) o len)) (normal w s o len) (empty s)

-- the character at an index of a slice
unfoldable pub got_sliced : ℕ → List ℕ → ℕ → ℕ → ℕ → ℕ → ℕ → Answer ℕ
got_sliced w bs o len start end i =
    answer (first (slice_tests w (length bs) o len start end ++ bad_index (end - start) i ∷ [])) (get_or (chars w bs o len) (start + i) 0) 0
