-- What a call of the C face says: the number that it returns, and the numbers behind its pointers.
-- Assumes nothing.
use Rattle.std.specs.Prelude.{List, ℕ}
use Rattle.codes.specs.Refusals.{Answer}
use Rattle.windows.specs.Windows.{Running}

abbrev pub said : {A : Type 0} → ℕ → A → Answer A
said n values = record { no = n; values = values }

-- the running state of flag windows: eight lane counts and the step
abbrev pub state : List ℕ → ℕ → Running
state counts step = record { counts = counts; at = step }

-- a part of a lent buffer: its first byte and the count of its bytes within the buffer, then the offset and the length
abbrev pub Part : Type 0
Part = ℕ × ℕ × ℕ × ℕ

-- beside a refusal
abbrev pub no_part : Part
no_part = (0, 0, 0, 0)
