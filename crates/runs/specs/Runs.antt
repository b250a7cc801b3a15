-- What a run of new characters leaves in a buffer.
-- Assumes nothing.
use Rattle.std.specs.Prelude.{List, ◌++◌, ℕ, ◌+◌, ◌-◌, ◌*◌, ◌%◌, ltb, eqb, length, get_or, replicate}
use Rattle.codes.specs.Codes.{per, chars, up, trailing, pick, char_at}
use Rattle.codes.specs.Words.{pack}

-- the next multiple of C8 at or above the length, plus the view's in-byte offset
abbrev pub seq_start : ℕ → ℕ → ℕ → ℕ
seq_start w len o = up w len * per w + o % per w

-- gap characters are 0 at width 2 and 1 at width 1
abbrev pub gap_char : ℕ → ℕ
gap_char w = pick (eqb w 1) 1 0

-- the gap before a view that is pushed, and the view's characters
abbrev pub seq_chars : ℕ → ℕ → List ℕ → ℕ → ℕ → List ℕ
seq_chars w len bs o n = replicate (seq_start w len o - len) (gap_char w) ++ chars w bs o n

-- f's characters below `at`, then those of cs and zeros up to `stop`, then f's
unfoldable pub splice : (ℕ → ℕ) → ℕ → List ℕ → ℕ → ℕ → ℕ
splice f at cs stop i = pick (ltb i at) (f i) (pick (ltb i stop) (get_or cs (i - at) 0) (f i))

-- the buffer with the characters of cs from `at` on and zeros behind them up to `stop`, and every other bit as it was
abbrev pub spliced : ℕ → List ℕ → ℕ → List ℕ → ℕ → List ℕ
spliced w bs at cs stop = pack w (length bs) (splice (char_at w bs) at cs stop)

-- the buffer with the characters below `at`, then cs, then zeros to the end of the 48th byte behind
unfoldable pub written : ℕ → List ℕ → ℕ → List ℕ → List ℕ
unfolding splice
written w bs at cs = spliced w bs at cs ((up w (at + length cs) + trailing) * per w)

-- the buffer with the characters of cs at `at`, and every other bit as it was
unfoldable pub overwritten : ℕ → List ℕ → ℕ → List ℕ → List ℕ
unfolding splice
overwritten w bs at cs = spliced w bs at cs (at + length cs)
