-- What the calls that write a view out answer, and what they leave in the buffer.
-- Assumes nothing.
use Rattle.std.specs.Prelude.{List, [], ◌∷◌, ◌++◌, map, ℕ, ◌+◌, length, drop, replicate}
use Rattle.codes.specs.Codes.{up, trailing, char_at, chars, letter}
use Rattle.codes.specs.Refusals.{first, no_room, view_tests, Outcome}
use Rattle.codes.specs.Words.{packed}
use Rattle.fields.specs.Fields.{flipped}

-- the letter of base o + j
abbrev pub letter_at : List ℕ → ℕ → ℕ → ℕ
letter_at bs o j = letter (char_at 2 bs (o + j))

-- unpacking writes the capital letters of bases; later bytes stay
unfoldable pub unpack_outcome : List ℕ → ℕ → ℕ → List ℕ → Outcome
unpack_outcome bs o len out = first (view_tests 2 (length bs) o len ++ no_room (length out) len ∷ [])

unfoldable pub unpacked_over : List ℕ → ℕ → ℕ → List ℕ → List ℕ
unpacked_over bs o len out = map letter (chars 2 bs o len) ++ drop len out

-- `to_revcomp` writes ceil(length / C8) bytes, unused high bits zero, then 48 zeros; later bytes stay
unfoldable pub flip_outcome : ℕ → List ℕ → ℕ → ℕ → List ℕ → Outcome
flip_outcome w bs o len out = first (view_tests w (length bs) o len ++ no_room (length out) (up w len + trailing) ∷ [])

unfoldable pub flipped_over : ℕ → List ℕ → ℕ → ℕ → List ℕ → List ℕ
flipped_over w bs o len out = packed w (flipped w (chars w bs o len)) ++ (replicate trailing 0 ++ drop (up w len + trailing) out)
