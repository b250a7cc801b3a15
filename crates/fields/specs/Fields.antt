-- One view: bytes, an offset and a length, whose meaning is the list of their characters; a character of it, its words, and when they are refused.
-- Assumes nothing.
use Rattle.std.specs.Prelude.{List, [], ◌∷◌, ◌++◌, map, reverse, ℕ, ◌/◌, length, get_or}
use Rattle.codes.specs.Answers.{halves}
use Rattle.codes.specs.Codes.{chars, complement}
use Rattle.codes.specs.Refusals.{Test, Answer, answer, first, view_tests, bad_index, bad_end, bad_start, bad_word}
use Rattle.codes.specs.Words.{word}

-- the refusals of a slice of a view of n bytes
abbrev pub slice_tests : ℕ → ℕ → ℕ → ℕ → ℕ → ℕ → List Test
slice_tests w n o len start end = view_tests w n o len ++ bad_end len end ∷ bad_start start end ∷ []

-- and of its word: from `least` characters to what so many bits hold
abbrev pub word_tests : ℕ → ℕ → ℕ → ℕ → ℕ → ℕ → List Test
word_tests w n o len least bits = view_tests w n o len ++ bad_word least (bits / w) len ∷ []

-- the character at an index
unfoldable pub got : ℕ → List ℕ → ℕ → ℕ → ℕ → Answer ℕ
got w bs o len i = answer (first (view_tests w (length bs) o len ++ bad_index len i ∷ [])) (get_or (chars w bs o len) i 0) 0

-- a view's word takes lengths up to 64 / w; in two halves, up to 128 / w
unfoldable pub as_u64 : ℕ → List ℕ → ℕ → ℕ → Answer ℕ
as_u64 w bs o len = answer (first (word_tests w (length bs) o len 0 64)) (word w (chars w bs o len)) 0

unfoldable pub as_u128 : ℕ → List ℕ → ℕ → ℕ → Answer (ℕ × ℕ)
as_u128 w bs o len = answer (first (word_tests w (length bs) o len 0 128)) (halves (word w (chars w bs o len))) (0, 0)

-- characters in reverse, bases complemented
abbrev pub flipped : ℕ → List ℕ → List ℕ
flipped w cs = reverse (map (complement w) cs)

-- its reversed word needs length 1 or more
unfoldable pub flipped_as_u64 : ℕ → List ℕ → ℕ → ℕ → Answer ℕ
flipped_as_u64 w bs o len = answer (first (word_tests w (length bs) o len 1 64)) (word w (flipped w (chars w bs o len))) 0

unfoldable pub flipped_as_u128 : ℕ → List ℕ → ℕ → ℕ → Answer (ℕ × ℕ)
flipped_as_u128 w bs o len = answer (first (word_tests w (length bs) o len 1 128)) (halves (word w (flipped w (chars w bs o len)))) (0, 0)
