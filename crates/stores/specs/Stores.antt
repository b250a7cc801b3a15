-- Stores: a lent buffer and a length in characters; what each call answers, and what it writes.
-- Assumes nothing.
use Rattle.std.specs.Prelude.{List, [], ◌∷◌, map, ℕ, ◌+◌, length}
use Rattle.codes.specs.Codes.{up, trailing, code}
use Rattle.codes.specs.Refusals.{Test, Answer, answer, first, if_done, too_long, bad_store, bad_view, bad_end, no_room, Outcome}
use Rattle.runs.specs.Runs.{seq_start, seq_chars, written, overwritten}

-- the calls on a store, with what they are given
pub data Call : Type 0 where
  clear : Call
  push_ascii : List ℕ → Call
  push_seq : List ℕ → ℕ → ℕ → Call
  overwrite : ℕ → List ℕ → Call
  cut : ℕ → Call

-- a store of m bytes has no room for n characters
abbrev pub no_store : ℕ → ℕ → ℕ → Test
no_store w m n = no_room m (up w n + trailing)

-- the refusals of a call on a store of m bytes and a length
abbrev pub tests : ℕ → ℕ → ℕ → Call → List Test
tests w m len clear = too_long m ∷ no_room m trailing ∷ []
tests w m len (push_ascii letters) = too_long m ∷ bad_store w m len ∷ no_store w m (len + length letters) ∷ []
tests w m len (push_seq bs o n) =
    too_long m ∷ too_long (length bs) ∷ bad_store w m len ∷ bad_view w (length bs) o n ∷ no_store w m (seq_start w len o + n) ∷ []
tests w m len (overwrite start letters) = too_long m ∷ bad_store w m len ∷ bad_end len (start + length letters) ∷ []
tests w m len (cut n) = too_long m ∷ bad_store w m len ∷ bad_end len n ∷ []

unfoldable pub outcome : ℕ → ℕ → ℕ → Call → Outcome
outcome w m len call = first (tests w m len call)

-- what a call does to a store: nothing; the characters from a place on; or some characters in the midst
pub data Edit : Type 0 where
  still : Edit
  from : ℕ → List ℕ → Edit
  over : ℕ → List ℕ → Edit

-- where it is not refused
abbrev pub deed : ℕ → ℕ → Call → Edit
deed w len clear = from 0 []
deed w len (push_ascii []) = still
deed w len (push_ascii (l ∷ ls)) = from len (map (code w) (l ∷ ls))
deed w len (push_seq bs o n) = from len (seq_chars w len bs o n)
deed w len (overwrite start letters) = over start (map (code w) letters)
deed w len (cut n) = from n []

abbrev pub edit : ℕ → ℕ → ℕ → Call → Edit
edit w m len call = if_done (outcome w m len call) (deed w len call) still

-- an edit's effect on the buffer
abbrev pub buffer_after : ℕ → List ℕ → Edit → List ℕ
buffer_after w bs still = bs
buffer_after w bs (from at cs) = written w bs at cs
buffer_after w bs (over at cs) = overwritten w bs at cs

-- and on the length
abbrev pub length_after : ℕ → Edit → ℕ
length_after len still = len
length_after len (from at cs) = at + length cs
length_after len (over at cs) = len

-- a push answers its start and end, and the new length; refused, zeros and the old length
abbrev pub span : ℕ → ℕ → Call → ℕ × ℕ × ℕ
span w len clear = (0, 0, 0)
span w len (push_ascii letters) = (len, len + length letters, len + length letters)
span w len (push_seq bs o n) = (seq_start w len o, seq_start w len o + n, seq_start w len o + n)
span w len (overwrite start letters) = (0, 0, len)
span w len (cut n) = (0, 0, n)

-- the length that a refused call gives: the store's old one, and 0 where a clear is refused
abbrev pub old_length : ℕ → Call → ℕ
old_length len clear = 0
old_length len (push_ascii letters) = len
old_length len (push_seq bs o n) = len
old_length len (overwrite start letters) = len
old_length len (cut n) = len

-- the start, the end and the length that a call on a store of m bytes answers
unfoldable pub answered : ℕ → ℕ → ℕ → Call → Answer (ℕ × ℕ × ℕ)
answered w m len call = answer (outcome w m len call) (span w len call) (0, 0, old_length len call)

-- the buffer after a call on a store
unfoldable pub after : ℕ → List ℕ → ℕ → Call → List ℕ
after w bs len call = buffer_after w bs (edit w (length bs) len call)
