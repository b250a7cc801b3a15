-- Reading a stored form: what a sound one is, its length and its tracks; what reading answers and leaves.
-- Assumes nothing.
use Rattle.std.specs.Prelude.{Bool, true, false, ◌&&◌, not, List, [], ◌∷◌, ◌++◌, ℕ, suc, ◌+◌, ◌-◌, ◌*◌, ◌^◌, leb, eqb, length, take, drop, replicate, Option, Some, None}
use Rattle.codes.specs.Codes.{per, up, trailing, pick, chars}
use Rattle.codes.specs.Refusals.{Test, Answer, answer, first, if_done, too_long, no_room, Outcome}
use Rattle.codes.specs.declared.refusals.Refusal.TheVariants.{BadForm}
use Rattle.forms.specs.Numbers.{Spelling, spelling}

-- byte 1, then n: its value, and how many bytes it takes
unfoldable pub head_of : List ℕ → Option Spelling
head_of [] = None
head_of (b ∷ bs) = pick (eqb b 1) (spelling 5 bs) None

-- n, and where the base bytes begin
abbrev pub length_of : Option Spelling → ℕ
length_of None = 0
length_of (Some s) = s.value

abbrev pub body_of : Option Spelling → ℕ
body_of None = 0
body_of (Some s) = suc s.size

-- n of a form, its base bytes and its flag bytes
unfoldable pub form_length : List ℕ → ℕ
unfolding head_of
form_length bs = length_of (head_of bs)

unfoldable pub base_bytes : List ℕ → List ℕ
unfolding head_of form_length
base_bytes bs = take (up 2 (form_length bs)) (drop (body_of (head_of bs)) bs)

unfoldable pub flag_bytes : List ℕ → List ℕ
unfolding head_of form_length
flag_bytes bs = drop (body_of (head_of bs) + up 2 (form_length bs)) bs

abbrev pub all_zero : List ℕ → Bool
all_zero [] = true
all_zero (c ∷ cs) = eqb c 0 && all_zero cs

-- the bits behind n characters of a string of bytes are zero
abbrev pub spare_clear : ℕ → ℕ → List ℕ → Bool
spare_clear w n bs = all_zero (chars w bs n (up w n * per w - n))

-- from byte `body` on, just the base bytes and the flag bytes of n characters, and no spare bit set
abbrev pub right_tracks : List ℕ → ℕ → ℕ → Bool
right_tracks bs n body =
    eqb (length bs) (body + (up 2 n + up 1 n)) && (spare_clear 2 n (take (up 2 n) (drop body bs)) && spare_clear 1 n (drop (body + up 2 n) bs))

-- behind such a head: n is at most 2^29, then just the base bytes and the flag bytes, and no spare bit set
abbrev pub sound_from : List ℕ → Option Spelling → Bool
sound_from bs None = false
sound_from bs (Some s) = leb s.value (2 ^ 29) && right_tracks bs s.value (suc s.size)

-- byte 1, a sound n, and what is to stand behind them
unfoldable pub is_form : List ℕ → Bool
unfolding head_of
is_form bs = sound_from bs (head_of bs)

abbrev pub bad_form : List ℕ → Test
bad_form bs = (not (is_form bs), BadForm)

-- the bytes of a track, 48 zeros, and later bytes as they were
abbrev pub filled_with : List ℕ → List ℕ → List ℕ
filled_with track old = track ++ (replicate trailing 0 ++ drop (length track + trailing) old)

-- the refusals of a form to be read into buffers of m and n bytes; room is judged after form
abbrev pub form_tests : List ℕ → ℕ → ℕ → List Test
form_tests form m n =
    bad_form form ∷ no_room m (up 2 (form_length form) + trailing) ∷ no_room n (up 1 (form_length form) + trailing) ∷ []

abbrev pub read_tests : List ℕ → ℕ → ℕ → List Test
read_tests form m n = too_long (length form) ∷ too_long m ∷ too_long n ∷ form_tests form m n

module _ (form bases flags : List ℕ) where
  unfoldable pub read_outcome : Outcome
  read_outcome = first (read_tests form (length bases) (length flags))

  -- the length of both stores
  unfoldable pub read_answer : Answer ℕ
  unfolding read_outcome
  read_answer = answer read_outcome (form_length form) 0

  unfoldable pub bases_after : List ℕ
  unfolding read_outcome
  bases_after = if_done read_outcome (filled_with (base_bytes form) bases) bases

  unfoldable pub flags_after : List ℕ
  unfolding read_outcome
  flags_after = if_done read_outcome (filled_with (flag_bytes form) flags) flags
