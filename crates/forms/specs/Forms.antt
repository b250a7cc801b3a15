-- Stored form, edition 1: byte 1; n; the ceil(n/4) base bytes; the ceil(n/8) flag bytes; nothing more. What writing one answers and leaves.
-- Assumes nothing.
use Rattle.std.specs.Prelude.{◌&&◌, not, List, [], ◌∷◌, ◌++◌, ℕ, suc, ◌+◌, ◌^◌, leb, eqb, length}
use Rattle.std.proofs.Math.ListN.{drop}
use Rattle.codes.specs.Codes.{up, chars}
use Rattle.codes.specs.Refusals.{Test, Answer, answer, first, if_done, too_long, bad_view, no_room, Outcome}
use Rattle.codes.specs.Words.{packed}
use Rattle.codes.specs.declared.refusals.Refusal.TheVariants.{BadRange}
use Rattle.forms.specs.Numbers.{spelt}

-- the stored form of a list of bases and a list of flags of the same length; n takes at most five bytes, and unused bits are zero
unfoldable pub stored : List ℕ → List ℕ → List ℕ
stored cs fs = 1 ∷ (spelt 5 (length cs) ++ (packed 2 cs ++ packed 1 fs))

-- unequal lengths, or more than 2^29
abbrev pub bad_tracks : ℕ → ℕ → Test
bad_tracks m n = (not (eqb m n && leb m (2 ^ 29)), BadRange)

-- the bytes of a form of n characters
abbrev pub form_size : ℕ → ℕ
form_size n = suc (length (spelt 5 n)) + (up 2 n + up 1 n)

-- the refusals of views of m and n bytes, with room for so many bytes
abbrev pub write_tests : ℕ → ℕ → ℕ → ℕ → ℕ → ℕ → ℕ → List Test
write_tests m ao al n bo bl room =
    too_long m ∷ too_long n ∷ bad_view 2 m ao al ∷ bad_view 1 n bo bl ∷ bad_tracks al bl ∷ no_room room (form_size al) ∷ []

module _ (xs : List ℕ) (ao al : ℕ) (ys : List ℕ) (bo bl : ℕ) (out : List ℕ) where
  unfoldable pub write_outcome : Outcome
  write_outcome = first (write_tests (length xs) ao al (length ys) bo bl (length out))

  -- the bytes written; later bytes stay
  unfoldable pub write_answer : Answer ℕ
  unfolding write_outcome
  write_answer = answer write_outcome (form_size al) 0

  unfoldable pub write_after : List ℕ
  unfolding write_outcome
  write_after = if_done write_outcome (stored (chars 2 xs ao al) (chars 1 ys bo bl) ++ drop (form_size al) out) out
