-- Turns: a word that holds a lane's next characters, and what eight such words give a buffer.
-- Assumes nothing.
use Rattle.std.specs.Prelude.{List, ◌≡◌, ℕ, ◌+◌, ◌-◌, ◌*◌, ◌/◌, ◌%◌, ◌^◌, ◌<◌, get_or}

-- x holds the next 64 / w characters of a list from place i on, the first lowest
abbrev pub Holds : ℕ → List ℕ → ℕ → ℕ → Type 0
Holds w cs i x = (t : ℕ) → t < 64 / w → x / 2 ^ (w * t) % 2 ^ w ≡ get_or cs (i + t) 0

-- entry q, the entries from e on being eight words' characters, a step at a time
abbrev pub turned : ℕ → List ℕ → ℕ → ℕ → ℕ
turned w words e q = get_or words ((q - e) % 8) 0 / 2 ^ (w * ((q - e) / 8)) % 2 ^ w
