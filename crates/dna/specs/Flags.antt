-- Flags set in a byte string.
-- Assumes nothing.
use Rattle.std.specs.Prelude.{◌&&◌, List, ◌≡◌, ℕ, leb, ltb, length}
use Rattle.codes.specs.Codes.{pick, char_at}

-- d with the flags from position `from` up to position `to` set
pub record Marked (from to : ℕ) (d e : List ℕ) : Type 0 where
  pub long : length e ≡ length d
  pub flag : (i : ℕ) → char_at 1 e i ≡ pick (leb from i && ltb i to) 1 (char_at 1 d i)
