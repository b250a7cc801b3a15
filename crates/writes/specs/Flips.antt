-- A view in reverse, byte by byte: what each byte is, and the tables by which those below a whole word are made.
-- Assumes nothing.
use Rattle.std.specs.Prelude.{List, ℕ, ◌-◌, ◌*◌, ◌/◌, ◌%◌, ◌^◌, get_or}
use Rattle.codes.specs.Codes.{per, complement, tab}
use Rattle.codes.specs.Words.{flip}

-- byte j of the `bits` low bits of v in reverse, each character complemented at its width
abbrev pub flipped_byte : ℕ → ℕ → ℕ → ℕ → ℕ
flipped_byte w v bits j = flip w (complement w) (bits / w) v / 2 ^ (8 * j) % 2 ^ 8

-- the table of a width: entry b is the byte whose characters are those of b in reverse, each complemented at its width
unfoldable pub flips : ℕ → List ℕ
unfolding tab flip
flips w = tab 256 (flip w (complement w) (per w))

-- the entry of the last eight of the `left` low bits of v; where fewer are left, of the first eight, less the bits that are not of them
abbrev pub looked_up : List ℕ → ℕ → ℕ → ℕ
looked_up table v left = get_or table (v / 2 ^ (left - 8) % 2 ^ 8) 0 / 2 ^ (8 - left)
