-- Blocks of 256 characters: which of them an edit of a store touches, the counts of their set flags after it, and a range counted by them.
-- Assumes nothing.
use Rattle.std.specs.Prelude.{Bool, ◌&&◌, List, ℕ, ◌+◌, ◌-◌, ◌*◌, ◌/◌, min, max, ltb, length, get_or}
use Rattle.std.proofs.Math.Seq.{slice}
use Rattle.codes.specs.Codes.{pick, tab}
use Rattle.fields.specs.Flags.{sum, set_flags}
use Rattle.stores.specs.Stores.{Edit, still, from, over}

-- the characters of a block
abbrev pub size : ℕ
size = 256

-- how many blocks n characters have, the last one partial
abbrev pub blocks : ℕ → ℕ
blocks n = (n + (size - 1)) / size

-- block b of a list of flags
abbrev pub block : List ℕ → ℕ → List ℕ
block flags b = slice (b * size) (b * size + size) flags

-- the characters that an edit of a store of len touches, those that it writes, gaps among them, or cuts: the first, and the one before which they stop
abbrev pub touched : ℕ → Edit → ℕ × ℕ
touched len still = (0, 0)
touched len (from at cs) = (at, max len (at + length cs))
touched len (over at cs) = (at, at + length cs)

-- block b has a character of a range
abbrev pub meets : ℕ × ℕ → ℕ → Bool
meets range b = ltb (max range.0 (b * size)) (min range.1 (b * size + size))

-- the entries after an edit that touches a range and leaves these flags: of their blocks, those that have a character of the range are counted
-- afresh; the others, and entries behind the last block, keep their numbers
unfoldable pub recounted : List ℕ → ℕ × ℕ → List ℕ → List ℕ
recounted entries range flags =
    tab (length entries) (λ b. pick (ltb b (blocks (length flags)) && meets range b) (set_flags (block flags b)) (get_or entries b 0))

-- the whole blocks in a range: the first from its start on, and the one before which they stop
abbrev pub whole_from : ℕ → ℕ
whole_from start = blocks start

abbrev pub whole_to : ℕ → ℕ → ℕ
whole_to start end = max (whole_from start) (end / size)

-- the sum of the entries of the whole blocks in a range and the plain count of its ends
unfoldable pub range_count : List ℕ → List ℕ → ℕ → ℕ → ℕ
range_count entries flags start end =
    set_flags (slice start (min end (whole_from start * size)) flags)
    + (sum (slice (whole_from start) (whole_to start end) entries) + set_flags (slice (whole_to start end * size) end flags))
