-- Blocks of a sequence: where they lie, whether two share a position, and what lies under them.
-- Assumes nothing.
use Rattle.std.specs.Prelude.{Bool, true, false, ◌&&◌, ◌||◌, not, List, [], ◌∷◌, ℕ, zero, suc, ◌+◌, min, max, leb, ltb}
use Rattle.codes.specs.Codes.{pick}
use Rattle.fields.specs.Runs.{Run}

-- the position behind a block
abbrev pub end : Run → ℕ
end b = b.start + b.size

-- f i, f (i + 1), .. : n blocks
unfoldable pub blocks_from : (ℕ → Run) → ℕ → ℕ → List Run
blocks_from f i zero = []
blocks_from f i (suc n) = f i ∷ blocks_from f (suc i) n

-- every block ends within a sequence of n positions
unfoldable pub all_inside : ℕ → List Run → Bool
all_inside n [] = true
all_inside n (b ∷ bs) = leb (end b) n && all_inside n bs

-- two blocks have a position in common
abbrev pub share : Run → Run → Bool
share a b = ltb (max a.start b.start) (min (end a) (end b))

-- a block shares no position with any of the others
unfoldable pub clear_of : Run → List Run → Bool
clear_of a [] = true
clear_of a (b ∷ bs) = not (share a b) && clear_of a bs

-- no two blocks share a position
unfoldable pub apart : List Run → Bool
unfolding clear_of
apart [] = true
apart (b ∷ bs) = clear_of b bs && apart bs

-- position i lies in one of the blocks
unfoldable pub under : List Run → ℕ → Bool
under [] i = false
under (b ∷ bs) i = (leb b.start i && ltb i (end b)) || under bs i

-- 1 under a block, else 0
unfoldable pub flag_under : List Run → ℕ → ℕ
unfolding under
flag_under bs i = pick (under bs i) 1 0
