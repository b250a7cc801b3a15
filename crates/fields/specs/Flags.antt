-- Flags of a list: how many are set.
-- Assumes nothing.
use Rattle.std.specs.Prelude.{List, [], ◌∷◌, ℕ, ◌+◌}

unfoldable pub sum : List ℕ → ℕ
sum [] = 0
sum (n ∷ ns) = n + sum ns

-- a set flag is 1, a clear one 0
abbrev pub set_flags : List ℕ → ℕ
set_flags = sum
