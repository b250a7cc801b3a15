-- Numbers of k bytes in either byte order.
-- Assumes nothing.
use Rattle.std.specs.Prelude.{Bool, true, false, List, reverse, ℕ, take, drop}
use Rattle.codes.specs.Words.{word}

-- the bytes of a number in a file's order: the lowest first, or the highest first
abbrev pub ordered : Bool → List ℕ → List ℕ
ordered false bs = bs
ordered true bs = reverse bs

-- the number in the k bytes from byte `at` on
unfoldable pub number_at : Bool → ℕ → List ℕ → ℕ → ℕ
number_at big k file at = word 8 (ordered big (take k (drop at file)))
