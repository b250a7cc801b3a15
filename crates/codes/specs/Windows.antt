-- Windows of flags: whether a run of positions of a list holds a set flag.
-- Assumes nothing.
use Rattle.std.specs.Prelude.{Bool, false, ◌||◌, List, [], ◌∷◌, ℕ, eqb, take, drop}

unfoldable pub any_set : List ℕ → Bool
any_set [] = false
any_set (f ∷ fs) = eqb f 1 || any_set fs

-- the k positions from position p on; positions past the list are clear
unfoldable pub window : List ℕ → ℕ → ℕ → Bool
unfolding any_set
window flags p k = any_set (take k (drop p flags))
