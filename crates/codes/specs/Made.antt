-- A buffer with a run of new entries.
-- Assumes nothing.
use Rattle.std.specs.Prelude.{List, ◌≡◌, ℕ, ◌≤◌, ◌<◌, length, get_or}

-- d with entry j given by f, from entry `from` up to entry `to`
pub record Made (f : ℕ → ℕ) (from to : ℕ) (d e : List ℕ) : Type 0 where
  pub long : length e ≡ length d
  pub below : (j : ℕ) → j < from → get_or e j 0 ≡ get_or d j 0
  pub new : (j : ℕ) → from ≤ j → j < to → get_or e j 0 ≡ f j
  pub above : (j : ℕ) → to ≤ j → get_or e j 0 ≡ get_or d j 0
