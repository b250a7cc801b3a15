-- Runs of set flags of a list: maximal, in rising order.
-- Assumes nothing.
use Rattle.std.specs.Prelude.{List, [], ◌∷◌, ℕ, suc, eqb}
use Rattle.codes.specs.Codes.{pick}

-- the position of a run's first flag, and how many flags it has
pub record Run : Type 0 where
  pub start : ℕ
  pub size : ℕ

-- a set flag at position i before the runs behind it: the first of them grows where it begins directly behind, else the flag is a run of its own
abbrev pub joined : ℕ → List Run → List Run
joined i [] = record { start = i; size = 1 } ∷ []
joined i (r ∷ rs) = pick (eqb r.start (suc i)) (record { start = i; size = suc r.size } ∷ rs) (record { start = i; size = 1 } ∷ r ∷ rs)

-- the runs of a list of flags, the first of which has position i
unfoldable pub runs_from : ℕ → List ℕ → List Run
runs_from i [] = []
runs_from i (f ∷ fs) = pick (eqb f 0) (runs_from (suc i) fs) (joined i (runs_from (suc i) fs))

abbrev pub runs : List ℕ → List Run
runs fs = runs_from 0 fs

-- how many flags from the first on are v
unfoldable pub leading : ℕ → List ℕ → ℕ
leading v [] = 0
leading v (f ∷ fs) = pick (eqb f v) (suc (leading v fs)) 0
