-- Windows without counting: the step until which a lane's windows stay set.
-- Assumes nothing.
use Rattle.std.specs.Prelude.{List, ◌≡◌, ℕ, zero, suc, ◌+◌, ◌-◌, ◌*◌, ◌%◌, ◌<◌, eqb, ltb, get_or}
use Rattle.codes.specs.Codes.{pick, tab}
use Rattle.codes.specs.Made.{Made}
use Rattle.lanes.specs.Turns.{Holds}
use Rattle.windows.specs.Windows.{window_entry}

-- by the flags before step j: k past the last set one, or 0
unfoldable pub until_at : List ℕ → ℕ → ℕ → ℕ → ℕ → ℕ
until_at flags n k zero l = 0
until_at flags n k (suc j) l = pick (eqb (get_or flags (l * n + j) 0) 1) (j + k) (until_at flags n k j l)

-- all 32 bits set where step j is below a mark, else 0
abbrev pub shown : ℕ → ℕ → ℕ
shown j mark = pick (ltb j mark) 0xffff_ffff 0

-- what eight marks show at step j, at entry q
abbrev pub marked : ℕ → List ℕ → ℕ → ℕ
marked j marks q = shown j (get_or marks (q % 8) 0)

-- marks of steps below j, and words that hold the flags from step j on: the marks `count` steps later, and the entries of these steps
abbrev pub TurnsMarks : ℕ → ℕ → ℕ → ℕ → List ℕ → List ℕ → List ℕ → List ℕ → List ℕ → Type 0
TurnsMarks k skip j count words marks after x y =
    (flags : List ℕ) (n : ℕ) → ((l : ℕ) → l < 8 → Holds 1 flags (l * n + j) (get_or words l 0)) → marks ≡ tab 8 (until_at flags n k j)
    → (after ≡ tab 8 (until_at flags n k (j + count))) × Made (window_entry flags n k skip) (8 * (j - skip)) (8 * (j + count - skip)) x y
