-- What the report still says from a place within the input on.
-- Assumes nothing.
use Rattle.std.proofs.Common.{◌≡◌, ℕ, ◌+◌, ◌≤◌, List, [], ◌∷◌, ◌++◌, map, length}
use Rattle.fasta.specs.Report.{lines, content, records, rows, table}

-- the bytes read so far end: before any header; within a header line; in a record with these letters, at the start of a line or within one;
-- or after the report. The number counts the records before the open one. Held: a CR more was read, and is not judged yet.
pub data State : Type 0 where
  start : State
  start_held : State
  header : ℕ → State
  fresh : ℕ → List ℕ → State
  within : ℕ → List ℕ → State
  within_held : ℕ → List ℕ → State
  ended : State

-- the first line, and the lines after it
abbrev pub first_line : List (List ℕ) → List ℕ
first_line [] = []
first_line (l ∷ ls) = l

abbrev pub later_lines : List (List ℕ) → List (List ℕ)
later_lines [] = []
later_lines (l ∷ ls) = ls

-- what the report says of lines of which the first goes on with a record
abbrev pub resumed : ℕ → List ℕ → List (List ℕ) → List ℕ
resumed i ls L = rows i (records (ls ++ content (first_line L)) (map content (later_lines L)))

-- what it says of the bytes to come
unfoldable pub rest : State → List ℕ → List ℕ
unfolding lines content records rows table
rest start bs = table (map content (lines bs))
rest start_held bs = table (map content (lines (13 ∷ bs)))
rest (header i) bs = rows i (records [] (map content (later_lines (lines bs))))
rest (fresh i ls) bs = rows i (records ls (map content (lines bs)))
rest (within i ls) bs = resumed i ls (lines bs)
rest (within_held i ls) bs = resumed i ls (lines (13 ∷ bs))
rest ended bs = []

abbrev pub records_before : State → ℕ
records_before start = 0
records_before start_held = 0
records_before (header i) = i
records_before (fresh i ls) = i
records_before (within i ls) = i
records_before (within_held i ls) = i
records_before ended = 0

-- the bytes `taken` lead from s to s', and the report says `written` of them
pub record Leads (s : State) (taken written : List ℕ) (s' : State) : Type 0 where
  pub says : (more : List ℕ) → rest s (taken ++ more) ≡ written ++ rest s' more
  pub counts : records_before s' ≤ records_before s + length taken
