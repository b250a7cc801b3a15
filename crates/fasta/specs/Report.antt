-- The program: FASTA in, a table of records out. The report is defined on the whole input.
-- Assumes nothing.
use Rattle.std.specs.Prelude.{ℕ, suc, ◌+◌, Bool, false, List, [], ◌∷◌, ◌++◌, map, length, ◌==◌, nat_lt}
use Rattle.codes.specs.Codes.{pick, lossy, flag}
use Rattle.rows.specs.Columns.{decimal, columns, strand_of}

-- "record", "bases", "ambiguous", "strand", tabs between them; a tab is byte 9, LF byte 10
abbrev pub heading : List ℕ
heading =
    114 ∷ 101 ∷ 99 ∷ 111 ∷ 114 ∷ 100 ∷ 9
    ∷ 98 ∷ 97 ∷ 115 ∷ 101 ∷ 115 ∷ 9
    ∷ 97 ∷ 109 ∷ 98 ∷ 105 ∷ 103 ∷ 117 ∷ 111 ∷ 117 ∷ 115 ∷ 9
    ∷ 115 ∷ 116 ∷ 114 ∷ 97 ∷ 110 ∷ 100 ∷ 10 ∷ []

-- "refused", "too-long", "total"
abbrev pub refused_text : List ℕ
refused_text = 114 ∷ 101 ∷ 102 ∷ 117 ∷ 115 ∷ 101 ∷ 100 ∷ []

abbrev pub too_long_text : List ℕ
too_long_text = 116 ∷ 111 ∷ 111 ∷ 45 ∷ 108 ∷ 111 ∷ 110 ∷ 103 ∷ []

abbrev pub total_text : List ℕ
total_text = 116 ∷ 111 ∷ 116 ∷ 97 ∷ 108 ∷ []

-- one byte more at the front of the first line
abbrev pub longer : ℕ → List (List ℕ) → List (List ℕ)
longer b [] = (b ∷ []) ∷ []
longer b (l ∷ ls) = (b ∷ l) ∷ ls

-- lines end at LF or at the end of the input
unfoldable pub lines : List ℕ → List (List ℕ)
lines [] = []
lines (b ∷ bs) = pick (b == 10) ([] ∷ lines bs) (longer b (lines bs))

-- a line without its end: one CR, byte 13, directly before the LF or as the last byte of input belongs to the line end; a CR elsewhere does not
unfoldable pub content : List ℕ → List ℕ
content [] = []
content (b ∷ []) = pick (b == 13) [] (b ∷ [])
content (b ∷ c ∷ bs) = b ∷ content (c ∷ bs)

-- a line starting `>` opens a record
abbrev pub is_header : List ℕ → Bool
is_header [] = false
is_header (b ∷ bs) = b == 62

-- the letters of each record: those of the one begun, then those of the lines
unfoldable pub records : List ℕ → List (List ℕ) → List (List ℕ)
records begun [] = begun ∷ []
records begun (l ∷ ls) = pick (is_header l) (begun ∷ records [] ls) (records (begun ++ l) ls)

-- how many letters are ambiguous
unfoldable pub ambiguous : List ℕ → ℕ
ambiguous [] = 0
ambiguous (x ∷ xs) = flag x + ambiguous xs

-- the record's bases against their reverse complement
unfoldable pub strand : List ℕ → ℕ
unfolding strand_of
strand letters = strand_of (map lossy letters)

-- what stands behind a record's number: its columns, or `too-long` over 16,384 letters
unfoldable pub body : ℕ → ℕ → ℕ → List ℕ
unfolding columns
body count ambiguous mark = pick (nat_lt 16384 count) too_long_text (columns count ambiguous mark)

unfoldable pub row_of : ℕ → ℕ → ℕ → ℕ → List ℕ
unfolding body
row_of i count ambiguous mark = decimal i ++ (9 ∷ (body count ambiguous mark ++ (10 ∷ [])))

unfoldable pub row : ℕ → List ℕ → List ℕ
unfolding ambiguous strand row_of
row i letters = row_of i (length letters) (ambiguous letters) (strand letters)

unfoldable pub total_of : ℕ → List ℕ
total_of i = total_text ++ (9 ∷ (decimal i ++ (10 ∷ [])))

-- the rows of the records after the first i, and the total
unfoldable pub rows : ℕ → List (List ℕ) → List ℕ
unfolding row total_of
rows i [] = total_of i
rows i (r ∷ rs) = row (suc i) r ++ rows (suc i) rs

-- letters before any header give `refused`, and reading ends; a blank line before it holds none
unfoldable pub table : List (List ℕ) → List ℕ
unfolding records rows
table [] = rows 0 []
table ([] ∷ ls) = table ls
table ((b ∷ l) ∷ ls) = pick (b == 62) (rows 0 (records [] ls)) (refused_text ++ (10 ∷ []))

unfoldable pub report : List ℕ → List ℕ
unfolding lines content table
report input = heading ++ table (map content (lines input))
