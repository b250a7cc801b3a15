-- What each call of the reader does: the next reader, and the bytes that it takes and writes, as functions of what was lent.
-- Assumes nothing.
use Rattle.std.specs.Prelude.{ℕ, suc, ◌+◌, Bool, false, not, List, [], ◌∷◌, ◌++◌, length, take, ◌==◌, nat_lt, slice_index}
use Rattle.codes.specs.Codes.{pick}
use Rattle.fasta.specs.Report.{heading, refused_text, content, is_header, total_of}
use Rattle.fasta.specs.Records.{opened, lengthened, ordinal, row_from, closed}
use Rattle.fasta.specs.declared.reader.Record.{Record}
use Rattle.fasta.specs.declared.reader.Reader.{Reader}
use Rattle.fasta.specs.declared.reader.Stepped.{Stepped}

-- what a call does: the next reader, the bytes that it takes, and those that it writes
pub record Move : Type 0 where
  pub reader : Reader
  pub used : ℕ
  pub written : List ℕ

abbrev pub move : Reader → ℕ → List ℕ → Move
move reader used written = record { reader = reader; used = used; written = written }

-- what it answers
abbrev pub stepped : Move → Stepped
stepped m = record { reader = m.reader; used = m.used; wrote = length m.written }

-- out has fewer than 96 bytes
abbrev pub too_short : List ℕ → Bool
too_short out = nat_lt (length out) 96

-- the bytes that a step looks at: none where out is too short
abbrev pub seen : List ℕ → List ℕ → List ℕ
seen part out = pick (too_short out) [] part

-- the number of bytes before the first LF, or all
unfoldable pub line_end : List ℕ → ℕ
line_end [] = 0
line_end (b ∷ bs) = pick (b == 10) 0 (suc (line_end bs))

-- the top bit of a byte, where that is LF
abbrev pub feed_mark : ℕ → ℕ
feed_mark b = pick (b == 10) 128 0

-- the line ends in this part
abbrev pub ends_line : List ℕ → Bool
ends_line part = nat_lt (line_end part) (length part)

-- the letters of the line in this part
abbrev pub line_letters : List ℕ → List ℕ
line_letters part = content (take (line_end part) part)

-- a CR stands behind them: it belongs to the line end or, with no LF in this part, is not to be judged yet
abbrev pub ends_in_return : List ℕ → Bool
ends_in_return part = nat_lt (length (line_letters part)) (line_end part)

-- the line goes on in this part: a byte other than LF comes first
abbrev pub goes_on : List ℕ → Bool
goes_on [] = false
goes_on (b ∷ bs) = not (b == 10)

-- the bytes of the line, with its LF
abbrev pub line_used : List ℕ → ℕ
line_used part = pick (ends_line part) (line_end part + 1) (line_end part)

-- a letter before any header
abbrev pub refusing : Move
refusing = move Reader.Ended 1 (refused_text ++ (10 ∷ []))

-- before any header: a blank line is passed over, a CR is held, a `>` opens the first record, any other byte is refused
unfoldable pub begun : List ℕ → Move
begun part =
    pick (slice_index part 0 == 10) (move Reader.Start 1 [])
    (pick (slice_index part 0 == 13) (move Reader.StartHeld 1 []) (pick (slice_index part 0 == 62) (move (Reader.Header 0) 1 []) refusing))

-- and after a CR: a letter, if the line goes on
unfoldable pub begun_held : List ℕ → Move
begun_held part = pick (goes_on part) refusing (move Reader.Start 1 [])

-- in a header line: the rest of it is passed over
unfoldable pub in_header : ℕ → List ℕ → Move
in_header i part = move (pick (ends_line part) (Reader.Fresh (opened i)) (Reader.Header i)) (line_used part) []

-- in a record, within a line: the rest of it is letters; a CR at the end of the part is held
unfoldable pub in_line : Record → List ℕ → Move
in_line k part =
    let longer : Record = lengthened k (length (line_letters part)) in
    move (pick (ends_line part) (Reader.Fresh longer) (pick (ends_in_return part) (Reader.WithinHeld longer) (Reader.Within longer))) (line_used part) []

-- and after a CR: a letter, if the line goes on
unfoldable pub in_line_held : Record → List ℕ → Move
in_line_held k part = pick (goes_on part) (in_line (lengthened k 1) part) (move (Reader.Fresh k) 1 [])

-- in a record, at the start of a line: a `>` closes it
unfoldable pub at_line : Record → List ℕ → List ℕ → List ℕ → Move
unfolding in_line row_from
at_line k part bases flags = pick (is_header part) (move (Reader.Header (ordinal k)) 1 (row_from k bases flags)) (in_line k part)

-- with bytes to look at
abbrev pub moved : Reader → List ℕ → List ℕ → List ℕ → Move
moved Reader.Start part bases flags = begun part
moved Reader.StartHeld part bases flags = begun_held part
moved (Reader.Header i) part bases flags = in_header i part
moved (Reader.Fresh k) part bases flags = at_line k part bases flags
moved (Reader.Within k) part bases flags = in_line k part
moved (Reader.WithinHeld k) part bases flags = in_line_held k part
moved Reader.Ended part bases flags = move Reader.Ended (length part) []

-- a step; without any, it takes and writes nothing
unfoldable pub next : Reader → List ℕ → List ℕ → List ℕ → Move
next reader [] bases flags = move reader 0 []
next reader (b ∷ bs) bases flags = moved reader (b ∷ bs) bases flags

-- the beginning writes the heading
unfoldable pub started : List ℕ → Move
started out = move Reader.Start 0 (pick (too_short out) [] heading)

-- the end of the input: what is written where there is room. A CR that is held was part of the last line's end.
abbrev pub ending : Reader → List ℕ → List ℕ → List ℕ
ending Reader.Start bases flags = total_of 0
ending Reader.StartHeld bases flags = total_of 0
ending (Reader.Header i) bases flags = closed (opened i) bases flags
ending (Reader.Fresh k) bases flags = closed k bases flags
ending (Reader.Within k) bases flags = closed k bases flags
ending (Reader.WithinHeld k) bases flags = closed k bases flags
ending Reader.Ended bases flags = []

-- what it writes to out
unfoldable pub last_lines : Reader → List ℕ → List ℕ → List ℕ → List ℕ
last_lines reader bases flags out = pick (too_short out) [] (ending reader bases flags)
