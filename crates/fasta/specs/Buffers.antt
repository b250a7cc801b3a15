-- What stands in each lent buffer after a call of the reader, as functions of what was lent.
-- Assumes nothing.
use Rattle.std.specs.Prelude.{ℕ, List, [], ◌∷◌, ◌++◌, length, drop}
use Rattle.codes.specs.Codes.{pick}
use Rattle.stores.specs.Stores.{push_ascii, after}
use Rattle.fasta.specs.Report.{is_header}
use Rattle.fasta.specs.Records.{opened, lengthened, marked}
use Rattle.fasta.specs.Steps.{too_short, line_letters, goes_on}
use Rattle.fasta.specs.declared.reader.Record.{Record}
use Rattle.fasta.specs.declared.reader.Reader.{Reader}

-- out: the bytes written at its front, then its own
abbrev pub onto : List ℕ → List ℕ → List ℕ
onto written out = written ++ drop (length written) out

-- a track of width w after the letters of a line: they are pushed at the record's end. The buffers have room for 16,384, and a store that refuses
-- stays as it was.
unfoldable pub line_track : ℕ → Record → List ℕ → List ℕ → List ℕ
line_track w k part bytes = after w bytes k.count (push_ascii (line_letters part))

-- and after a CR that was held: it is pushed before them, if the line goes on
unfoldable pub held_track : ℕ → Record → List ℕ → List ℕ → List ℕ
held_track w k part bytes = pick (goes_on part) (line_track w (lengthened k 1) part (after w bytes k.count (push_ascii (13 ∷ [])))) bytes

-- and after a step
unfoldable pub track_after : ℕ → Reader → List ℕ → List ℕ → List ℕ
unfolding line_track held_track
track_after w Reader.Start part bytes = bytes
track_after w Reader.StartHeld part bytes = bytes
track_after w (Reader.Header i) part bytes = bytes
track_after w (Reader.Fresh k) part bytes = pick (is_header part) bytes (line_track w k part bytes)
track_after w (Reader.Within k) part bytes = line_track w k part bytes
track_after w (Reader.WithinHeld k) part bytes = held_track w k part bytes
track_after w Reader.Ended part bytes = bytes

-- the buffer lent for the reverse complement after a step
unfoldable pub other_after : Reader → List ℕ → List ℕ → List ℕ → List ℕ
unfolding marked
other_after Reader.Start part bases other = other
other_after Reader.StartHeld part bases other = other
other_after (Reader.Header i) part bases other = other
other_after (Reader.Fresh k) part bases other = pick (is_header part) (marked k bases other) other
other_after (Reader.Within k) part bases other = other
other_after (Reader.WithinHeld k) part bases other = other
other_after Reader.Ended part bases other = other

-- and after the end of the input
abbrev pub end_marked : Reader → List ℕ → List ℕ → List ℕ
end_marked Reader.Start bases other = other
end_marked Reader.StartHeld bases other = other
end_marked (Reader.Header i) bases other = marked (opened i) bases other
end_marked (Reader.Fresh k) bases other = marked k bases other
end_marked (Reader.Within k) bases other = marked k bases other
end_marked (Reader.WithinHeld k) bases other = marked k bases other
end_marked Reader.Ended bases other = other

unfoldable pub other_at_end : Reader → List ℕ → List ℕ → List ℕ → List ℕ
other_at_end reader bases other out = pick (too_short out) other (end_marked reader bases other)
