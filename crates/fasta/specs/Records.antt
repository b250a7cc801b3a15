-- The open record: the count of its letters, and what its count and its tracks give.
-- Assumes nothing.
use Rattle.std.specs.Prelude.{ℕ, ◌+◌, ◌%◌, ◌^◌, List, ◌++◌, nat_lt}
use Rattle.codes.specs.Codes.{pick, chars}
use Rattle.writes.specs.Writes.{flipped_over}
use Rattle.fields.specs.Flags.{set_flags}
use Rattle.rows.specs.Columns.{strand_of}
use Rattle.fasta.specs.Report.{row_of, total_of}
use Rattle.fasta.specs.declared.reader.Record.{Record}

-- 16,385 stands for any number above 16,384
unfoldable pub at_most : ℕ → ℕ
at_most n = pick (nat_lt 16384 n) 16385 n

-- a record after i others, before its first letter
abbrev pub opened : ℕ → Record
opened i = record { number = i; count = 0 }

-- with n more letters
abbrev pub lengthened : Record → ℕ → Record
lengthened k n = record { number = k.number; count = at_most (k.count + n) }

-- its own number, the first record's being 1
abbrev pub ordinal : Record → ℕ
ordinal k = (k.number + 1) % 2 ^ 64

-- how many of its letters are ambiguous, by its flags
abbrev pub ambiguous_in : Record → List ℕ → ℕ
ambiguous_in k flags = set_flags (chars 1 flags 0 k.count)

-- its bases against their reverse complement
abbrev pub strand_in : Record → List ℕ → ℕ
strand_in k bases = strand_of (chars 2 bases 0 k.count)

-- its row
unfoldable pub row_from : Record → List ℕ → List ℕ → List ℕ
row_from k bases flags = row_of (ordinal k) k.count (ambiguous_in k flags) (strand_in k bases)

-- and, if it is the last, the total
unfoldable pub closed : Record → List ℕ → List ℕ → List ℕ
unfolding row_from
closed k bases flags = row_from k bases flags ++ total_of (ordinal k)

-- the buffer lent for the reverse complement: left there where the row has a strand
unfoldable pub marked : Record → List ℕ → List ℕ → List ℕ
marked k bases other = pick (nat_lt 16384 k.count) other (flipped_over 2 bases 0 k.count other)
