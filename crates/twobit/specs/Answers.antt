-- What each answer of this crate says: its number, and its other numbers.
-- Assumes nothing.
use Rattle.std.specs.Prelude.{Result, ℕ}
use Rattle.codes.specs.Answers.{says_by}
use Rattle.codes.specs.Refusals.{Answer}
use Rattle.codes.specs.declared.refusals.Refusal.{Refusal}
use Rattle.twobit.specs.Reading.{Entered, no_entry, Informed, no_info}
use Rattle.twobit.specs.declared.answers.Cursor.{Cursor}
use Rattle.twobit.specs.declared.answers.Entry.{Entry}
use Rattle.twobit.specs.declared.answers.Info.{Info}
use Rattle.twobit.specs.declared.answers.Read.{Read}

-- an entry's number and its place
abbrev pub cursor_says : Result Cursor Refusal → Answer (ℕ × ℕ)
cursor_says r = says_by (λ c. (c.number, c.at)) (0, 0) r

-- the name's place and size, the record's offset, the next entry's number and its place
abbrev pub entry_says : Result Entry Refusal → Answer Entered
entry_says r = says_by (λ e. ((e.name, e.size), (e.offset, (e.number, e.at)))) no_entry r

-- the length of a record's sequence, the number of its N blocks and of its mask blocks
abbrev pub info_says : Result Info Refusal → Answer Informed
info_says r = says_by (λ i. (i.len.0, (i.blocks, i.masks))) no_info r

-- the length of both stores, and the number of mask blocks
abbrev pub read_says : Result Read Refusal → Answer (ℕ × ℕ)
read_says r = says_by (λ x. (x.len.0, x.masks)) (0, 0) r
