-- The entry, then its record. Assumes nothing.
use mathlib.Core.Path.{sym, ap, ◌∙◌}
use Rattle.twobit.specs.Inner.{index_says, behind_says}
use Rattle.twobit.proofs.EntryLaws.{Noted, entry_some, sound_cut, sound_bad, sound_good}
use Rattle.twobit.proofs.inner.files.sound_entry.Goals.{In_ok-entry}
use Rattle.twobit.proofs.inner.files.sound_entry.Goals as goal

-- the entry that was found
noted : (c : In_ok-entry) → let a = c.args in
    Noted a.big a.k a.file.now a.at c.in_ok-entry.entry.size c.in_ok-entry.entry.offset c.in_ok-entry.entry.end
noted c =
    let a = c.args in
    entry_some a.big a.k a.file.now a.at c.in_ok-entry.entry.size c.in_ok-entry.entry.offset c.in_ok-entry.entry.end (sym c.entry_at.ensures ∙ ap index_says c.in_ok-entry.was)

pub returns-then-not-sound_record : goal.returns-then-not-sound_record
returns-then-not-sound_record c =
    let a = c.args in
    sound_bad a.big a.k a.file.now a.at c.in_ok-entry.entry.size c.in_ok-entry.entry.offset c.in_ok-entry.entry.end (noted (goal.at.returns-then-not-sound_record c).In_ok-entry) (sym c.sound_record.ensures ∙ c.if-not-sound_record.true)

pub returns-in_err-entry : goal.returns-in_err-entry
returns-in_err-entry c =
    let a = c.args in
    ap behind_says c.from_residual.ensures ∙ sound_cut a.big a.k a.file.now a.at (sym c.entry_at.ensures ∙ ap index_says c.in_err-entry.was)

pub returns : goal.returns
returns c =
    let a = c.args in
    sound_good a.big a.k a.file.now a.at c.in_ok-entry.entry.size c.in_ok-entry.entry.offset c.in_ok-entry.entry.end (noted (goal.at.returns c).In_ok-entry) (sym c.sound_record.ensures ∙ c.if-not-sound_record.false)
