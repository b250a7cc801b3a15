-- The tests are the definition's, in its order. Assumes nothing.
use Rattle.std.specs.Result.{result_ok}
use mathlib.Core.Path.{sym, ap, ◌∙◌}
use Rattle.twobit.specs.Answers.{entry_says}
use Rattle.twobit.specs.Inner.{header_says, index_says}
use Rattle.twobit.proofs.EntryLaws.{Headed, header_some, Noted, entry_some}
use Rattle.twobit.proofs.PickLaws.{refuses}
use Rattle.twobit.proofs.ReadingLaws.{entry_header, entry_past, entry_short, entry_far, entry_done}
use Rattle.twobit.proofs.reading.entry.Goals.{In_ok-header, In_ok-entry}
use Rattle.twobit.proofs.reading.entry.Goals as goal

-- the header that was found
headed : (c : In_ok-header) → Headed c.args.file.now c.in_ok-header.header.big c.in_ok-header.header.count
headed c = header_some _ _ _ (sym c.header_of.ensures ∙ ap header_says (c.ok_or.ensures.ok_part ∙ ap result_ok c.in_ok-header.was))

noted : (c : In_ok-entry) → let e = c.in_ok-entry.entry in Noted c.in_ok-header.header.big 4 c.args.file.now c.args.at e.size e.offset e.end
noted c = entry_some _ _ _ _ _ _ _ (sym c.entry_at.ensures ∙ ap index_says (c.ok_or-2.ensures.ok_part ∙ ap result_ok c.in_ok-entry.was))

pub returns-in_err-header : goal.returns-in_err-header
returns-in_err-header c =
    let a = c.args in
    let p = refuses _ _ _ _ (sym c.in_err-header.was ∙ c.ok_or.ensures.value) c.from_residual.ensures.1 in
    ap entry_says p.1 ∙ entry_header 4 a.file.now a.number a.at (sym c.header_of.ensures ∙ ap header_says p.0)

pub returns-then-header-number : goal.returns-then-header-number
returns-then-header-number c =
    let a = c.args in
    entry_past 4 a.file.now a.number a.at _ _ (headed (goal.at.returns-then-header-number c).In_ok-header) c.if-header-number.true

pub returns-in_err-entry : goal.returns-in_err-entry
returns-in_err-entry c =
    let a = c.args in
    let p = refuses _ _ _ _ (sym c.in_err-entry.was ∙ c.ok_or-2.ensures.value) c.from_residual-in_err-entry.ensures.1 in
    ap entry_says p.1
    ∙ entry_short 4 a.file.now a.number a.at _ _ (headed (goal.at.returns-in_err-entry c).In_ok-header) c.if-header-number.false (sym c.entry_at.ensures ∙ ap index_says p.0)

pub returns-then-file-entry : goal.returns-then-file-entry
returns-then-file-entry c =
    let a = c.args in
    entry_far 4 a.file.now a.number a.at _ _ (headed (goal.at.returns-then-file-entry c).In_ok-header) c.if-header-number.false
    _ _ _ (noted (goal.at.returns-then-file-entry c).In_ok-entry) c.if-file-entry.true

pub returns : goal.returns
returns c =
    let a = c.args in
    entry_done 4 a.file.now a.number a.at _ _ (headed (goal.at.returns c).In_ok-header) c.if-header-number.false _ _ _ (noted (goal.at.returns c).In_ok-entry) c.if-file-entry.false
