-- The header, then the entries. Assumes nothing.
use Rattle.std.specs.Result.{result_ok}
use mathlib.Core.Path.{sym, ap, ◌∙◌}
use Rattle.codes.specs.Answers.{says}
use Rattle.twobit.specs.Inner.{header_says}
use Rattle.twobit.proofs.EntryLaws.{Headed, header_some}
use Rattle.twobit.proofs.PickLaws.{refuses}
use Rattle.twobit.proofs.ReadingLaws.{check_header, check_entries, check_done}
use Rattle.twobit.proofs.reading.check.Goals.{In_ok-header}
use Rattle.twobit.proofs.reading.check.Goals as goal

-- the header that was found
headed : (c : In_ok-header) → Headed c.args.file.now c.in_ok-header.header.big c.in_ok-header.header.count
headed c = header_some _ _ _ (sym c.header_of.ensures ∙ ap header_says (c.ok_or.ensures.ok_part ∙ ap result_ok c.in_ok-header.was))

pub returns-in_err-header : goal.returns-in_err-header
returns-in_err-header c =
    let p = refuses _ _ _ _ (sym c.in_err-header.was ∙ c.ok_or.ensures.value) c.from_residual.ensures.1 in
    ap says p.1 ∙ check_header c.args.file.now (sym c.header_of.ensures ∙ ap header_says p.0)

pub returns-then-not-are_entries : goal.returns-then-not-are_entries
returns-then-not-are_entries c = check_entries _ _ _ (headed (goal.at.returns-then-not-are_entries c).In_ok-header) (sym c.are_entries.ensures ∙ c.if-not-are_entries.true)

pub returns : goal.returns
returns c = check_done _ _ _ (headed (goal.at.returns c).In_ok-header) (sym c.are_entries.ensures ∙ c.if-not-are_entries.false)
