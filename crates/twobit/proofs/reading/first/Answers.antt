-- The header decides. Assumes nothing.
use Rattle.std.specs.Result.{result_ok}
use mathlib.Core.Path.{sym, ap, ◌∙◌}
use Rattle.twobit.specs.Answers.{cursor_says}
use Rattle.twobit.specs.Inner.{header_says}
use Rattle.twobit.proofs.EntryLaws.{header_some}
use Rattle.twobit.proofs.PickLaws.{refuses}
use Rattle.twobit.proofs.ReadingLaws.{first_header, first_done}
use Rattle.twobit.proofs.reading.first.Goals as goal

pub returns-in_err-ok_or : goal.returns-in_err-ok_or
returns-in_err-ok_or c =
    let p = refuses _ _ _ _ (sym c.in_err-ok_or.was ∙ c.ok_or.ensures.value) c.from_residual.ensures.1 in
    ap cursor_says p.1 ∙ first_header c.args.file.now (sym c.header_of.ensures ∙ ap header_says p.0)

pub returns : goal.returns
returns c = first_done _ _ _ (header_some _ _ _ (sym c.header_of.ensures ∙ ap header_says (c.ok_or.ensures.ok_part ∙ ap result_ok c.in_ok-ok_or.was)))
