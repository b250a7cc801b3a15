-- The header, then the record. Assumes nothing.
use Rattle.std.specs.Result.{result_ok}
use mathlib.Core.Path.{sym, ap, ◌∙◌}
use Rattle.twobit.specs.Answers.{info_says}
use Rattle.twobit.specs.Inner.{places, header_says, parts_say}
use Rattle.twobit.proofs.EntryLaws.{Headed, header_some}
use Rattle.twobit.proofs.PickLaws.{refuses}
use Rattle.twobit.proofs.ReadyLaws.{info_header, info_record, info_done}
use Rattle.twobit.proofs.reading.record_info.Goals.{In_ok-header}
use Rattle.twobit.proofs.reading.record_info.Goals as goal

headed : (c : In_ok-header) → Headed c.args.file.now c.in_ok-header.header.big c.in_ok-header.header.count
headed c = header_some _ _ _ (sym c.header_of.ensures ∙ ap header_says (c.ok_or.ensures.ok_part ∙ ap result_ok c.in_ok-header.was))

pub returns-in_err-header : goal.returns-in_err-header
returns-in_err-header c =
    let a = c.args in
    let p = refuses _ _ _ _ (sym c.in_err-header.was ∙ c.ok_or.ensures.value) c.from_residual.ensures.1 in
    ap info_says p.1 ∙ info_header a.file.now a.offset (sym c.header_of.ensures ∙ ap header_says p.0)

pub returns-in_err-parts : goal.returns-in_err-parts
returns-in_err-parts c =
    let a = c.args in
    let p = refuses _ _ _ _ (sym c.in_err-parts.was ∙ c.ok_or-2.ensures.value) c.from_residual-in_err-parts.ensures.1 in
    ap info_says p.1 ∙ info_record a.file.now a.offset _ _ (headed (goal.at.returns-in_err-parts c).In_ok-header) (sym c.record_at.ensures ∙ ap parts_say p.0)

pub returns : goal.returns
returns c =
    let a = c.args in
    info_done a.file.now a.offset _ _ (headed (goal.at.returns c).In_ok-header) (places c.in_ok-parts.parts)
    (sym c.record_at.ensures ∙ ap parts_say (c.ok_or-2.ensures.ok_part ∙ ap result_ok c.in_ok-parts.was)) c.new.result.0 c.new.ensures
