-- The tests are the definition's, in its order. Assumes nothing.
use Rattle.std.specs.Prelude.{Some}
use Rattle.std.specs.Result.{result_ok}
use mathlib.Core.Bool.{false}
use mathlib.Core.Path.{◌≡◌, sym, ap, ◌∙◌}
use Rattle.codes.specs.Refusals.{too_long}
use Rattle.twobit.specs.Inner.{Places, places, header_says, parts_say, ready_says}
use Rattle.twobit.proofs.EntryLaws.{Headed, header_some}
use Rattle.twobit.proofs.RecordLaws.{record_found}
use Rattle.twobit.proofs.PickLaws.{refuses}
use Rattle.twobit.proofs.ReadyLaws.{ready_first, ready_second, ready_header, ready_record, ready_bases, ready_flags, ready_done}
use Rattle.twobit.proofs.inner.filling.record_ready.Goals.{Else-too_long, Else-too_long-2, In_ok-header, In_ok-parts}
use Rattle.twobit.proofs.inner.filling.record_ready.Goals as goal

pub returns-then-too_long : goal.returns-then-too_long
returns-then-too_long c = let a = c.args in ready_first a.file.now a.r a.base_room a.flag_room (sym c.too_long.ensures ∙ c.if-too_long.true)

passed_1 : (c : Else-too_long) → (too_long c.args.base_room).0 ≡ false
passed_1 c = sym c.too_long.ensures ∙ c.if-too_long.false

passed_2 : (c : Else-too_long-2) → (too_long c.args.flag_room).0 ≡ false
passed_2 c = sym c.too_long-2.ensures ∙ c.if-too_long-2.false

pub returns-then-too_long-2 : goal.returns-then-too_long-2
returns-then-too_long-2 c =
    let a = c.args in
    ready_second a.file.now a.r a.base_room a.flag_room (passed_1 (goal.at.returns-then-too_long-2 c).Else-too_long) (sym c.too_long-2.ensures ∙ c.if-too_long-2.true)

headed : (c : In_ok-header) → Headed c.args.file.now c.in_ok-header.header.big c.in_ok-header.header.count
headed c = header_some _ _ _ (sym c.header_of.ensures ∙ ap header_says (c.ok_or.ensures.ok_part ∙ ap result_ok c.in_ok-header.was))

-- the record that was found
abbrev parted : In_ok-parts → Places
parted c = places c.in_ok-parts.parts

found : (c : In_ok-parts) → let a = c.args in record_found c.in_ok-header.header.big a.file.now a.r ≡ Some (parted c)
found c = sym c.record_at.ensures ∙ ap parts_say (c.ok_or-2.ensures.ok_part ∙ ap result_ok c.in_ok-parts.was)

pub returns-in_err-header : goal.returns-in_err-header
returns-in_err-header c =
    let a = c.args in
    let p = refuses _ _ _ _ (sym c.in_err-header.was ∙ c.ok_or.ensures.value) c.from_residual.ensures.1 in
    ap ready_says p.1
    ∙ ready_header a.file.now a.r a.base_room a.flag_room (passed_1 (goal.at.returns-in_err-header c).Else-too_long) (passed_2 (goal.at.returns-in_err-header c).Else-too_long-2)
    (sym c.header_of.ensures ∙ ap header_says p.0)

pub returns-in_err-parts : goal.returns-in_err-parts
returns-in_err-parts c =
    let a = c.args in
    let p = refuses _ _ _ _ (sym c.in_err-parts.was ∙ c.ok_or-2.ensures.value) c.from_residual-in_err-parts.ensures.1 in
    ap ready_says p.1
    ∙ ready_record a.file.now a.r a.base_room a.flag_room (passed_1 (goal.at.returns-in_err-parts c).Else-too_long) (passed_2 (goal.at.returns-in_err-parts c).Else-too_long-2)
    _ _ (headed (goal.at.returns-in_err-parts c).In_ok-header) (sym c.record_at.ensures ∙ ap parts_say p.0)

pub returns-then-bad_store : goal.returns-then-bad_store
returns-then-bad_store c =
    let a = c.args in
    ready_bases a.file.now a.r a.base_room a.flag_room (passed_1 (goal.at.returns-then-bad_store c).Else-too_long) (passed_2 (goal.at.returns-then-bad_store c).Else-too_long-2)
    _ _ (headed (goal.at.returns-then-bad_store c).In_ok-header) (parted (goal.at.returns-then-bad_store c).In_ok-parts)
    (found (goal.at.returns-then-bad_store c).In_ok-parts) c.new-len.result.0 c.new-len.ensures (sym c.if-bad_store.true ∙ c.bad_store.ensures)

pub returns-then-bad_store-2 : goal.returns-then-bad_store-2
returns-then-bad_store-2 c =
    let a = c.args in
    ready_flags a.file.now a.r a.base_room a.flag_room (passed_1 (goal.at.returns-then-bad_store-2 c).Else-too_long) (passed_2 (goal.at.returns-then-bad_store-2 c).Else-too_long-2)
    _ _ (headed (goal.at.returns-then-bad_store-2 c).In_ok-header) (parted (goal.at.returns-then-bad_store-2 c).In_ok-parts)
    (found (goal.at.returns-then-bad_store-2 c).In_ok-parts) c.new-len.result.0 c.new-len.ensures (sym c.if-bad_store.false ∙ c.bad_store.ensures)
    (sym c.if-bad_store-2.true ∙ c.bad_store-2.ensures)

pub returns : goal.returns
returns c =
    let a = c.args in
    ready_done a.file.now a.r a.base_room a.flag_room (passed_1 (goal.at.returns c).Else-too_long) (passed_2 (goal.at.returns c).Else-too_long-2)
    _ _ (headed (goal.at.returns c).In_ok-header) (parted (goal.at.returns c).In_ok-parts)
    (found (goal.at.returns c).In_ok-parts) c.new-len.result.0 c.new-len.ensures (sym c.if-bad_store.false ∙ c.bad_store.ensures)
    (sym c.if-bad_store-2.false ∙ c.bad_store-2.ensures)
