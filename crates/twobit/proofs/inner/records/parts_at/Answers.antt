-- Each part begins where the one before it ends. Assumes nothing.
use mathlib.Core.Path.{sym, ap, ◌∙◌}
use Prim.Native.Nat.{◌+◌}
use native.Mathlib.Omega.{arith}
use Rattle.codes.specs.Codes.{up}
use Rattle.twobit.specs.Inner.{table_says, parts_say}
use Rattle.twobit.specs.Reading.{size_at}
use Rattle.twobit.proofs.RecordLaws.{Tabled, table-some, parts_short, parts_first, parts_second, parts_third, parts_fourth, parts_whole}
use Rattle.twobit.proofs.inner.records.parts_at.Goals.{In_ok-blocks, In_ok-masks}
use Rattle.twobit.proofs.inner.records.parts_at.Goals as goal

pub returns-then-len-lt4 : goal.returns-then-len-lt4
returns-then-len-lt4 c =
    let a = c.args in
    parts_short a.big a.file.now a.r (omega arith)

pub returns-then-len-r : goal.returns-then-len-r
returns-then-len-r c =
    let a = c.args in
    parts_short a.big a.file.now a.r (omega arith)

-- the N blocks
front : (c : In_ok-blocks) → let a = c.args in
    Tabled a.big a.file.now (a.r + 4) c.in_ok-blocks.blocks.count c.in_ok-blocks.blocks.end
front c =
    let a = c.args in
    table-some a.big a.file.now (a.r + 4) c.in_ok-blocks.blocks.count c.in_ok-blocks.blocks.end (sym c.table_at.ensures ∙ ap table_says c.in_ok-blocks.was)

-- the mask blocks
masked : (c : In_ok-masks) → let a = c.args in
    Tabled a.big a.file.now c.in_ok-blocks.blocks.end c.in_ok-masks.masks.count c.in_ok-masks.masks.end
masked c =
    let a = c.args in
    table-some a.big a.file.now c.in_ok-blocks.blocks.end c.in_ok-masks.masks.count c.in_ok-masks.masks.end
    (sym c.table_at-2.ensures ∙ ap table_says c.in_ok-masks.was)

pub returns-then-len-masks-lt4 : goal.returns-then-len-masks-lt4
returns-then-len-masks-lt4 c =
    let a = c.args in
    parts_third a.big a.file.now a.r c.in_ok-blocks.blocks.count c.in_ok-blocks.blocks.end (front (goal.at.returns-then-len-masks-lt4 c).In_ok-blocks)
    c.in_ok-masks.masks.count c.in_ok-masks.masks.end (masked (goal.at.returns-then-len-masks-lt4 c).In_ok-masks)
    (omega (arith, c.if-len-masks-lt4.true, (masked (goal.at.returns-then-len-masks-lt4 c).In_ok-masks).within))

pub returns-then-len-dna : goal.returns-then-len-dna
unfolding size_at
returns-then-len-dna c =
    let a = c.args in
    parts_fourth a.big a.file.now a.r c.in_ok-blocks.blocks.count c.in_ok-blocks.blocks.end (front (goal.at.returns-then-len-dna c).In_ok-blocks)
    c.in_ok-masks.masks.count c.in_ok-masks.masks.end (masked (goal.at.returns-then-len-dna c).In_ok-masks)
    c.number_at-size.result c.count.result c.number_at-size.ensures
    (c.count.ensures ∙ (c.bytes_as.ensures ∙ ap (up 2) c.new.ensures))
    (omega (arith, c.if-len-dna.true, c.if-len-masks-lt4.false, (masked (goal.at.returns-then-len-dna c).In_ok-masks).within))

pub returns-in_err-blocks : goal.returns-in_err-blocks
returns-in_err-blocks c =
    let a = c.args in
    ap parts_say c.from_residual.ensures ∙ parts_first a.big a.file.now a.r (sym c.table_at.ensures ∙ ap table_says c.in_err-blocks.was)

pub returns-in_err-masks : goal.returns-in_err-masks
returns-in_err-masks c =
    let a = c.args in
    ap parts_say c.from_residual-in_err-masks.ensures
    ∙ parts_second a.big a.file.now a.r c.in_ok-blocks.blocks.count c.in_ok-blocks.blocks.end (front (goal.at.returns-in_err-masks c).In_ok-blocks)
    (sym c.table_at-2.ensures ∙ ap table_says c.in_err-masks.was)

pub returns : goal.returns
unfolding size_at
returns c =
    let a = c.args in
    parts_whole a.big a.file.now a.r c.in_ok-blocks.blocks.count c.in_ok-blocks.blocks.end (front (goal.at.returns c).In_ok-blocks)
    c.in_ok-masks.masks.count c.in_ok-masks.masks.end (masked (goal.at.returns c).In_ok-masks)
    c.number_at-size.result c.count.result c.number_at-size.ensures
    (c.count.ensures ∙ (c.bytes_as.ensures ∙ ap (up 2) c.new.ensures))
    (omega (arith, c.if-len-dna.false, c.if-len-masks-lt4.false, (masked (goal.at.returns c).In_ok-masks).within))
