-- The tests are the definition's, in its order. Assumes nothing.
use mathlib.Core.Path.{sym, ap, ◌∙◌}
use Prim.Native.Nat.{◌+◌}
use native.Mathlib.Omega.{arith}
use Rattle.twobit.specs.Inner.{Places, places, parts_say}
use Rattle.twobit.proofs.RecordLaws.{Parted, parts_some, blocks-count, blocks-within, blocks-front}
use Rattle.twobit.proofs.RecordLaws.{record_cut, record_blocks, record_masks, record_shared, record_good}
use Rattle.twobit.proofs.inner.records.record_at.Goals.{In_ok-parts}
use Rattle.twobit.proofs.inner.records.record_at.Goals as goal

-- the parts that were found
abbrev found : In_ok-parts → Places
found c = places c.in_ok-parts.parts

parted : (c : In_ok-parts) → let a = c.args in Parted a.big a.file.now a.r (found c)
parted c =
    let a = c.args in
    parts_some a.big a.file.now a.r (found c) (sym c.parts_at.ensures ∙ ap parts_say c.in_ok-parts.was)

pub overflow_add-blocks_at : goal.overflow_add-blocks_at
overflow_add-blocks_at c =
    let a = c.args in
    record { fits = omega (arith, blocks-within a.big a.file.now a.r (found c) (parted c), blocks-front a.big a.file.now (a.r + 4), c.well_formed) }

pub all_inside-requires : goal.all_inside-requires
all_inside-requires c =
    let a = c.args in
    (blocks-count a.big a.file.now a.r (found c) (parted c), blocks-within a.big a.file.now a.r (found c) (parted c))

pub returns-then-not-all_inside : goal.returns-then-not-all_inside
returns-then-not-all_inside c =
    let a = c.args in
    record_blocks a.big a.file.now a.r (found (goal.at.returns-then-not-all_inside c).In_ok-parts) (parted (goal.at.returns-then-not-all_inside c).In_ok-parts) (sym c.all_inside.ensures
    ∙ c.if-not-all_inside.true)

pub returns-then-not-all_inside-2 : goal.returns-then-not-all_inside-2
returns-then-not-all_inside-2 c =
    let a = c.args in
    record_masks a.big a.file.now a.r (found (goal.at.returns-then-not-all_inside-2 c).In_ok-parts) (parted (goal.at.returns-then-not-all_inside-2 c).In_ok-parts)
    (sym c.all_inside-2.ensures ∙ c.if-not-all_inside-2.true)

pub all_apart-requires : goal.all_apart-requires
all_apart-requires c =
    let a = c.args in (
      blocks-count a.big a.file.now a.r (found (goal.at.all_apart-requires c).In_ok-parts) (parted (goal.at.all_apart-requires c).In_ok-parts),
      blocks-within a.big a.file.now a.r (found (goal.at.all_apart-requires c).In_ok-parts) (parted (goal.at.all_apart-requires c).In_ok-parts),
    )

pub returns-then-not-all_apart : goal.returns-then-not-all_apart
returns-then-not-all_apart c =
    let a = c.args in
    record_shared a.big a.file.now a.r (found (goal.at.returns-then-not-all_apart c).In_ok-parts) (parted (goal.at.returns-then-not-all_apart c).In_ok-parts) (sym c.all_apart.ensures ∙ c.if-not-all_apart.true)

pub returns-in_err-parts : goal.returns-in_err-parts
returns-in_err-parts c =
    let a = c.args in
    ap parts_say c.from_residual.ensures ∙ record_cut a.big a.file.now a.r (sym c.parts_at.ensures ∙ ap parts_say c.in_err-parts.was)

pub returns : goal.returns
returns c =
    let a = c.args in
    record_good a.big a.file.now a.r (found (goal.at.returns c).In_ok-parts) (parted (goal.at.returns c).In_ok-parts) (sym c.all_inside.ensures ∙ c.if-not-all_inside.false)
    (sym c.all_inside-2.ensures ∙ c.if-not-all_inside-2.false)
    (sym c.all_apart.ensures ∙ c.if-not-all_apart.false)
