-- The blocks end within the file where their number stands in it and leaves room for them. Assumes nothing.
use mathlib.Core.Path.{refl}
use native.Mathlib.Omega.{arith}
use Rattle.twobit.specs.Reading.{block_count}
use Rattle.twobit.proofs.RecordLaws.{table-cut, table-whole}
use Rattle.twobit.proofs.inner.records.table_at.Goals as goal

pub returns-then-len-lt4 : goal.returns-then-len-lt4
returns-then-len-lt4 c =
    let a = c.args in
    table-cut a.big a.file.now a.p (block_count a.big a.file.now a.p) refl (omega arith)

pub returns-then-len-p : goal.returns-then-len-p
returns-then-len-p c =
    let a = c.args in
    table-cut a.big a.file.now a.p (block_count a.big a.file.now a.p) refl (omega arith)

pub returns-then-len-p-2 : goal.returns-then-len-p-2
unfolding block_count
returns-then-len-p-2 c =
    let a = c.args in
    table-cut a.big a.file.now a.p c.number_at-count.result c.number_at-count.ensures (omega arith)

pub returns : goal.returns
unfolding block_count
returns c =
    let a = c.args in
    table-whole a.big a.file.now a.p c.number_at-count.result c.number_at-count.ensures (omega arith)
