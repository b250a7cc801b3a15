-- The entry ends within the file where its name and its offset do. Assumes nothing.
use native.Mathlib.Omega.{arith}
use Rattle.twobit.proofs.EntryLaws.{entry_cut, entry_whole}
use Rattle.twobit.proofs.inner.files.entry_at.Goals as goal

pub returns-then-len-at : goal.returns-then-len-at
returns-then-len-at c =
    let a = c.args in
    entry_cut a.big a.k a.file.now a.at (omega arith)

pub returns-then-len-at-2 : goal.returns-then-len-at-2
returns-then-len-at-2 c =
    let a = c.args in
    entry_cut a.big a.k a.file.now a.at (omega arith)

pub returns : goal.returns
returns c =
    let a = c.args in
    entry_whole a.big a.k a.file.now a.at c.number_at.result (omega arith) c.number_at.ensures
