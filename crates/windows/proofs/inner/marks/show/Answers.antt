-- The order decides. Assumes nothing.
use borrow.Author.Tests.{lt-ltb, le-ltb}
use Rattle.windows.proofs.inner.marks.show.Goals as goal

pub returns-then-j-mark : goal.returns-then-j-mark
returns-then-j-mark c = rw (lt-ltb _ _ c.if-j-mark.true)

pub returns-else-j-mark : goal.returns-else-j-mark
returns-else-j-mark c = rw (le-ltb _ _ c.if-j-mark.false)
