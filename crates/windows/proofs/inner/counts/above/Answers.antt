-- The order decides. Assumes nothing.
use borrow.Author.Tests.{lt-ltb, le-ltb}
use Rattle.windows.proofs.inner.counts.above.Goals as goal

pub returns-then-sum-gt0 : goal.returns-then-sum-gt0
returns-then-sum-gt0 c = rw (lt-ltb _ _ c.if-sum-gt0.true)

pub returns-else-sum-gt0 : goal.returns-else-sum-gt0
returns-else-sum-gt0 c = rw (le-ltb _ _ c.if-sum-gt0.false)
