-- The tests are the definition's, in its order. Assumes nothing.
use borrow.Author.Tests.{lt-ltb, le-ltb}
use Rattle.windows.proofs.inner.counts.bad_lane.Goals as goal

pub returns-then-most-count : goal.returns-then-most-count
returns-then-most-count c = rw (lt-ltb _ _ c.if-most-count.true)

pub returns : goal.returns
returns c = rw (le-ltb _ _ c.if-most-count.false)
