-- The tests are the definition's, in its order. Assumes nothing.
use native.Mathlib.Omega.{arith}
use borrow.Author.Tests.{lt-ltb, le-ltb}
use Rattle.windows.proofs.inner.outcomes.bad_window.Goals as goal

pub returns-then-n-lt1 : goal.returns-then-n-lt1
returns-then-n-lt1 c = rw (lt-ltb c.args.k.0 1 (omega arith))

pub returns : goal.returns
returns c = rw (c.count-n.ensures, le-ltb c.args.k.0 1 (omega arith))
