-- The code's test is the definition's. Assumes nothing.
use native.Mathlib.Omega.{arith}
use borrow.Author.Tests.{lt-ltb, le-ltb}
use Rattle.codes.proofs.inner.checks.bad_word.Goals as goal

pub returns-then-k-least : goal.returns-then-k-least
returns-then-k-least c = rw (c.count-k.ensures, lt-ltb c.args.len.0 c.args.least (omega arith))

pub returns-else-k-least : goal.returns-else-k-least
returns-else-k-least c = rw (c.count-k.ensures, le-ltb c.args.len.0 c.args.least (omega arith))
