-- The tests are the definition's, in its order. Assumes nothing.
use mathlib.Core.Path.{sym, ◌∙◌}
use borrow.Author.Tests.{lt-ltb, le-ltb}
use Rattle.codes.specs.Codes.{trailing}
use Rattle.stores.proofs.inner.outcomes.clear_outcome.Goals as goal

pub returns-then-too_long : goal.returns-then-too_long
returns-then-too_long c = rw (sym c.too_long.ensures ∙ c.if-too_long.true)

pub returns-then-size-lt-TRAILING : goal.returns-then-size-lt-TRAILING
returns-then-size-lt-TRAILING c = rw (sym c.too_long.ensures ∙ c.if-too_long.false, lt-ltb _ trailing c.if-size-lt-TRAILING.true)

pub returns : goal.returns
returns c = rw (sym c.too_long.ensures ∙ c.if-too_long.false, le-ltb _ trailing c.if-size-lt-TRAILING.false)
