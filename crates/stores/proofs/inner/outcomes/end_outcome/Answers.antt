-- The tests are the definition's, in its order. Assumes nothing.
use mathlib.Core.Bool.{false}
use mathlib.Core.Path.{◌≡◌, sym, ◌∙◌}
use Prim.Native.Nat.{◌+◌}
use native.Mathlib.Omega.{arith}
use borrow.Author.Tests.{lt-ltb, le-ltb}
use Rattle.codes.specs.Refusals.{too_long, bad_store}
use Rattle.stores.proofs.inner.outcomes.end_outcome.Given.{Over}
use Rattle.stores.proofs.inner.outcomes.end_outcome.Goals.{Else-bad_store, Else-too_long}
use Rattle.stores.proofs.inner.outcomes.end_outcome.Goals as goal

-- the tests that are passed
short : (g : Over) (c : Else-too_long g) → (too_long c.args.size).0 ≡ false
short g c = sym c.too_long.ensures ∙ c.if-too_long.false

sound : (g : Over) (c : Else-bad_store g) → let a = c.args in (bad_store g.W.Width.BITS a.size a.len.0).0 ≡ false
sound g c = sym c.bad_store.ensures ∙ c.if-bad_store.false

pub returns-then-too_long : goal.returns-then-too_long
returns-then-too_long g c = rw (sym c.too_long.ensures ∙ c.if-too_long.true)

pub returns-then-bad_store : goal.returns-then-bad_store
returns-then-bad_store g c = rw (short g (goal.at.returns-then-bad_store g c).Else-too_long, sym c.bad_store.ensures ∙ c.if-bad_store.true)

pub returns-then-n-at : goal.returns-then-n-at
returns-then-n-at g c =
    let a = c.args in
    rw (short g (goal.at.returns-then-n-at g c).Else-too_long, sound g (goal.at.returns-then-n-at g c).Else-bad_store, lt-ltb a.len.0 (a.start.0 + a.count) (omega arith))

pub returns-then-n-at-2 : goal.returns-then-n-at-2
returns-then-n-at-2 g c =
    let a = c.args in
    rw (short g (goal.at.returns-then-n-at-2 g c).Else-too_long, sound g (goal.at.returns-then-n-at-2 g c).Else-bad_store, lt-ltb a.len.0 (a.start.0 + a.count) (omega arith))

pub returns : goal.returns
returns g c =
    let a = c.args in
    rw (short g (goal.at.returns g c).Else-too_long, sound g (goal.at.returns g c).Else-bad_store, le-ltb a.len.0 (a.start.0 + a.count) (omega arith))
