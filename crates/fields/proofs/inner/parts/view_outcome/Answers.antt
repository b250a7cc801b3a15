-- The tests are the definition's, in its order. Assumes nothing.
use mathlib.Core.Path.{sym, ◌∙◌}
use Prim.Native.Nat.{◌^◌}
use lib.ListN.{length}
use borrow.Author.Tests.{ltb-false}
use Rattle.fields.proofs.inner.parts.view_outcome.Goals as goal

pub returns-then-too_long : goal.returns-then-too_long
returns-then-too_long g c = simp (sym c.too_long.ensures ∙ c.if-too_long.true)

pub bad_view-requires : goal.bad_view-requires
bad_view-requires g c = ltb-false (2 ^ 28) (length c.args.bytes.now) (sym c.too_long.ensures ∙ c.if-too_long.false)

pub returns-then-bad_view : goal.returns-then-bad_view
returns-then-bad_view g c = simp (sym c.too_long.ensures ∙ c.if-too_long.false, sym c.bad_view.ensures ∙ c.if-bad_view.true)

pub returns : goal.returns
returns g c = simp (sym c.too_long.ensures ∙ c.if-too_long.false, sym c.bad_view.ensures ∙ c.if-bad_view.false)
