-- The tests are the definition's, in its order. Assumes nothing.
use mathlib.Core.Bool.{false}
use mathlib.Core.Path.{◌≡◌, sym, ◌∙◌}
use Prim.Native.Nat.{◌^◌}
use lib.ListN.{length}
use borrow.Author.Tests.{ltb-false}
use Rattle.codes.specs.Refusals.{too_long, bad_view}
use Rattle.order.proofs.inner.pairs.pair_outcome.Given.{Over}
use Rattle.order.proofs.inner.pairs.pair_outcome.Goals.{Else-bad_view, Else-too_long, Else-too_long-2}
use Rattle.order.proofs.inner.pairs.pair_outcome.Goals as goal

-- the tests that are passed
short_a : (g : Over) (c : Else-too_long g) → (too_long (length c.args.a.now)).0 ≡ false
short_a g c = sym c.too_long.ensures ∙ c.if-too_long.false

short_b : (g : Over) (c : Else-too_long-2 g) → (too_long (length c.args.b.now)).0 ≡ false
short_b g c = sym c.too_long-2.ensures ∙ c.if-too_long-2.false

held_a : (g : Over) (c : Else-bad_view g) → let a = c.args in (bad_view g.W.Width.BITS (length a.a.now) a.ao.0 a.al.0).0 ≡ false
held_a g c = sym c.bad_view.ensures ∙ c.if-bad_view.false

pub returns-then-too_long : goal.returns-then-too_long
returns-then-too_long g c = simp (sym c.too_long.ensures ∙ c.if-too_long.true)

pub returns-then-too_long-2 : goal.returns-then-too_long-2
returns-then-too_long-2 g c = simp (short_a g (goal.at.returns-then-too_long-2 g c).Else-too_long, sym c.too_long-2.ensures ∙ c.if-too_long-2.true)

pub bad_view-requires : goal.bad_view-requires
bad_view-requires g c = ltb-false (2 ^ 28) _ (short_a g (goal.at.bad_view-requires g c).Else-too_long)

pub returns-then-bad_view : goal.returns-then-bad_view
returns-then-bad_view g c =
    simp (short_a g (goal.at.returns-then-bad_view g c).Else-too_long, short_b g (goal.at.returns-then-bad_view g c).Else-too_long-2, sym c.bad_view.ensures ∙ c.if-bad_view.true)

pub bad_view-requires-2 : goal.bad_view-requires-2
bad_view-requires-2 g c = ltb-false (2 ^ 28) _ (short_b g (goal.at.bad_view-requires-2 g c).Else-too_long-2)

pub returns-then-bad_view-2 : goal.returns-then-bad_view-2
returns-then-bad_view-2 g c =
    simp (
      short_a g (goal.at.returns-then-bad_view-2 g c).Else-too_long,
      short_b g (goal.at.returns-then-bad_view-2 g c).Else-too_long-2,
      held_a g (goal.at.returns-then-bad_view-2 g c).Else-bad_view,
      sym c.bad_view-2.ensures ∙ c.if-bad_view-2.true,
    )

pub returns : goal.returns
returns g c =
    simp (short_a g (goal.at.returns g c).Else-too_long, short_b g (goal.at.returns g c).Else-too_long-2, held_a g (goal.at.returns g c).Else-bad_view, sym c.bad_view-2.ensures ∙ c.if-bad_view-2.false)
