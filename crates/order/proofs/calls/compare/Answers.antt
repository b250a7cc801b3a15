-- Accepted views are compared. Assumes nothing.
use mathlib.Core.Path.{◌≡◌, sym, ap₂, ◌∙◌}
use Prim.Native.Nat.{ℕ}
use lib.IntN.{pos}
use Rattle.std.specs.Prelude.{Ok}
use Rattle.std.specs.declared.cmp.Ordering.{Ordering}
use Rattle.codes.specs.Codes.{chars}
use Rattle.order.specs.Order.{order_number, common, pair_outcome, pair_order, compared}
use Rattle.codes.proofs.OutcomeLaws.{answer_done, answer_passed}
use Rattle.order.proofs.calls.compare.Given.{Over}
use Rattle.order.proofs.calls.compare.Goals.{After-count-4}
use Rattle.order.proofs.calls.compare.Goals as goal

pub returns-in_err-pair_outcome : goal.returns-in_err-pair_outcome
unfolding compared
returns-in_err-pair_outcome g c = answer_passed _ _ _ _ _ _ c.in_err-pair_outcome.ensures c.from_residual.ensures.1

-- the two views, not refused
module _ (g : Over) (c : After-count-4 g) where
  done : let a = c.args in pair_outcome g.W.Width.BITS a.a.now a.ao.0 a.al.0 a.b.now a.bo.0 a.bl.0 ≡ Ok tt
  done = sym c.in_ok-pair_outcome.ensures

  -- by their counts
  counted : {A : Type 0} (f : ℕ → ℕ → ℕ → ℕ → A)
      → let a = c.args in
      f c.count.result c.count-2.result c.count-3.result c.count-4.result ≡ f a.ao.0 a.al.0 a.bo.0 a.bl.0
  counted f = λ i. f (c.count.ensures i) (c.count-2.ensures i) (c.count-3.ensures i) (c.count-4.ensures i)

pub compare_views-requires : goal.compare_views-requires
compare_views-requires g c =
    let a = c.args in counted g c (λ ao al bo bl. pair_outcome g.W.Width.BITS a.a.now ao al a.b.now bo bl) ∙ done g c

pub returns : goal.returns
unfolding compared
returns g c =
    let a = c.args in
    answer_done _ _ _ (pos 0, 0) (done g (goal.at.returns g c).After-count-4)
    (ap₂ (λ (o : Ordering) (n : ℕ). (order_number o, n)) c.compare_views.ensures.order c.compare_views.ensures.common
    ∙ counted g (goal.at.returns g c).After-count-4 (λ ao al bo bl. (order_number (pair_order g.W.Width.BITS a.a.now ao al a.b.now bo bl), common (chars g.W.Width.BITS a.a.now ao al) (chars g.W.Width.BITS a.b.now bo bl))))
