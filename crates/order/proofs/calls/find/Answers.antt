-- Accepted views are searched. Assumes nothing.
use mathlib.Core.Path.{◌≡◌, sym, ap, ◌∙◌}
use mathlib.Core.Bool.{false}
use Prim.Native.Nat.{ℕ}
use Rattle.std.specs.Prelude.{Ok, Option, Some, None, IsSomeAnd}
use Rattle.std.specs.Option.{MatchOption}
use Rattle.codes.specs.Codes.{chars}
use Rattle.codes.specs.declared.units.Chars.{Chars}
use Rattle.order.specs.Answers.{counted}
use Rattle.order.specs.Order.{pair_outcome, placed, place_of, found}
use Rattle.codes.proofs.OutcomeLaws.{answer_done, answer_passed}
use Rattle.order.proofs.calls.find.Given.{Over}
use Rattle.order.proofs.calls.find.Goals.{After-count-4}
use Rattle.order.proofs.calls.find.Goals as goal

pub returns-in_err-pair_outcome : goal.returns-in_err-pair_outcome
unfolding found
returns-in_err-pair_outcome g c = answer_passed _ _ _ _ _ _ c.in_err-pair_outcome.ensures c.from_residual.ensures.1

-- the two views, not refused
module _ (g : Over) (c : After-count-4 g) where
  done : let a = c.args in pair_outcome g.W.Width.BITS a.text.now a.to.0 a.tl.0 a.pattern.now a.po.0 a.pl.0 ≡ Ok tt
  done = sym c.in_ok-pair_outcome.ensures

  -- by their counts
  by_counts : {A : Type 0} (f : ℕ → ℕ → ℕ → ℕ → A)
      → let a = c.args in
      f c.count.result c.count-2.result c.count-3.result c.count-4.result ≡ f a.to.0 a.tl.0 a.po.0 a.pl.0
  by_counts f = λ i. f (c.count.ensures i) (c.count-2.ensures i) (c.count-3.ensures i) (c.count-4.ensures i)

pub find_at-place-requires : goal.find_at-place-requires
find_at-place-requires g c =
    let a = c.args in by_counts g c (λ to tl po pl. pair_outcome g.W.Width.BITS a.text.now to tl a.pattern.now po pl) ∙ done g c

-- a place, as a count
mapped : (p : Option ℕ) (r : Option Chars) → MatchOption p (r ≡ None) (λ x. IsSomeAnd r (λ y. y.0 ≡ x)) → counted r ≡ p
mapped None r e = ap counted e
mapped (Some x) (Some y) h = ap Some h
mapped (Some x) None h = absurd h

pub returns : goal.returns
unfolding found
returns g c =
    let a = c.args in
    answer_done _ _ _ (false, 0) (done g (goal.at.returns g c).After-count-4)
    (ap placed (mapped c.find_at-place.result c.map.result c.map.ensures.cases ∙ c.find_at-place.ensures)
    ∙ by_counts g (goal.at.returns g c).After-count-4 (λ to tl po pl. placed (place_of (chars g.W.Width.BITS a.pattern.now po pl) (chars g.W.Width.BITS a.text.now to tl))))
