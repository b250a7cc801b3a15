-- Each number is its formula, with no sum that could wrap. Assumes nothing.
use mathlib.Core.Path.{◌≡◌, ap, ap₂, ◌∙◌}
use Prim.Native.Nat.{ℕ, ◌+◌, ◌-◌, ◌*◌, ◌/◌, ◌%◌, ◌^◌}
use native.Mathlib.Omega.{arith}
use Rattle.lanes.specs.Lanes.{multiple_above, starts, lane, padding}
use Rattle.lanes.proofs.ShapeLaws.{Shaped, shaped-is, shape_ranges, group_pow, padding-is, steps-none, steps-some}
use Rattle.lanes.proofs.inner.shapes.numbers_of.Given.{Over}
use Rattle.lanes.proofs.inner.shapes.numbers_of.Goals.{After-lane_of-n}
use Rattle.lanes.proofs.inner.shapes.numbers_of.Goals as goal

pub starts_of-s-requires : goal.starts_of-s-requires
starts_of-s-requires g c = (shape_ranges c.args.context c.args.factor c.requires).0

pub overflow_sub-factor : goal.overflow_sub-factor
overflow_sub-factor g c = omega (arith, (shape_ranges c.args.context c.args.factor c.requires).2)

pub overflow_add-factor : goal.overflow_add-factor
overflow_add-factor g c = omega (arith, c.power.ensures.1, (shape_ranges c.args.context c.args.factor c.requires).3)

pub lane_of-n-requires : goal.lane_of-n-requires
lane_of-n-requires g c = omega (arith, c.power.ensures.1, (shape_ranges c.args.context c.args.factor c.requires).3)

-- a lane by its exponent, its group and its starts
lane-by : (r e e' n n' g : ℕ) → r ≡ multiple_above (2 ^ e) ((n + 7) / 8) → e ≡ e' → 2 ^ e' ≡ g → n ≡ n' → r ≡ multiple_above g ((n' + 7) / 8)
lane-by r e e' n n' g l p q h = rw (l, p, q, h)

module _ (g : Over) (c : After-lane_of-n g) where
  abbrev many : ℕ
  many = c.starts_of-s.result

  starts_is : many ≡ starts c.args.len c.args.context
  starts_is = c.starts_of-s.ensures

  lane-is : c.lane_of-n.result ≡ lane g.W.Width.BITS c.args.len c.args.context c.args.factor
  unfolding lane
  lane-is =
      let r = shape_ranges c.args.context c.args.factor c.requires in
      let g = group_pow g.W.Width.BITS c.args.factor c.power.result r.2 r.3 c.power.ensures.0 in
      lane-by _ _ (c.args.factor - 1 + c.power.result) _ _ _ c.lane_of-n.ensures (omega arith) g starts_is

  right : Shaped g.W.Width.BITS c.args.len c.args.context c.args.factor
  right = shaped-is g.W.Width.divides c.args.len c.args.context c.args.factor c.requires

  padded : 8 * (c.lane_of-n.result - many / 8) - many % 8 ≡ padding g.W.Width.BITS c.args.len c.args.context c.args.factor
  padded = ap₂ (λ (n m : ℕ). 8 * (n - m / 8) - m % 8) lane-is starts_is ∙ padding-is g.W.Width.BITS c.args.len c.args.context c.args.factor right

pub overflow_sub-behind : goal.overflow_sub-behind
overflow_sub-behind g c = omega (arith, right g c, lane-is g c, starts_is g c)

pub overflow_mul-behind : goal.overflow_mul-behind
overflow_mul-behind g c = omega (arith, right g c, lane-is g c, starts_is g c)

pub overflow_sub-behind-2 : goal.overflow_sub-behind-2
overflow_sub-behind-2 g c = omega (arith, right g c, lane-is g c, starts_is g c)

pub returns-then-len-context : goal.returns-then-len-context
returns-then-len-context g c =
    let a = c.args in
    record {
      lane = lane-is g (goal.at.returns-then-len-context g c).After-lane_of-n;
      padding = padded g (goal.at.returns-then-len-context g c).After-lane_of-n;
      steps = steps-none g.W.Width.BITS a.len a.context a.factor c.if-len-context.true;
    }

pub overflow_sub-result : goal.overflow_sub-result
overflow_sub-result g c = omega (arith, right g (goal.at.overflow_sub-result g c).After-lane_of-n)

pub overflow_add-result : goal.overflow_add-result
overflow_add-result g c = omega (arith, right g (goal.at.overflow_add-result g c).After-lane_of-n, lane-is g (goal.at.overflow_add-result g c).After-lane_of-n)

pub returns : goal.returns
returns g c =
    let a = c.args in
    let e = steps-some g.W.Width.BITS a.len a.context a.factor (right g (goal.at.returns g c).After-lane_of-n).low (omega arith) in
    record {
      lane = lane-is g (goal.at.returns g c).After-lane_of-n;
      padding = padded g (goal.at.returns g c).After-lane_of-n;
      steps = ap (λ (n : ℕ). n + (a.context - 1)) (lane-is g (goal.at.returns g c).After-lane_of-n) ∙ e;
    }
