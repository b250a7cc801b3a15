-- An eighth of s, rounded up with no sum that could wrap; a shift down and up takes the rest off. Assumes nothing.
use mathlib.Core.Path.{◌≡◌, ap, ◌∙◌}
use Prim.Native.Nat.{ℕ, ◌+◌, ◌-◌, ◌*◌, ◌/◌, ◌%◌, ◌^◌, ◌≤◌}
use native.Mathlib.Nat.{mod-eq_of_lt, one-mul}
use native.Mathlib.Omega.{arith}
use lib.Dec.{lit<}
use lib.Pow.{pow_mono, pow_pos, shl_exact}
use Rattle.lanes.specs.Lanes.{multiple_above}
use Rattle.lanes.proofs.ShapeLaws.{multiple_high}
use Rattle.lanes.proofs.inner.shapes.lane_of.Goals.{Start}
use Rattle.lanes.proofs.inner.shapes.lane_of.Goals as goal

module _ (c : Start) where
  abbrev m : ℕ
  m = 2 ^ c.args.e

  abbrev eighth : ℕ
  eighth = c.args.s / 8 + (c.args.s % 8 + 7) / 8

  -- the code's 1 << e
  one : 1 * 2 ^ c.args.e % 2 ^ 64 ≡ m
  one = shl_exact {a = 1} 1 c.args.e 64 (lit< tt) (omega arith) ∙ one-mul m

  small : m ≤ 16
  small = pow_mono {j = 4} c.requires

pub overflow_shl-result : goal.overflow_shl-result
overflow_shl-result c = omega arith

pub overflow_sub-result : goal.overflow_sub-result
overflow_sub-result c = rw (one c) (pow_pos c.args.e)

pub overflow_add-result : goal.overflow_add-result
overflow_add-result c = rw (one c) (omega (arith, small c))

pub overflow_shr-result : goal.overflow_shr-result
overflow_shr-result c = omega arith

pub overflow_shl-result-2 : goal.overflow_shl-result-2
overflow_shl-result-2 c = omega arith

pub returns : goal.returns
returns c =
    let e : eighth c ≡ (c.args.s + 7) / 8 = omega arith in
    ap (λ (k : ℕ). (eighth c + (k - 1)) / m c * m c % 2 ^ 64) (one c)
    ∙ mod-eq_of_lt (omega (arith, multiple_high (m c) (eighth c), small c))
    ∙ ap (multiple_above (m c)) e
