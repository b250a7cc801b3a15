use mathlib.Core.Path.{◌≡◌, sym, ap, subst, ◌∙◌}
use Prim.Native.Nat.{ℕ, ◌*◌, ◌%◌, ◌^◌, ◌<◌}
use native.Mathlib.Nat.{mod-eq_of_lt, one-mul}
use lib.Arith.{lt_of_le-ne}
use lib.Pow.{pow_pos, pow-lt}
use Rattle.codes.proofs.inner.bits.low_bits.Goals as goal

-- 1 << n
one_shl : (n : ℕ) → n < 64 → 1 * 2 ^ n % 2 ^ 64 ≡ 2 ^ n
one_shl n h = ap (λ (x : ℕ). x % 2 ^ 64) (one-mul (2 ^ n)) ∙ mod-eq_of_lt (pow-lt h)

pub returns-then-n-eq64 : goal.returns-then-n-eq64
returns-then-n-eq64 c = sym (ap (λ (k : ℕ). c.args.x % 2 ^ k) c.if-n-eq64.true ∙ mod-eq_of_lt c.ranges.x.fits)

pub nonzero_rem-result : goal.nonzero_rem-result
nonzero_rem-result c = subst (λ (x : ℕ). 0 < x) (sym (one_shl c.args.n (lt_of_le-ne c.requires c.if-n-eq64.false))) (pow_pos c.args.n)

pub returns : goal.returns
returns c = ap (λ (x : ℕ). c.args.x % x) (one_shl c.args.n (lt_of_le-ne c.requires c.if-n-eq64.false))
