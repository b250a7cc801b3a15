-- The four codes in turn. Assumes nothing.
use mathlib.Core.Path.{◌≡◌, refl}
use Prim.Native.Nat.{ℕ, zero, suc, ◌-◌, ◌/◌, ◌%◌, ◌<◌, ◌≤◌}
use native.Mathlib.Nat.{mod-lt}
use native.Mathlib.Omega.{arith}
use lib.Bits.{bit_and}
use lib.Dec.{lit<, lit≤}
use Rattle.codes.proofs.inner.packing.low_letter.Goals.{Start}
use Rattle.codes.proofs.inner.packing.low_letter.Goals as goal

-- whether a code is that of T
abbrev is_t : ℕ → ℕ
is_t c = bit_and (c / 2) (1 - c % 2)

-- a code is one of four
one_of : {X : Type 0} (c : ℕ) → c < 4 → (c ≡ 0 → X) → (c ≡ 1 → X) → (c ≡ 2 → X) → (c ≡ 3 → X) → X
one_of zero h a b c d = a refl
one_of (suc zero) h a b c d = b refl
one_of (suc (suc zero)) h a b c d = c refl
one_of (suc (suc (suc zero))) h a b c d = d refl
one_of (suc (suc (suc (suc n)))) h a b c d = absurd (omega arith)

is_t_le : (c : ℕ) → c < 4 → is_t c ≤ 1
is_t_le c h = one_of c h (λ e. rw e (lit≤ tt)) (λ e. rw e (lit≤ tt)) (λ e. rw e (lit≤ tt)) (λ e. rw e (lit≤ tt))

module _ (c : Start) where
  abbrev code : ℕ
  code = c.args.x % 4

  low : code < 4
  low = mod-lt c.args.x (lit< tt)

pub overflow_mul-result : goal.overflow_mul-result
overflow_mul-result c = omega (arith, low c)

pub overflow_add-result : goal.overflow_add-result
overflow_add-result c = omega (arith, low c)

pub overflow_sub-result : goal.overflow_sub-result
overflow_sub-result c = omega arith

pub overflow_mul-result-2 : goal.overflow_mul-result-2
overflow_mul-result-2 c = omega (arith, is_t_le (code c) (low c))

pub overflow_add-result-2 : goal.overflow_add-result-2
overflow_add-result-2 c = omega (arith, low c, is_t_le (code c) (low c))

pub returns : goal.returns
returns c = one_of (code c) (low c) (λ e. rw e) (λ e. rw e) (λ e. rw e) (λ e. rw e)
