-- A shift down and up clears the low bits, and a remainder takes those of the other. Assumes nothing.
use mathlib.Core.Path.{◌≡◌, sym, ap, ap₂, ◌∙◌, subst}
use Prim.Native.Nat.{ℕ, ◌+◌, ◌-◌, ◌*◌, ◌/◌, ◌%◌, ◌^◌, ◌≤◌, ◌<◌}
use native.Mathlib.Nat.{mod-lt, mod-eq_of_lt, div-mul-le_self, lt_of_le_of_lt, one-mul, sub-add_cancel}
use native.Mathlib.Omega.{arith}
use lib.Arith.{digits_lt}
use lib.Dec.{lit<}
use lib.Pow.{pow_pos, pow-add, shl_exact, shr_lt}
use Rattle.codes.proofs.inner.tracks.joined.Goals.{After-wide-2}
use Rattle.codes.proofs.inner.tracks.joined.Goals as goal

-- the two parts in a word, and their sum in a byte
module _ (low high s : ℕ) (l : s ≤ 8) (h : high < 256) where
  abbrev whole : ℕ
  whole = high / 2 ^ s * 2 ^ s + low % 2 ^ s

  parts : high / 2 ^ s * 2 ^ s % 2 ^ 64 + low % (1 * 2 ^ s % 2 ^ 64) ≡ whole
  parts =
      ap₂ (λ (a b : ℕ). a + low % b) (mod-eq_of_lt (lt_of_le_of_lt (div-mul-le_self high (2 ^ s)) (omega arith)))
      (shl_exact {a = 1} 1 s 64 (lit< tt) (omega arith) ∙ one-mul (2 ^ s))

  whole-lt : whole < 256
  whole-lt =
      let e : 8 - s + s ≡ 8 = sub-add_cancel l in
      subst (λ (n : ℕ). whole < n) (sym (pow-add 2 (8 - s) s) ∙ ap (λ (k : ℕ). 2 ^ k) e)
      (digits_lt (shr_lt (8 - s) s (subst (λ (k : ℕ). high < 2 ^ k) (sym e) h)) (mod-lt low (pow_pos s)))

module _ (c : After-wide-2) where
  high_lt : c.wide.result < 256
  high_lt = omega (arith, c.wide.ensures, c.ranges.high.fits)

  abbrev sum : ℕ
  sum = whole c.wide-2.result c.wide.result c.args.s c.requires high_lt

  sum_is : c.wide.result / 2 ^ c.args.s * 2 ^ c.args.s % 2 ^ 64 + c.wide-2.result % (1 * 2 ^ c.args.s % 2 ^ 64) ≡ sum
  sum_is = parts c.wide-2.result c.wide.result c.args.s c.requires high_lt

  sum_lt : sum < 256
  sum_lt = whole-lt c.wide-2.result c.wide.result c.args.s c.requires high_lt

pub overflow_shr-above : goal.overflow_shr-above
overflow_shr-above c = omega arith

pub overflow_shl-above : goal.overflow_shl-above
overflow_shl-above c = omega arith

pub overflow_shl-result : goal.overflow_shl-result
overflow_shl-result c = omega arith

pub nonzero_rem-result : goal.nonzero_rem-result
nonzero_rem-result c = rw (shl_exact {a = 1} 1 c.args.s 64 (lit< tt) (omega arith), one-mul) (pow_pos c.args.s)

pub overflow_add-result : goal.overflow_add-result
overflow_add-result c = rw (sum_is c) (omega (arith, sum_lt c))

pub overflow_cast-result : goal.overflow_cast-result
overflow_cast-result c = rw (sum_is c) (record { fits = sum_lt c })

pub returns : goal.returns
returns c = let k = c.args.s in sum_is c ∙ ap₂ (λ (x y : ℕ). y / 2 ^ k * 2 ^ k + x % 2 ^ k) c.wide-2.ensures c.wide.ensures
