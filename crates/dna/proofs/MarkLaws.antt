-- Runs of set flags: they join, and one flag or eight are set in one byte.
-- Assumes nothing.
use mathlib.Core.List.{List}
use mathlib.Core.Path.{◌≡◌, refl, sym, ap, ap₂, ◌∙◌}
use Prim.Native.Nat.{ℕ, suc, ◌+◌, ◌-◌, ◌*◌, ◌/◌, ◌%◌, ◌^◌, ◌≤◌, ◌<◌}
use native.Mathlib.Nat.{one-mul, mod-lt, div_self, div-eq_of_lt}
use native.Mathlib.Decide.{ℕ_discrete}
use native.Mathlib.Omega.{arith}
use lib.Bits.{bit_or, or_shr, or_mod, or_zero_r, shifted_even}
use lib.ListN.{length, get_or, set, length-set}
use lib.Pow.{pow_pos, pow-lt, pow-add, shl-shr}
use lib.Seq.{get_or-set_same, get_or-set_other}
use borrow.Author.Tests.{lt-ltb, le-ltb, lt-leb, le-leb}
use Rattle.codes.specs.Codes.{char_at, tab}
use Rattle.codes.proofs.TabLaws.{get_or-tab}
use Rattle.codes.proofs.WidthLaws.{below_or}
use Rattle.dna.specs.Flags.{Marked}

-- a run by its three parts
module _ {from to : ℕ} {d e : List ℕ} where
  marked : length e ≡ length d → ((i : ℕ) → i < from → char_at 1 e i ≡ char_at 1 d i) → ((i : ℕ) → from ≤ i → i < to → char_at 1 e i ≡ 1)
      → ((i : ℕ) → to ≤ i → char_at 1 e i ≡ char_at 1 d i) → Marked from to d e
  marked l before within behind =
      record {
        long = l;
        flag = λ i.
            below_or i from (λ h. rw (lt-leb from i h) (before i h))
            (λ h. below_or i to (λ m. rw (le-leb from i h, lt-ltb i to m) (within i h m)) (λ m. rw (le-leb from i h, le-ltb i to m) (behind i m)));
      }

  -- and its parts
  marked-before : Marked from to d e → (i : ℕ) → i < from → char_at 1 e i ≡ char_at 1 d i
  marked-before z i h = z.flag i ∙ rw (lt-leb from i h)

  marked-within : Marked from to d e → (i : ℕ) → from ≤ i → i < to → char_at 1 e i ≡ 1
  marked-within z i h m = z.flag i ∙ rw (le-leb from i h, lt-ltb i to m)

  marked-behind : Marked from to d e → (i : ℕ) → to ≤ i → char_at 1 e i ≡ char_at 1 d i
  marked-behind z i m = z.flag i ∙ below_or i from (λ h. rw (lt-leb from i h)) (λ h. rw (le-leb from i h, le-ltb i to m))

-- an empty run
pub marked-none : {p : ℕ} {d : List ℕ} → Marked p p d d
marked-none = marked refl (λ i h. refl) (λ i h m. absurd (omega arith)) (λ i h. refl)

-- a run and one behind it
pub marked-on : {from p to : ℕ} {d e x : List ℕ} → from ≤ p → p ≤ to → Marked from p d e → Marked p to e x → Marked from to d x
marked-on {p = p} a b y z =
    marked (z.long ∙ y.long) (λ i h. marked-before z i (omega arith) ∙ marked-before y i h)
    (λ i h m. below_or i p (λ l. marked-before z i l ∙ marked-within y i h l) (λ l. marked-within z i l m))
    (λ i h. marked-behind z i h ∙ marked-behind y i (omega arith))

-- a power of two has no other bit
pow-bit : (k j : ℕ) → (j ≡ k → ⊥) → 2 ^ k / 2 ^ j % 2 ≡ 0
pow-bit k j n =
    below_or j k
    (λ h.
    let e : suc (k - j - 1) + j ≡ k = omega arith in
    ap (λ (x : ℕ). 2 ^ x / 2 ^ j % 2) (sym e)
    ∙ ap (λ (x : ℕ). x / 2 ^ j % 2) (pow-add 2 (suc (k - j - 1)) j)
    ∙ ap (λ (x : ℕ). x % 2) (shl-shr (2 ^ suc (k - j - 1)) j ∙ sym (one-mul (2 ^ suc (k - j - 1))))
    ∙ shifted_even 1 (k - j - 1))
    (λ h. ap (λ (x : ℕ). x % 2) (div-eq_of_lt (pow-lt (omega arith))))

-- a byte's bits with one of them set
or_bits : (b k j : ℕ) → bit_or b (2 ^ k) / 2 ^ j % 2 ≡ bit_or (b / 2 ^ j % 2) (2 ^ k / 2 ^ j % 2)
or_bits b k j = ap (λ (x : ℕ). x % 2) (or_shr b (2 ^ k) j) ∙ or_mod (b / 2 ^ j) (2 ^ k / 2 ^ j) 1

-- the others stay
or_other : (b k j : ℕ) → (j ≡ k → ⊥) → bit_or b (2 ^ k) / 2 ^ j % 2 ≡ b / 2 ^ j % 2
or_other b k j n = or_bits b k j ∙ ap (bit_or (b / 2 ^ j % 2)) (pow-bit k j n) ∙ or_zero_r (b / 2 ^ j % 2)

-- it is set
or_same : (b k : ℕ) → bit_or b (2 ^ k) / 2 ^ k % 2 ≡ 1
or_same b k = or_bits b k k ∙ ap (λ (x : ℕ). bit_or (b / 2 ^ k % 2) (x % 2)) (div_self (pow_pos k)) ∙ one (b / 2 ^ k % 2) (mod-lt (b / 2 ^ k) (pow_pos 1))
  where
    one : (x : ℕ) → x < 2 → bit_or x 1 ≡ 1
    one x h = below_or x 1 (λ l. let z : x ≡ 0 = omega arith in ap (λ (y : ℕ). bit_or y 1) z) (λ l. let z : x ≡ 1 = omega arith in ap (λ (y : ℕ). bit_or y 1) z)

-- the flags of a byte that is written, and the others
module _ (e : List ℕ) (b v i : ℕ) where
  flag_same : b < length e → i / 8 ≡ b → char_at 1 (set e b v) i ≡ v / 2 ^ (i % 8) % 2
  unfolding char_at
  flag_same l q = ap₂ (λ (x y : ℕ). x / 2 ^ y % 2) (ap (λ (j : ℕ). get_or (set e b v) j 0) q ∙ get_or-set_same e b v 0 l) (one-mul (i % 8))

  flag-other : (i / 8 ≡ b → ⊥) → char_at 1 (set e b v) i ≡ char_at 1 e i
  unfolding char_at
  flag-other n = ap (λ (x : ℕ). x / 2 ^ (1 * (i % 8)) % 2) (get_or-set_other e b (i / 8) v 0 n)

-- flag i of a byte string
flag_is : (e : List ℕ) (i : ℕ) → char_at 1 e i ≡ get_or e (i / 8) 0 / 2 ^ (i % 8) % 2
unfolding char_at
flag_is e i = ap (λ (y : ℕ). get_or e (i / 8) 0 / 2 ^ y % 2) (one-mul (i % 8))

-- one flag
pub marked-one : (e : List ℕ) (p : ℕ) → p / 8 < length e → Marked p (p + 1) e (set e (p / 8) (bit_or (get_or e (p / 8) 0) (2 ^ (p % 8))))
marked-one e p l = marked (length-set e (p / 8) v) (λ i h. other i (omega arith)) (λ i h m. same i (omega arith)) (λ i h. other i (omega arith))
  where
    v : ℕ
    v = bit_or (get_or e (p / 8) 0) (2 ^ (p % 8))

    same : (i : ℕ) → i ≡ p → char_at 1 (set e (p / 8) v) i ≡ 1
    same i q = rw q (flag_same e (p / 8) v p l refl ∙ or_same (get_or e (p / 8) 0) (p % 8))

    other : (i : ℕ) → (i ≡ p → ⊥) → char_at 1 (set e (p / 8) v) i ≡ char_at 1 e i
    other i n =
        elim (ℕ_discrete (i / 8) (p / 8)) [
          | yes q ↦ flag_same e (p / 8) v i l q
              ∙ or_other (get_or e (p / 8) 0) (p % 8) (i % 8) (λ m. n (omega arith))
              ∙ ap (λ (j : ℕ). get_or e j 0 / 2 ^ (i % 8) % 2) (sym q) ∙ sym (flag_is e i)
          | no m ↦ flag-other e (p / 8) v i m
        ]

-- a byte of set flags
ones : (j : ℕ) → j < 8 → 255 / 2 ^ j % 2 ≡ 1
unfolding tab
ones j h = sym (get_or-tab 8 (λ k. 255 / 2 ^ k % 2) j h) ∙ get_or-tab 8 (λ k. 1) j h

-- eight flags
pub marked-eight : (e : List ℕ) (p : ℕ) → p % 8 ≡ 0 → p / 8 < length e → Marked p (p + 8) e (set e (p / 8) 255)
marked-eight e p z l =
    marked (length-set e (p / 8) 255) (λ i h. flag-other e (p / 8) 255 i (λ q. omega arith))
    (λ i h m. flag_same e (p / 8) 255 i l (omega arith) ∙ ones (i % 8) (mod-lt i (omega arith))) (λ i h. flag-other e (p / 8) 255 i (λ q. omega arith))
