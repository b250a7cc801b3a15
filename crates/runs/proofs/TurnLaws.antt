-- The 8 by 8 bits of a word turned, by three stages of swaps by masks: a stage moves bits about, and the three moves are the turn.
-- Assumes nothing.
use mathlib.Core.Path.{◌≡◌, refl, sym, ap, ap₂, ◌∙◌}
use Prim.Native.Nat.{ℕ, ◌+◌, ◌-◌, ◌*◌, ◌/◌, ◌%◌, ◌^◌, ◌<◌, min, max}
use native.Mathlib.Decide.{ℕ_discrete}
use native.Mathlib.Nat.{min-zero, min-eq_left, max-zero, zero-max}
use native.Mathlib.Omega.{arith}
use borrow.Author.Tests.{eq-eqb, ne_eqb}
use lib.Bits.{bit_and, bit_or}
use lib.Dec.{eqb}
use Rattle.codes.specs.Codes.{pick, tab}
use Rattle.codes.proofs.WidthLaws.{below_or}
use Rattle.codes.proofs.TabLaws.{tab-at}
use Rattle.runs.proofs.BitLaws.{bit, bit_lt, bit_and_lem, bit_or_lem, bit_shr, bit_shl, bit_shl_low, bit_mod}

-- a stage: the bits of `keep` stay, those of `low` go up by `by`, and what stands `by` above them comes down
pub record Stage : Type 0 where
  pub keep : ℕ
  pub low : ℕ
  pub by : ℕ

abbrev pub swap : Stage → ℕ → ℕ
swap s x = bit_or (bit_or (bit_and x s.keep) (bit_and x s.low * 2 ^ s.by % 2 ^ 64)) (bit_and (x / 2 ^ s.by) s.low)

-- one of three places, by which of three bits alone is set, and else 64
abbrev place : ℕ → ℕ → ℕ → ℕ → ℕ
place n p q r = pick (eqb n 1) p (pick (eqb n 2) q (pick (eqb n 4) r 64))

-- where a stage takes bit j from
abbrev from : Stage → ℕ → ℕ
from s j = place (bit s.keep j + 2 * bit (s.low * 2 ^ s.by) j + 4 * bit s.low j) j (j - s.by) (s.by + j)

-- the bits at the three places, each behind its mask's bit
chosen : (g : ℕ → ℕ) → ((k : ℕ) → g k < 2) → (a b c p q r : ℕ) → a < 2 → b < 2 → c < 2 → place (a + 2 * b + 4 * c) p q r < 64
    → max (max (min (g p) a) (min (g q) b)) (min (g r) c) ≡ g (place (a + 2 * b + 4 * c) p q r)
chosen g few a b c p q r ha hb hc l =
    elim (ℕ_discrete n 1) [
      | yes e ↦ rw (eq-eqb n 1 e) (alone 1 0 0 (omega arith) (omega arith) (omega arith) ∙ simp (min-zero, max-zero, whole p))
      | no d ↦
          elim (ℕ_discrete n 2) [
            | yes e ↦ rw (ne_eqb n 1 d, eq-eqb n 2 e) (alone 0 1 0 (omega arith) (omega arith) (omega arith) ∙ simp (min-zero, max-zero, zero-max, whole q))
            | no d' ↦
                elim (ℕ_discrete n 4) [
                  | yes e ↦ rw (ne_eqb n 1 d, ne_eqb n 2 d', eq-eqb n 4 e) (alone 0 0 1 (omega arith) (omega arith) (omega arith) ∙ simp (min-zero, zero-max, whole r))
                  | no d'' ↦ absurd (omega (arith, rw (ne_eqb n 1 d, ne_eqb n 2 d', ne_eqb n 4 d'') at l))
                ]
          ]
    ]
  where
    n : ℕ
    n = a + 2 * b + 4 * c

    alone : (a' b' c' : ℕ) → a ≡ a' → b ≡ b' → c ≡ c' → max (max (min (g p) a) (min (g q) b)) (min (g r) c) ≡ max (max (min (g p) a') (min (g q) b')) (min (g r) c')
    alone a' b' c' ea eb ec = rw (ea, eb, ec)

    whole : (k : ℕ) → min (g k) 1 ≡ g k
    whole k = min-eq_left (omega (arith, few k))

module _ (s : Stage) (x : ℕ) where
  up : (j : ℕ) → bit (bit_and x s.low * 2 ^ s.by) j ≡ min (bit x (j - s.by)) (bit (s.low * 2 ^ s.by) j)
  up j =
      below_or j s.by
      (λ h. bit_shl_low (bit_and x s.low) s.by j h ∙ sym (ap (min (bit x (j - s.by))) (bit_shl_low s.low s.by j h) ∙ min-zero (bit x (j - s.by))))
      (λ h. bit_shl (bit_and x s.low) s.by j h ∙ bit_and_lem x s.low (j - s.by) ∙ ap (min (bit x (j - s.by))) (sym (bit_shl s.low s.by j h)))

  -- a stage that takes each bit of a word from one within it, which is tested
  swap_bit : tab 64 (λ j. from s j / 64) ≡ tab 64 (λ j. 0) → (j : ℕ) → j < 64 → (from s j < 64) × (bit (swap s x) j ≡ bit x (from s j))
  swap_bit t j h =
      let l : from s j < 64 = omega (arith, tab-at 64 (λ j. from s j / 64) (λ j. 0) t j h) in (
        l,
        bit_or_lem (bit_or (bit_and x s.keep) (bit_and x s.low * 2 ^ s.by % 2 ^ 64)) (bit_and (x / 2 ^ s.by) s.low) j
            ∙ ap₂ max
            (bit_or_lem (bit_and x s.keep) (bit_and x s.low * 2 ^ s.by % 2 ^ 64) j ∙ ap₂ max (bit_and_lem x s.keep j) (bit_mod (bit_and x s.low * 2 ^ s.by) 64 j h ∙ up j))
            (bit_and_lem (x / 2 ^ s.by) s.low j ∙ ap (λ (y : ℕ). min y (bit s.low j)) (bit_shr x s.by j))
            ∙ chosen (bit x) (bit_lt x) (bit s.keep j) (bit (s.low * 2 ^ s.by) j) (bit s.low j) j (j - s.by) (s.by + j)
            (bit_lt s.keep j) (bit_lt (s.low * 2 ^ s.by) j) (bit_lt s.low j) l,
      )

abbrev pub first : Stage
first = record { keep = 0xaa55_aa55_aa55_aa55; low = 0x00aa_00aa_00aa_00aa; by = 7 }

abbrev pub second : Stage
second = record { keep = 0xcccc_3333_cccc_3333; low = 0x0000_cccc_0000_cccc; by = 14 }

abbrev pub third : Stage
third = record { keep = 0xf0f0_f0f0_0f0f_0f0f; low = 0x0000_0000_f0f0_f0f0; by = 28 }

turned : (j : ℕ) → j < 64 → from first (from second (from third j)) ≡ 8 * (j % 8) + j / 8
unfolding tab
turned = tab-at 64 (λ j. from first (from second (from third j))) (λ j. 8 * (j % 8) + j / 8) refl

pub turn_bit : (x j : ℕ) → j < 64 → bit (swap third (swap second (swap first x))) j ≡ bit x (8 * (j % 8) + j / 8)
unfolding tab
turn_bit x j h =
    let y : ℕ = swap first x in
    let c = swap_bit third (swap second y) refl j h in
    let b = swap_bit second y refl (from third j) c.0 in
    let a = swap_bit first x refl (from second (from third j)) b.0 in
    c.1 ∙ b.1 ∙ a.1 ∙ ap (bit x) (turned j h)
