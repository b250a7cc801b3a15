-- The laws of a byte joined of two, character by character: which byte made anew it is, and what a run of one such byte changes.
-- Assumes nothing.
use mathlib.Core.List.{List}
use mathlib.Core.Path.{◌≡◌, sym, ap, ◌∙◌, subst}
use Prim.Native.Nat.{ℕ, ◌+◌, ◌-◌, ◌*◌, ◌/◌, ◌%◌, ◌^◌, ◌≤◌, ◌<◌}
use native.Mathlib.Decide.{ℕ_discrete}
use native.Mathlib.Nat.{mod-lt, mod-eq_of_lt, mul-add, mul-suc, mul-le-mul_left}
use native.Mathlib.Omega.{arith}
use lib.ListN.{get_or}
use lib.Pow.{pow_pos, low, high, shr-shr}
use Rattle.codes.specs.Codes.{IsWidth, per}
use Rattle.codes.specs.Made.{Made}
use Rattle.codes.specs.Words.{word}
use Rattle.codes.proofs.FieldLaws.{field_of}
use Rattle.codes.proofs.TabLaws.{tab-ext, chars_of-tab}
use Rattle.codes.proofs.WidthLaws.{below_or}
use Rattle.codes.proofs.WordLaws.{word-chars_of}
use Rattle.runs.specs.Bytes.{fresh_char, fresh_byte}
use Rattle.runs.specs.Runs.{splice}

-- character i of a number
abbrev pub nth : ℕ → ℕ → ℕ → ℕ
nth w x i = x / 2 ^ (w * i) % 2 ^ w

-- the characters of x below character k, then those of y
abbrev pub both : ℕ → ℕ → ℕ → ℕ → ℕ
both w k x y = y / 2 ^ (w * k) * 2 ^ (w * k) + x % 2 ^ (w * k)

module _ (w k x y : ℕ) where
  pub both_low : (i : ℕ) → i < k → nth w (both w k x y) i ≡ nth w x i
  both_low i h =
      let m : w * i + w ≤ w * k = subst (λ (n : ℕ). n ≤ w * k) (mul-suc w i) (mul-le-mul_left w h) in
      sym (field_of (both w k x y) (w * i) w (w * k) m)
      ∙ ap (λ (n : ℕ). nth w n i) (low (y / 2 ^ (w * k)) (w * k) (mod-lt x (pow_pos (w * k))))
      ∙ field_of x (w * i) w (w * k) m

  pub both_high : (i : ℕ) → k ≤ i → nth w (both w k x y) i ≡ nth w y i
  both_high i h =
      ap (λ (n : ℕ). n % 2 ^ w)
      (sym (shr (both w k x y)) ∙ ap (λ (n : ℕ). n / 2 ^ (w * (i - k))) (high (y / 2 ^ (w * k)) (w * k) (mod-lt x (pow_pos (w * k)))) ∙ shr y)
    where
      shr : (n : ℕ) → n / 2 ^ (w * k) / 2 ^ (w * (i - k)) ≡ n / 2 ^ (w * i)
      shr n = shr-shr n (w * k) (w * (i - k)) ∙ ap (λ (e : ℕ). n / 2 ^ e) (sym (mul-add w k (i - k)) ∙ ap (λ (e : ℕ). w * e) (omega arith))

-- the bits of k characters of a byte
pub bits_fit : {w : ℕ} → IsWidth w → (k : ℕ) → k ≤ per w → w * k ≤ 8
bits_fit {w} W k h = subst (λ (n : ℕ). w * k ≤ n) W.whole (mul-le-mul_left w h)

-- a byte whose characters are those of a splice is the byte made anew
pub byte_fresh : {w : ℕ} → IsWidth w → (old at : ℕ) (cs : List ℕ) (stop b x : ℕ) → x < 256
    → ((i : ℕ) → i < per w → nth w x i ≡ splice (λ j. nth w old i) at cs stop (b * per w + i)) → x ≡ fresh_byte w old at cs stop b
unfolding fresh_byte fresh_char
byte_fresh {w} W old at cs stop b x l h =
    sym (word-chars_of w (per w) x ∙ ap (λ (e : ℕ). x % 2 ^ e) W.whole ∙ mod-eq_of_lt l)
    ∙ ap (word w) (chars_of-tab w (per w) x ∙ tab-ext (per w) (nth w x) (λ i. splice (λ j. nth w old i) at cs stop (b * per w + i)) h)

-- one byte of a run is joined: its other characters and the other bytes stay
module _ (w k v : ℕ) {b : ℕ} {d e : List ℕ} where
  stays : {f : ℕ → ℕ} → Made f b (b + 1) d e → (j i : ℕ) → (j ≡ b → nth w (f j) i ≡ nth w (get_or d j 0) i) → nth w (get_or e j 0) i ≡ nth w (get_or d j 0) i
  stays z j i h =
      elim (ℕ_discrete j b) [
        | yes q ↦ ap (λ (x : ℕ). nth w x i) (z.new j (omega arith) (omega arith)) ∙ h q
        | no n ↦ ap (λ (x : ℕ). nth w x i) (below_or j b (z.below j) (λ m. z.above j (omega arith)))
      ]

  module _ (z : Made (λ j. both w k v (get_or d j 0)) b (b + 1) d e) (j i : ℕ) where
    pub below_new : j ≡ b → i < k → nth w (get_or e j 0) i ≡ nth w v i
    below_new q h = ap (λ (x : ℕ). nth w x i) (z.new j (omega arith) (omega arith)) ∙ both_low w k v (get_or d j 0) i h

    pub below_own : (j ≡ b → k ≤ i) → nth w (get_or e j 0) i ≡ nth w (get_or d j 0) i
    below_own h = stays z j i (λ q. both_high w k v (get_or d j 0) i (h q))

  module _ (z : Made (λ j. both w k (get_or d j 0) v) b (b + 1) d e) (j i : ℕ) where
    pub above_new : j ≡ b → k ≤ i → nth w (get_or e j 0) i ≡ nth w v i
    above_new q h = ap (λ (x : ℕ). nth w x i) (z.new j (omega arith) (omega arith)) ∙ both_high w k (get_or d j 0) v i h

    pub above_own : (j ≡ b → i < k) → nth w (get_or e j 0) i ≡ nth w (get_or d j 0) i
    above_own h = stays z j i (λ q. both_low w k (get_or d j 0) v i (h q))

-- a byte that was joined of two is that of their equals
pub joined_as : (lo hi lo' hi' s r : ℕ) → r ≡ hi / 2 ^ s * 2 ^ s + lo % 2 ^ s → lo ≡ lo' → hi ≡ hi' → r ≡ hi' / 2 ^ s * 2 ^ s + lo' % 2 ^ s
joined_as lo hi lo' hi' s r e l h = rw (e, l, h)
