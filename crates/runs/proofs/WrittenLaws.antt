-- The laws of a write: zeros behind the new characters make it whole.
-- Assumes nothing.
use mathlib.Core.List.{List}
use mathlib.Core.Path.{◌≡◌, refl, sym, ap, ◌∙◌}
use Prim.Native.Nat.{ℕ, zero, suc, ◌+◌, ◌*◌, ◌^◌, ◌≤◌, ◌<◌}
use native.Mathlib.Nat.{mul-le-mul_right, zero-mul, add-mul}
use native.Mathlib.Omega.{arith}
use lib.Arith.{digits_lt}
use lib.ListN.{length, get_or, get_or-eq_default}
use lib.Seq.{ext_get_or}
use Rattle.codes.specs.Codes.{IsWidth, per, up, trailing, char_at, tab}
use Rattle.codes.specs.Made.{Made}
use Rattle.codes.specs.Words.{word}
use Rattle.codes.proofs.CharLaws.{get_or-pack, length-pack}
use Rattle.codes.proofs.TabLaws.{tab-ext}
use Rattle.codes.proofs.WidthLaws.{below_or, up_above}
use Rattle.runs.specs.Runs.{splice, spliced, written}
use Rattle.runs.proofs.SpliceLaws.{splice-old, splice-new, splice-far}

pub word-zeros : (w n : ℕ) → word w (tab n (λ k. 0)) ≡ 0
unfolding word tab
word-zeros w zero = refl
word-zeros w (suc n) = omega (arith, ap (λ (x : ℕ). x * 2 ^ w) (word-zeros w n), zero-mul (2 ^ w))

module _ {w : ℕ} (W : IsWidth w) (d : List ℕ) (at : ℕ) (cs : List ℕ) where
  abbrev last : ℕ
  last = up w (at + length cs)

  -- the characters with zeros to the end of the last byte, and of the 48th behind it
  abbrev near : ℕ → ℕ
  near = splice (char_at w d) at cs (last * per w)

  abbrev far : ℕ → ℕ
  far = splice (char_at w d) at cs ((last + trailing) * per w)

  before_last : (i : ℕ) → i < last * per w → near i ≡ far i
  before_last i h =
      below_or i at
      (λ l. splice-old (char_at w d) at cs _ i l ∙ sym (splice-old (char_at w d) at cs _ i l))
      (λ l. splice-new (char_at w d) at cs _ i l h ∙ sym (splice-new (char_at w d) at cs _ i l (omega (arith, add-mul last trailing (per w)))))

  behind : (i : ℕ) → (last + trailing) * per w ≤ i → near i ≡ far i
  behind i h = splice-far (char_at w d) at cs _ i (omega (arith, add-mul last trailing (per w))) ∙ sym (splice-far (char_at w d) at cs _ i h)

  -- a zero byte between
  pub written-zeros : (j : ℕ) → last ≤ j → j < last + trailing → word w (tab (per w) (λ k. far (j * per w + k))) ≡ 0
  written-zeros j h l =
      ap (word w) (tab-ext (per w) (λ k. far (j * per w + k)) (λ k. 0)
      (λ k m.
      let u : at + length cs ≤ j * per w = up_above W (at + length cs) j h in
      splice-new (char_at w d) at cs _ (j * per w + k) (omega arith) (digits_lt l m) ∙ get_or-eq_default cs 0 (omega arith)))
      ∙ word-zeros w (per w)

  pub made-written : {e x : List ℕ} → Made (λ j. 0) last (last + trailing) e x → e ≡ spliced w d at cs (last * per w) → x ≡ written w d at cs
  unfolding written
  made-written {e} {x} z p =
      let le : length e ≡ length d = ap length p ∙ length-pack w (length d) near in
      ext_get_or 0 x (written w d at cs) (z.long ∙ le ∙ sym (length-pack w (length d) far))
      (λ j l.
      let m : j < length d = omega (arith, z.long) in
      let old : get_or e j 0 ≡ word w (tab (per w) (λ k. near (j * per w + k))) = ap (λ (y : List ℕ). get_or y j 0) p ∙ get_or-pack w (length d) near j m in
      below_or j last
      (λ h. z.below j h ∙ old ∙ as_far j (λ k u. before_last (j * per w + k) (digits_lt h u)))
      (λ h. below_or j (last + trailing)
      (λ n. z.new j h n ∙ sym (written-zeros j h n))
      (λ n. z.above j n ∙ old ∙ as_far j (λ k u. behind (j * per w + k) (omega (arith, mul-le-mul_right (per w) n)))))
      ∙ sym (get_or-pack w (length d) far j m))
    where
      as_far : (j : ℕ) → ((k : ℕ) → k < per w → near (j * per w + k) ≡ far (j * per w + k))
          → word w (tab (per w) (λ k. near (j * per w + k))) ≡ word w (tab (per w) (λ k. far (j * per w + k)))
      as_far j h = ap (word w) (tab-ext (per w) (λ k. near (j * per w + k)) (λ k. far (j * per w + k)) h)
