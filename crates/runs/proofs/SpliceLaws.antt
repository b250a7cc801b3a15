-- The laws of a splice of characters, place by place.
-- Assumes nothing.
use mathlib.Core.List.{List, [], ◌∷◌, map}
use mathlib.Core.Path.{◌≡◌, refl, sym, subst}
use Prim.Native.Nat.{ℕ, zero, suc, ◌-◌, ◌^◌, ◌≤◌, ◌<◌}
use native.Mathlib.Nat.{le_of_suc-le-suc, not-suc-le-zero}
use borrow.Author.Tests.{lt-ltb, le-ltb}
use lib.Dec.{ltb}
use lib.ListN.{length, get_or, length-map, get_or-eq_default}
use lib.Pow.{pow_pos}
use Rattle.codes.specs.Codes.{IsWidth, code}
use Rattle.codes.proofs.CodeLaws.{pick-lt, code_lt}
use Rattle.codes.proofs.WidthLaws.{below_or}
use Rattle.runs.specs.Runs.{splice}

module _ (f : ℕ → ℕ) (at : ℕ) (cs : List ℕ) (stop : ℕ) where
  pub splice-old : (i : ℕ) → i < at → splice f at cs stop i ≡ f i
  unfolding splice
  splice-old i h = rw (lt-ltb i at h)

  pub splice-new : (i : ℕ) → at ≤ i → i < stop → splice f at cs stop i ≡ get_or cs (i - at) 0
  unfolding splice
  splice-new i h l = rw (le-ltb i at h, lt-ltb i stop l)

  pub splice-far : (i : ℕ) → stop ≤ i → splice f at cs stop i ≡ f i
  unfolding splice
  splice-far i h = below_or i at (λ l. splice-old i l) (λ l. rw (le-ltb i at l, le-ltb i stop h))

  pub splice-lt : (m : ℕ) → ((i : ℕ) → f i < m) → ((i : ℕ) → get_or cs i 0 < m) → (i : ℕ) → splice f at cs stop i < m
  unfolding splice
  splice-lt m a b i = pick-lt (ltb i at) (f i) _ m (a i) (pick-lt (ltb i stop) _ _ m (b (i - at)) (a i))

-- the codes of letters
pub get_or-codes : (w : ℕ) (ls : List ℕ) (i : ℕ) → i < length ls → get_or (map (code w) ls) i 0 ≡ code w (get_or ls i 0)
get_or-codes w [] i h = absurd (not-suc-le-zero h)
get_or-codes w (l ∷ ls) zero h = refl
get_or-codes w (l ∷ ls) (suc i) h = get_or-codes w ls i (le_of_suc-le-suc h)

pub get_or-codes_out : (w : ℕ) (ls : List ℕ) (i : ℕ) → length ls ≤ i → get_or (map (code w) ls) i 0 ≡ 0
get_or-codes_out w ls i h = get_or-eq_default (map (code w) ls) 0 (subst (λ (n : ℕ). n ≤ i) (sym (length-map ls (code w))) h)

pub codes_lt : {w : ℕ} → IsWidth w → (ls : List ℕ) (i : ℕ) → get_or (map (code w) ls) i 0 < 2 ^ w
codes_lt {w} W ls i = below_or i (length ls) (λ h. rw (get_or-codes w ls i h) (code_lt W (get_or ls i 0))) (λ h. rw (get_or-codes_out w ls i h) (pow_pos w))
