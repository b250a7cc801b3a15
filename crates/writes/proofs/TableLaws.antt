-- The test that shows a table right, and the bytes of output that are looked up in a right one. Assumes nothing.
use mathlib.Core.Bool.{Bool, true, false}
use mathlib.Core.List.{List, [], ◌∷◌, cons≢nil}
use mathlib.Core.Path.{◌≡◌, refl, ap, ap₂, ◌∙◌}
use Prim.Native.Nat.{ℕ, suc, ◌+◌, ◌-◌, ◌*◌, ◌/◌, ◌%◌, ◌^◌, ◌≤◌, ◌<◌}
use native.Mathlib.Decide.{ℕ_discrete}
use native.Mathlib.Nat.{mod-lt}
use native.Mathlib.Omega.{arith}
use borrow.Author.Tests.{eq-eqb, ne_eqb}
use lib.Dec.{eqb}
use lib.ListN.{get_or}
use Rattle.codes.specs.Codes.{IsWidth, per, complement}
use Rattle.codes.specs.Made.{Made}
use Rattle.codes.specs.Words.{flip}
use Rattle.codes.proofs.MadeLaws.{made_as}
use Rattle.codes.proofs.TabLaws.{get_or-tab}
use Rattle.writes.specs.Flips.{flipped_byte, flips, looked_up}
use Rattle.writes.proofs.ReverseLaws.{rest_is, flip-next, flip-behind}

-- i before the others, unless the test holds
abbrev unless : Bool → ℕ → List ℕ → List ℕ
unless true i is = is
unless false i is = i ∷ is

-- the places, counted from i, at which two lists differ: a test that antt computes, entry by entry
abbrev pub differing : ℕ → List ℕ → List ℕ → List ℕ
differing i [] [] = []
differing i [] (y ∷ ys) = i ∷ []
differing i (x ∷ xs) [] = i ∷ []
differing i (x ∷ xs) (y ∷ ys) = unless (eqb x y) i (differing (suc i) xs ys)

-- lists that differ nowhere are the same
differing_none : (i : ℕ) (xs ys : List ℕ) → differing i xs ys ≡ [] → xs ≡ ys
differing_none i [] [] e = refl
differing_none i [] (y ∷ ys) e = absurd (cons≢nil e)
differing_none i (x ∷ xs) [] e = absurd (cons≢nil e)
differing_none i (x ∷ xs) (y ∷ ys) e =
    elim (ℕ_discrete x y) [
      | yes q ↦ ap₂ (λ (a : ℕ) (l : List ℕ). a ∷ l) q (differing_none (suc i) xs ys (rw (eq-eqb x y q) at e))
      | no n ↦ absurd (cons≢nil (rw (ne_eqb x y n) at e))
    ]

-- the computed test of a table: no entry differs from the rule of its width
pub table-right : {table : List ℕ} (w : ℕ) → differing 0 table (flips w) ≡ [] → table ≡ flips w
table-right {table} w none = differing_none 0 table (flips w) none

-- the rule, at an entry
entry : (w b : ℕ) → b < 256 → get_or (flips w) b 0 ≡ flip w (complement w) (per w) b
unfolding flips
entry w b = get_or-tab 256 (flip w (complement w) (per w)) b

-- the bytes that are looked up are those of the whole in reverse
pub by_table : {w : ℕ} → IsWidth w → {table : List ℕ} → table ≡ flips w → (v bits : ℕ) → w * (bits / w) ≡ bits → {from to : ℕ} {old new : List ℕ} → 8 * to < bits + 8
    → Made (λ at. looked_up table v (bits - 8 * at)) from to old new → Made (flipped_byte w v bits) from to old new
by_table {w} W right v bits e short z =
    made_as z
    (λ at h l.
    let left : ℕ = bits - 8 * at in
    let m : 8 * at ≤ bits = omega arith in
    let b : ℕ = v / 2 ^ (left - 8) % 2 ^ 8 in
    ap (λ (t : List ℕ). looked_up t v left) right
    ∙ flip-next W 1 v left b (get_or (flips w) b 0) (rest_is W bits at e m) (entry w b (mod-lt (v / 2 ^ (left - 8)) (omega arith))) refl
    ∙ ap (λ (y : ℕ). y % 2 ^ 8) (flip-behind W v bits at e m))
