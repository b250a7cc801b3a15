-- The laws of codes: each is a character of its width, and a byte that is none of the ten letters has no strict code.
-- Assumes nothing.
use mathlib.Core.Bool.{Bool, true, false}
use mathlib.Core.List.{List, [], ◌∷◌}
use mathlib.Core.Path.{◌≡◌, refl, ◌∙◌}
use Prim.Native.Nat.{ℕ, ◌^◌, ◌<◌, ◌/◌}
use native.Mathlib.Decide.{ℕ_discrete}
use native.Mathlib.Nat.{lt_of_lt_of_le, mod-lt}
use native.Mathlib.Omega.{arith}
use lib.Bits.{xor_lt}
use lib.Dec.{ltb, lit<}
use lib.ListN.{length}
use lib.Pow.{pow_mono}
use borrow.Author.Tests.{eq-eqb, ne_eqb}
use Rattle.codes.specs.Codes.{IsWidth, pick, place_in, capitals, smalls, of_eight, strict, lossy, flag, code, complement}
use Rattle.codes.proofs.WidthLaws.{width_pos}

-- x is not in the list
abbrev pub Out : ℕ → List ℕ → Type 0
Out x [] = Unit {0}
Out x (y ∷ ys) = (x ≡ y → ⊥) × Out x ys

pub place_out : (ys : List ℕ) (x : ℕ) → Out x ys → place_in ys x ≡ length ys
place_out [] x h = refl
place_out (y ∷ ys) x h = rw (ne_eqb x y h.0, place_out ys x h.1)

-- the strict code differs from that of the eight letters at U and u alone
pub strict-eight : (x : ℕ) → Out x (85 ∷ 117 ∷ []) → strict x ≡ of_eight x
unfolding strict
strict-eight x u = rw (ne_eqb x 85 u.0, ne_eqb x 117 u.1.0)

pub strict-out : (x : ℕ) → Out x capitals → Out x smalls → Out x (85 ∷ 117 ∷ []) → strict x ≡ 4
strict-out x h l u = strict-eight x u ∙ rw (place_out capitals x h, place_out smalls x l)

pub lossy-lt : (x : ℕ) → lossy x < 2 ^ 2
lossy-lt x = omega arith

pub pick-lt : (t : Bool) (x y m : ℕ) → x < m → y < m → pick t x y < m
pick-lt true x y m h l = h
pick-lt false x y m h l = l

flag-lt : (x : ℕ) → flag x < 2
unfolding flag
flag-lt x = pick-lt (ltb (strict x) 4) 0 1 2 (lit< tt) (lit< tt)

pub code_lt : {w : ℕ} → IsWidth w → (x : ℕ) → code w x < 2 ^ w
unfolding code
code_lt {w} W x =
    elim (ℕ_discrete w 1) [
      | yes e ↦ rw (eq-eqb w 1 e) (rw e (flag-lt x))
      | no n ↦ rw (ne_eqb w 1 n) (lt_of_lt_of_le {m = 4} (mod-lt (x / 2) (lit< tt)) (pow_mono {i = 2} (omega (arith, width_pos W))))
    ]

pub complement-fits : (w c : ℕ) → c < 2 ^ w → complement w c < 2 ^ w
complement-fits w c h =
    elim (ℕ_discrete w 2) [
      | yes e ↦ rw (eq-eqb w 2 e) (xor_lt w c 2 h (rw e (lit< tt)))
      | no n ↦ rw (ne_eqb w 2 n) h
    ]
