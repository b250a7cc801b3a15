-- RNA: letters with U have the characters of those with T, at each width, and what the strict code takes has it for its lossy code too.
-- Assumes nothing.
use mathlib.Core.List.{List, [], ◌∷◌, map}
use mathlib.Core.Path.{◌≡◌, refl, sym, ap, ap₂, ◌∙◌}
use Prim.Native.Nat.{ℕ, suc, ◌+◌, ◌<◌}
use native.Mathlib.Decide.{ℕ_discrete}
use native.Mathlib.Nat.{add-zero, le_of_lt, min_comm, min-eq_left, not-suc-le-zero}
use native.Mathlib.Omega.{arith}
use lib.ListN.{length}
use borrow.Author.Tests.{eq-eqb, ne_eqb}
use Rattle.codes.specs.Codes.{place_in, capitals, smalls, of_eight, with_t, strict, lossy, flag, code}
use Rattle.codes.proofs.WidthLaws.{below_or}

-- what holds of U and T, of u and t, and of each letter and itself holds of a letter and of it with T for U
pub with_t-cases : (P : ℕ → ℕ → Type 0) → P 85 84 → P 117 116 → ((x : ℕ) → P x x) → (x : ℕ) → P x (with_t x)
with_t-cases P large small same x =
    elim (ℕ_discrete x 85) [
      | yes e ↦ rw e large
      | no m ↦ elim (ℕ_discrete x 117) [
        | yes e ↦ rw e small
        | no n ↦ rw (ne_eqb x 85 m, ne_eqb x 117 n) (same x)
      ]
    ]

-- T for U changes no character of a letter
pub code-with_t : (w x : ℕ) → code w (with_t x) ≡ code w x
unfolding code flag strict
code-with_t w = with_t-cases (λ (x y : ℕ). code w y ≡ code w x) refl refl (λ x. refl)

pub codes_with_t : (w : ℕ) (ls : List ℕ) → map (code w) (map with_t ls) ≡ map (code w) ls
codes_with_t w [] = refl
codes_with_t w (x ∷ ls) = ap₂ (λ (c : ℕ) (cs : List ℕ). c ∷ cs) (code-with_t w x) (codes_with_t w ls)

-- letters whose lossy codes count up from k
abbrev CountUp : ℕ → List ℕ → Type 0
CountUp k [] = Unit {0}
CountUp k (y ∷ ys) = (lossy y ≡ k) × CountUp (suc k) ys

place_lossy : (k : ℕ) (ys : List ℕ) → CountUp k ys → (x : ℕ) → place_in ys x < length ys → k + place_in ys x ≡ lossy x
place_lossy k [] c x h = absurd (not-suc-le-zero h)
place_lossy k (y ∷ ys) c x h =
    elim (ℕ_discrete x y) [
      | yes e ↦ rw (eq-eqb x y e) (add-zero k ∙ sym c.0 ∙ ap lossy (sym e))
      | no n ↦
          let l : place_in (y ∷ ys) x ≡ suc (place_in ys x) = rw (ne_eqb x y n) in
          let rest : suc k + place_in ys x ≡ lossy x = place_lossy (suc k) ys c.1 x (omega (arith, l, h)) in
          omega (arith, l, rest)
    ]

eight_lossy : (x : ℕ) → of_eight x < 4 → of_eight x ≡ lossy x
eight_lossy x h =
    below_or (place_in capitals x) (place_in smalls x)
    (λ l. by capitals (refl, (refl, (refl, (refl, tt)))) refl (min-eq_left (le_of_lt l)))
    (λ l. by smalls (refl, (refl, (refl, (refl, tt)))) refl (min_comm (place_in capitals x) (place_in smalls x) ∙ min-eq_left l))
  where
    by : (ys : List ℕ) → CountUp 0 ys → length ys ≡ 4 → of_eight x ≡ place_in ys x → of_eight x ≡ lossy x
    by ys c n e = omega (arith, e, place_lossy 0 ys c x (omega (arith, e, n, h)))

-- a letter that has a strict code has it for its lossy code
pub strict-lossy : (x : ℕ) → strict x < 4 → strict x ≡ lossy x
unfolding strict code
strict-lossy x h = eight_lossy (with_t x) h ∙ code-with_t 2 x
