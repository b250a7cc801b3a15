-- If several tests apply, the lowest number is given, and a number is given only when its line holds: of every list of tests whose
-- refusal numbers do not descend.
-- Assumes nothing.
use Rattle.std.specs.Prelude.{Ok, Err}
use mathlib.Core.Bool.{Bool, true, false, ◌&&◌}
use mathlib.Core.List.Memᴰ
use mathlib.Core.List.{List, [], ◌∷◌, Memᴰ}
use mathlib.Core.Logic.{⊎_elim}
use mathlib.Core.Path.{◌≡◌, refl, sym, ap, ◌∙◌, subst}
use Prim.Native.Nat.{ℕ, zero, suc, ◌≤◌}
use native.Mathlib.Nat.{le_trans}
use native.Mathlib.Omega.{arith}
use lib.Dec.{leb}
use borrow.Author.Tests.{leb-true}
use Rattle.codes.specs.Refusals.{Test, first, Outcome, number, number_of, bad_word, bad_letter, bad_capital, bad_code, no_room}
use Rattle.codes.specs.declared.refusals.Refusal.{Refusal}
use Rattle.codes.proofs.RefusalLaws.{both, outcome_at, outcome_at_number}

-- the numbers of a list of tests do not descend, from n on
abbrev pub ascending_from : ℕ → List Test → Bool
ascending_from n [] = true
ascending_from n (t ∷ ts) = leb n (number t.1) && ascending_from (number t.1) ts

-- the number that a call gives by its tests
pub record Lowest (n : ℕ) (ts : List Test) : Type 0 where
  -- where a test holds, it is at most that test's
  pub lowest : (t : Test) → Memᴰ t ts → t.0 ≡ true → (1 ≤ n) × (n ≤ number t.1)
  -- and a refusal's only where that refusal's test holds
  pub only : (r : Refusal) → n ≡ number r → Memᴰ (true, r) ts

-- 0 is the number of no refusal
number_pos : (r : Refusal) → 1 ≤ number r
number_pos r = pos (number r) (λ e. let z = sym (outcome_at_number (Err r)) ∙ ap outcome_at e ∙ outcome_at_number (Ok tt) in refused r z)
  where
    refused : (r : Refusal) → ◌≡◌ {A = Outcome} (Err r) (Ok tt) → ⊥
    refused r e = let z : ◌≡◌ {A = ℕ} 0 1 = cc in absurd (omega arith)

    pos : (n : ℕ) → (n ≡ 0 → ⊥) → 1 ≤ n
    pos zero h = absurd (h refl)
    pos (suc n) h = omega arith

-- no number is below the first
at_least : (n : ℕ) (ts : List Test) → ascending_from n ts ≡ true → (t : Test) → Memᴰ t ts → n ≤ number t.1
at_least n [] e t m = absurd (Memᴰ.not-nil m)
at_least n (u ∷ us) e t m =
    let b = both (leb n (number u.1)) _ e in
    let l = leb-true n (number u.1) b.0 in
    ⊎_elim (λ p. subst (λ (x : Test). n ≤ number x.1) (sym p) l) (λ k. le_trans l (at_least (number u.1) us b.1 t k)) (Memᴰ.cases_cons m)

lowest_of : (n : ℕ) (ts : List Test) → ascending_from n ts ≡ true → (t : Test) → Memᴰ t ts → t.0 ≡ true → (1 ≤ number_of (first ts)) × (number_of (first ts) ≤ number t.1)
lowest_of n [] e t m h = absurd (Memᴰ.not-nil m)
lowest_of n ((true, r) ∷ us) e t m h = (
  number_pos r,
  ⊎_elim (λ p. subst (λ (x : Test). number r ≤ number x.1) (sym p) (omega arith)) (λ k. at_least (number r) us (both (leb n (number r)) _ e).1 t k) (Memᴰ.cases_cons m),
)
lowest_of n ((false, r) ∷ us) e t m h =
    ⊎_elim (λ p. let q = sym h ∙ ap (λ (x : Test). x.0) p in let z : ◌≡◌ {A = ℕ} 0 1 = cc in absurd (omega arith))
    (λ k. lowest_of (number r) us (both (leb n (number r)) _ e).1 t k h) (Memᴰ.cases_cons m)

only_of : (ts : List Test) (r : Refusal) → first ts ≡ Err r → Memᴰ (true, r) ts
only_of [] r e = let z : ◌≡◌ {A = ℕ} 0 1 = cc in absurd (omega arith)
only_of ((true, q) ∷ us) r e = let p : q ≡ r = cc in Memᴰ.head (λ i. (true, sym p i))
only_of ((false, q) ∷ us) r e = Memᴰ.tail (only_of us r e)

-- a list of tests whose numbers do not descend
pub first_lowest : (ts : List Test) → ascending_from 0 ts ≡ true → Lowest (number_of (first ts)) ts
first_lowest ts e = record {
  lowest = lowest_of 0 ts e;
  only = λ r p. only_of ts r (sym (outcome_at_number (first ts)) ∙ ap outcome_at p ∙ outcome_at_number (Err r));
}

-- words and letters
pub word_lowest : (least most k : ℕ) → let ts = bad_word least most k ∷ [] in Lowest (number_of (first ts)) ts
word_lowest least most k = first_lowest (bad_word least most k ∷ []) refl

pub unpack_lowest : (most k n : ℕ) → let ts = bad_word 0 most k ∷ no_room n k ∷ [] in Lowest (number_of (first ts)) ts
unpack_lowest most k n = first_lowest (bad_word 0 most k ∷ no_room n k ∷ []) refl

pub letter_lowest : (x : ℕ) → let ts = bad_letter x ∷ [] in Lowest (number_of (first ts)) ts
letter_lowest x = first_lowest (bad_letter x ∷ []) refl

pub capital_lowest : (x : ℕ) → let ts = bad_capital x ∷ [] in Lowest (number_of (first ts)) ts
capital_lowest x = first_lowest (bad_capital x ∷ []) refl

pub code_lowest : (c : ℕ) → let ts = bad_code c ∷ [] in Lowest (number_of (first ts)) ts
code_lowest c = first_lowest (bad_code c ∷ []) refl
