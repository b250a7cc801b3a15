-- A line without the CR of its end.
-- Assumes nothing.
use Rattle.std.proofs.Common.{◌≡◌, ℕ, suc, ◌<◌, ◌≤◌, Bool, true, false, eqb, ◌⊎◌, List, [], ◌∷◌, ◌++◌, length, get_or, take, sym, refl, ap, ◌∙◌, inl, inr, ⊎_elim, append-nil, arith, length-append, length-take-le, take_all, take-suc, ne_eqb, eqb-true}
use lib.Seq.{take-append_seam}
use Rattle.codes.specs.Codes.{pick}
use Rattle.fasta.specs.Report.{content, is_header}

-- a byte that is not its last, or is no CR
pub content-before : (xs : List ℕ) (c : ℕ) (l : List ℕ) → content (xs ++ (c ∷ l)) ≡ xs ++ content (c ∷ l)
unfolding content
content-before [] c l = refl
content-before (x ∷ []) c l = refl
content-before (x ∷ y ∷ xs) c l = ap (λ (ys : List ℕ). x ∷ ys) (content-before (y ∷ xs) c l)

pub content-after : (b : ℕ) (l : List ℕ) → (b ≡ 13 → ⊥) → content (b ∷ l) ≡ b ∷ content l
unfolding content
content-after b [] h = rw (ne_eqb b 13 h)
content-after b (c ∷ l) h = refl

-- all of the line, or all but a CR
content-or : (xs : List ℕ) → (content xs ≡ xs) ⊎ (xs ≡ content xs ++ (13 ∷ []))
unfolding content
content-or [] = inl refl
content-or (b ∷ []) =
    cases (eqb b 13) refl
  where
    cases : (t : Bool) → eqb b 13 ≡ t → (pick t [] (b ∷ []) ≡ b ∷ []) ⊎ (b ∷ [] ≡ pick t [] (b ∷ []) ++ (13 ∷ []))
    cases true e = inr (ap (λ (x : ℕ). x ∷ []) (eqb-true b 13 e))
    cases false e = inl refl
content-or (b ∷ c ∷ xs) = ⊎_elim (λ e. inl (ap (λ (l : List ℕ). b ∷ l) e)) (λ e. inr (ap (λ (l : List ℕ). b ∷ l) e)) (content-or (c ∷ xs))

pub content-inside : (xs : List ℕ) → length (content xs) ≤ length xs
content-inside xs = ⊎_elim (λ e. omega (arith, ap length e)) (λ e. omega (arith, ap length e, length-append (content xs) (13 ∷ []))) (content-or xs)

-- it is the front of the line
pub content-front : (xs : List ℕ) → take (length (content xs)) xs ≡ content xs
content-front xs =
    ⊎_elim
    (λ e. take_all (length (content xs)) xs (omega (arith, ap length e)) ∙ sym e)
    (λ e. ap (take (length (content xs))) e ∙ take-append_seam (content xs) (13 ∷ []))
    (content-or xs)

-- whether the line ends in CR
pub content-return : (xs : List ℕ) → length (content xs) < length xs → xs ≡ content xs ++ (13 ∷ [])
content-return xs h = ⊎_elim (λ e. absurd (omega (arith, ap length e))) (λ e. e) (content-or xs)

pub content-same : (xs : List ℕ) → length xs ≤ length (content xs) → content xs ≡ xs
content-same xs h = ⊎_elim (λ e. e) (λ e. absurd (omega (arith, ap length e, length-append (content xs) (13 ∷ [])))) (content-or xs)

-- by its last byte
pub content-none : (xs : List ℕ) → length xs ≡ 0 → 0 ≡ length (content xs)
unfolding content
content-none [] e = refl
content-none (b ∷ xs) e = absurd (omega arith)

module _ (xs : List ℕ) (n : ℕ) (l : length xs ≡ suc n) where
  last_is : xs ≡ take n xs ++ (get_or xs n 0 ∷ [])
  last_is = sym (take_all (suc n) xs (omega arith)) ∙ take-suc xs n 0 (omega arith)

  content-is : content xs ≡ take n xs ++ content (get_or xs n 0 ∷ [])
  content-is = ap content last_is ∙ content-before (take n xs) (get_or xs n 0) []

  pub content-cut : get_or xs n 0 ≡ 13 → n ≡ length (content xs)
  unfolding content
  content-cut e =
      sym (ap length (content-is ∙ ap (λ (b : ℕ). take n xs ++ content (b ∷ [])) e ∙ append-nil (take n xs)) ∙ length-take-le n xs (omega arith))

  pub content-uncut : (get_or xs n 0 ≡ 13 → ⊥) → length xs ≡ length (content xs)
  unfolding content
  content-uncut h = ap length (last_is ∙ sym (rw (ne_eqb (get_or xs n 0) 13 h) at content-is))

-- more of a line that does not end in CR yet
pub content-more : (xs l : List ℕ) → content xs ≡ xs → content (xs ++ l) ≡ xs ++ content l
unfolding content
content-more xs [] e = ap content (append-nil xs) ∙ e ∙ sym (append-nil xs)
content-more xs (c ∷ l) e = content-before xs c l

pub content-header : (l : List ℕ) → is_header (content l) ≡ is_header l
unfolding content
content-header [] = refl
content-header (b ∷ []) =
    cases (eqb b 13) refl
  where
    cases : (t : Bool) → eqb b 13 ≡ t → is_header (pick t [] (b ∷ [])) ≡ eqb b 62
    cases true e = rw (eqb-true b 13 e)
    cases false e = refl
content-header (b ∷ c ∷ l) = refl
