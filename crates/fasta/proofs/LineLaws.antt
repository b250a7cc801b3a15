-- Where a line ends, and where its letters do: the bytes before hold no LF, and an LF stands there if the part goes on.
-- Assumes nothing.
use Rattle.std.proofs.Common.{◌≡◌, ℕ, zero, suc, ◌+◌, ◌<◌, ◌≤◌, Bool, true, false, not, eqb, List, [], ◌∷◌, ◌++◌, length, get_or, take, sym, refl, ap, ◌∙◌, add-one, arith, length-take, length-take-le, get_or-take, take-suc, take-take, ltb-false, ltb-true, le-ltb, lt-ltb, eq-eqb, ne_eqb, eqb-true}
use borrow.Author.Tests.{eqb-false}
use Rattle.codes.specs.Codes.{pick}
use Rattle.fasta.specs.Report.{content, is_header}
use Rattle.fasta.specs.Steps.{line_end, ends_line, line_letters, ends_in_return, goes_on, line_used}
use Rattle.fasta.proofs.ContentLaws.{content-inside, content-front, content-return, content-same}
use Rattle.fasta.proofs.RestLaws.{Without}

-- r is the number of bytes before the first LF
pub record LineEnd (bs : List ℕ) (r : ℕ) : Type 0 where
  pub inside : r ≤ length bs
  pub before : (k : ℕ) → k < r → get_or bs k 0 ≡ 10 → ⊥
  pub found : r < length bs → get_or bs r 0 ≡ 10

later : (b : ℕ) (bs : List ℕ) (r : ℕ) → LineEnd (b ∷ bs) (suc r) → LineEnd bs r
later b bs r h = record { inside = omega (arith, h.inside); before = λ k l. h.before (suc k) (omega arith); found = λ l. h.found (omega arith) }

pub line_end-is : (bs : List ℕ) (r : ℕ) → LineEnd bs r → r ≡ line_end bs
unfolding line_end
line_end-is [] r h = omega (arith, h.inside)
line_end-is (b ∷ bs) zero h = rw (eq-eqb b 10 (h.found (omega arith)))
line_end-is (b ∷ bs) (suc r) h = rw (ne_eqb b 10 (h.before 0 (omega arith))) (ap suc (line_end-is bs r (later b bs r h)))

one_more : (b : ℕ) (bs : List ℕ) (t : Bool) → eqb b 10 ≡ t → LineEnd bs (line_end bs) → LineEnd (b ∷ bs) (pick t 0 (suc (line_end bs)))
one_more b bs true e h = record { inside = omega arith; before = λ k l. absurd (omega arith); found = λ l. eqb-true b 10 e }
one_more b bs false e h =
    record {
      inside = omega (arith, h.inside);
      before = at;
      found = λ l. h.found (omega arith);
    }
  where
    at : (k : ℕ) → k < suc (line_end bs) → get_or (b ∷ bs) k 0 ≡ 10 → ⊥
    at zero l = eqb-false b 10 e
    at (suc k) l = h.before k (omega arith)

pub line_end_lem : (bs : List ℕ) → LineEnd bs (line_end bs)
unfolding line_end
line_end_lem [] = record { inside = omega arith; before = λ k l. absurd (omega arith); found = λ l. absurd (omega arith) }
line_end_lem (b ∷ bs) = one_more b bs (eqb b 10) refl (line_end_lem bs)

-- the bytes before an end of line, and with it
module _ (part : List ℕ) where
  pub line_plain : Without 10 (take (line_end part) part)
  line_plain k l e =
      let m : k < line_end part = omega (arith, length-take (line_end part) part) in
      (line_end_lem part).before k m (sym (get_or-take (line_end part) part k 0 m) ∙ e)

  line_size : length (take (line_end part) part) ≡ line_end part
  line_size = length-take-le (line_end part) part (line_end_lem part).inside

  pub letters_plain : Without 10 (line_letters part)
  letters_plain k l e =
      let xs : List ℕ = take (line_end part) part in
      line_plain k (omega (arith, content-inside xs)) (sym (get_or-take (length (content xs)) xs k 0 l) ∙ ap (λ (ys : List ℕ). get_or ys k 0) (content-front xs) ∙ e)

  -- a line that is still open ends in a CR, or it does not
  pub line_returns : ends_in_return part ≡ true → take (line_end part) part ≡ line_letters part ++ (13 ∷ [])
  line_returns e = content-return (take (line_end part) part) (omega (arith, line_size, ltb-true (length (line_letters part)) (line_end part) e))

  pub line_same : ends_in_return part ≡ false → line_letters part ≡ take (line_end part) part
  line_same e = content-same (take (line_end part) part) (omega (arith, line_size, ltb-false (length (line_letters part)) (line_end part) e))

  line_whole : line_end part < length part → take (line_end part + 1) part ≡ take (line_end part) part ++ (10 ∷ [])
  line_whole l = ap (λ (k : ℕ). take k part) (add-one (line_end part)) ∙ take-suc part (line_end part) 0 l ∙ ap (λ (b : ℕ). take (line_end part) part ++ (b ∷ [])) ((line_end_lem part).found l)

  -- what is taken: the rest of the line is in this part, or it is not
  abbrev pub line_taken : Bool → List ℕ
  line_taken true = take (line_end part) part ++ (10 ∷ [])
  line_taken false = take (line_end part) part

  pub line_taken_lem : (t : Bool) → ends_line part ≡ t → take (line_used part) part ≡ line_taken t
  line_taken_lem true e = rw e (line_whole (ltb-true (line_end part) (length part) e))
  line_taken_lem false e = rw e

-- a place r where the line ends: at the end of the part, or before it
module _ (part : List ℕ) (r : ℕ) (e : r ≡ line_end part) where
  pub line_open : length part ≤ r → ends_line part ≡ false
  line_open q = le-ltb (line_end part) (length part) (omega arith)

  pub line_closed : r < length part → ends_line part ≡ true
  line_closed q = lt-ltb (line_end part) (length part) (omega arith)

  -- and the number n of the letters before it
  module _ (n : ℕ) (f : n ≡ length (content (take r part))) where
    pub letters_fit : n ≤ length part
    letters_fit = omega (arith, f, content-inside (take r part), length-take r part)

    pub letters_are : take n part ≡ line_letters part
    letters_are =
        let xs : List ℕ = take r part in
        sym (take-take n r part (omega (arith, content-inside xs, length-take r part)))
        ∙ ap (λ (k : ℕ). take k xs) f
        ∙ content-front xs
        ∙ ap (λ (k : ℕ). content (take k part)) e

    pub letters_length : length (take n part) ≡ length (line_letters part)
    letters_length = ap length letters_are

    pub letters_held : n < r → ends_in_return part ≡ true
    letters_held q = lt-ltb (length (line_letters part)) (line_end part) (omega (arith, letters_length, length-take n part, letters_fit))

    pub letters_all : r ≤ n → ends_in_return part ≡ false
    letters_all q = le-ltb (length (line_letters part)) (line_end part) (omega (arith, letters_length, length-take n part, letters_fit))

-- the first byte of a part
pub first_taken : (part : List ℕ) → 0 < length part → (b : ℕ) → get_or part 0 0 ≡ b → take 1 part ≡ b ∷ []
first_taken [] h b e = absurd (omega arith)
first_taken (x ∷ part) h b e = ap (λ (y : ℕ). y ∷ []) e

pub goes_first : (part : List ℕ) → 0 < length part → goes_on part ≡ not (eqb (get_or part 0 0) 10)
goes_first [] h = absurd (omega arith)
goes_first (b ∷ part) h = refl

pub header_first : (part : List ℕ) → 0 < length part → is_header part ≡ eqb (get_or part 0 0) 62
header_first [] h = absurd (omega arith)
header_first (b ∷ part) h = refl
