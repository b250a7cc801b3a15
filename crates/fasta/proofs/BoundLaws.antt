-- What a step takes and writes stays within bounds.
-- Assumes nothing.
use Rattle.std.proofs.Common.{◌≡◌, ℕ, ◌+◌, ◌<◌, ◌≤◌, Bool, true, false, eqb, List, [], ◌∷◌, length, get_or, refl, ap, ◌∙◌, arith, length-append, ltb-false, ltb-true, le-ltb, lt-ltb}
use Rattle.codes.specs.Codes.{pick}
use Rattle.fasta.specs.Report.{is_header, total_of}
use Rattle.fasta.specs.Records.{lengthened, ordinal, ambiguous_in, strand_in, row_from, closed}
use Rattle.fasta.specs.Steps.{Move, move, stepped, too_short, seen, line_end, ends_line, goes_on, line_used, begun, begun_held, in_header, in_line, in_line_held, at_line, next, ending, last_lines}
use Rattle.fasta.specs.declared.reader.Record.{Record}
use Rattle.fasta.specs.declared.reader.Reader.{Reader}
use Rattle.fasta.specs.declared.reader.Stepped.{Stepped}
use Rattle.fasta.proofs.LineLaws.{line_end_lem}
use Rattle.fasta.proofs.RowLaws.{row_length, total_length}

-- a step takes some bytes where there are any, no more than there are, and writes no more than a row
pub record Bounded (part : List ℕ) (m : Move) : Type 0 where
  pub some : 0 < length part → 0 < m.used
  pub used : m.used ≤ length part
  pub wrote : length m.written ≤ 65

pub row_from-length : (k : Record) (bases flags : List ℕ) → length (row_from k bases flags) ≤ 65
unfolding row_from
row_from-length k bases flags = row_length (ordinal k) k.count (ambiguous_in k flags) (strand_in k bases)

module _ (part : List ℕ) where
  line_some : 0 < length part → 0 < line_used part
  line_some h =
      cases (ends_line part) refl
    where
      cases : (t : Bool) → ends_line part ≡ t → 0 < pick t (line_end part + 1) (line_end part)
      cases true e = omega arith
      cases false e = omega (arith, ltb-false (line_end part) (length part) e)

  line_inside : line_used part ≤ length part
  line_inside =
      cases (ends_line part) refl
    where
      cases : (t : Bool) → ends_line part ≡ t → pick t (line_end part + 1) (line_end part) ≤ length part
      cases true e = omega (arith, ltb-true (line_end part) (length part) e)
      cases false e = omega (arith, (line_end_lem part).inside)

  -- a step that takes one byte
  one : 0 < length part → (reader : Reader) (written : List ℕ) → length written ≤ 65 → Bounded part (move reader 1 written)
  one h reader written l = record { some = λ _. omega arith; used = h; wrote = l }

  either : (t : Bool) (m n : Move) → Bounded part m → Bounded part n → Bounded part (pick t m n)
  either true m n b c = b
  either false m n b c = c

  begun-bounded : 0 < length part → Bounded part (begun part)
  unfolding begun
  begun-bounded h =
      either (eqb (get_or part 0 0) 10) _ _ (one h Reader.Start [] (omega arith))
      (either (eqb (get_or part 0 0) 13) _ _ (one h Reader.StartHeld [] (omega arith))
      (either (eqb (get_or part 0 0) 62) _ _ (one h (Reader.Header 0) [] (omega arith)) (one h Reader.Ended _ (omega arith))))

  begun_held-bounded : 0 < length part → Bounded part (begun_held part)
  unfolding begun_held
  begun_held-bounded h = either (goes_on part) _ _ (one h Reader.Ended _ (omega arith)) (one h Reader.Start [] (omega arith))

  header_bounded : (i : ℕ) → Bounded part (in_header i part)
  unfolding in_header
  header_bounded i = record { some = line_some; used = line_inside; wrote = omega arith }

  pub line_bounded : (k : Record) → Bounded part (in_line k part)
  unfolding in_line
  line_bounded k = record { some = line_some; used = line_inside; wrote = omega arith }

  line_held_bounded : 0 < length part → (k : Record) → Bounded part (in_line_held k part)
  unfolding in_line_held
  line_held_bounded h k = either (goes_on part) _ _ (line_bounded (lengthened k 1)) (one h (Reader.Fresh k) [] (omega arith))

  fresh_bounded : 0 < length part → (k : Record) (bases flags : List ℕ) → Bounded part (at_line k part bases flags)
  unfolding at_line
  fresh_bounded h k bases flags = either (is_header part) _ _ (one h (Reader.Header (ordinal k)) _ (row_from-length k bases flags)) (line_bounded k)

pub next_bounded : (reader : Reader) (part bases flags : List ℕ) → Bounded part (next reader part bases flags)
unfolding next
next_bounded reader [] bases flags = record { some = λ h. absurd (omega arith); used = omega arith; wrote = omega arith }
next_bounded Reader.Start (b ∷ bs) bases flags = begun-bounded (b ∷ bs) (omega arith)
next_bounded Reader.StartHeld (b ∷ bs) bases flags = begun_held-bounded (b ∷ bs) (omega arith)
next_bounded (Reader.Header i) (b ∷ bs) bases flags = header_bounded (b ∷ bs) i
next_bounded (Reader.Fresh k) (b ∷ bs) bases flags = fresh_bounded (b ∷ bs) (omega arith) k bases flags
next_bounded (Reader.Within k) (b ∷ bs) bases flags = line_bounded (b ∷ bs) k
next_bounded (Reader.WithinHeld k) (b ∷ bs) bases flags = line_held_bounded (b ∷ bs) (omega arith) k
next_bounded Reader.Ended (b ∷ bs) bases flags = record { some = λ h. omega arith; used = omega arith; wrote = omega arith }

-- a step looks at all of a part where there is room, and else at nothing
pub seen_all : (part out : List ℕ) → 96 ≤ length out → seen part out ≡ part
seen_all part out h = rw (le-ltb (length out) 96 h)

pub seen-empty : (part out : List ℕ) → length part ≡ 0 → seen part out ≡ []
seen-empty [] out h =
    cases (too_short out)
  where
    cases : (t : Bool) → pick {A = List ℕ} t [] [] ≡ []
    cases true = refl
    cases false = refl
seen-empty (b ∷ bs) out h = absurd (omega arith)

pub seen_none : (part out : List ℕ) → length out < 96 → seen part out ≡ []
seen_none part out h = rw (lt-ltb (length out) 96 h)

-- what the end of the input writes
pub closed-length : (k : Record) (bases flags : List ℕ) → length (closed k bases flags) ≤ 92
unfolding closed
closed-length k bases flags = omega (arith, length-append (row_from k bases flags) (total_of (ordinal k)), row_from-length k bases flags, total_length (ordinal k))

pub ending-length : (reader : Reader) (bases flags : List ℕ) → length (ending reader bases flags) ≤ 92
ending-length Reader.Start bases flags = omega (arith, total_length 0)
ending-length Reader.StartHeld bases flags = omega (arith, total_length 0)
ending-length (Reader.Header i) bases flags = closed-length _ bases flags
ending-length (Reader.Fresh k) bases flags = closed-length _ bases flags
ending-length (Reader.Within k) bases flags = closed-length _ bases flags
ending-length (Reader.WithinHeld k) bases flags = closed-length _ bases flags
ending-length Reader.Ended bases flags = omega arith

pub last_length : (reader : Reader) (bases flags out : List ℕ) → length (last_lines reader bases flags out) ≤ 92
unfolding last_lines
last_length reader bases flags out =
    cases (too_short out)
  where
    cases : (t : Bool) → length (pick t [] (ending reader bases flags)) ≤ 92
    cases true = omega arith
    cases false = ending-length reader bases flags

-- the numbers that a step answers, with bytes to read and room to write
pub answer-bounded : (reader : Reader) (part bases flags out : List ℕ) (r : Stepped) → r ≡ stepped (next reader (seen part out) bases flags) → 0 < length part → 96 ≤ length out
    → (0 < r.used) × (r.used ≤ length part) × (r.wrote ≤ length out)
answer-bounded reader part bases flags out r e h m =
    let q : r ≡ stepped (next reader part bases flags) = e ∙ ap (λ (p : List ℕ). stepped (next reader p bases flags)) (seen_all part out m) in
    let b : Bounded part (next reader part bases flags) = next_bounded reader part bases flags in
    let u : r.used ≡ (next reader part bases flags).used = ap (λ (x : Stepped). x.used) q in
    let v : r.wrote ≡ length (next reader part bases flags).written = ap (λ (x : Stepped). x.wrote) q in
    (omega (arith, b.some h), omega (arith, b.used), omega (arith, b.wrote))
