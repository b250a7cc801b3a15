-- What the report still says, byte by byte and line by line.
-- Assumes nothing.
use Rattle.std.proofs.Common.{◌≡◌, ℕ, zero, suc, ◌<◌, Bool, true, false, eqb, List, [], ◌∷◌, ◌++◌, map, length, get_or, sym, refl, ap, ◌∙◌, ap₂, append_assoc, append-nil, arith, ne_eqb, eqb-true}
use borrow.Author.Tests.{eqb-false}
use Rattle.fasta.specs.Report.{longer, lines, content, is_header, records, rows, row, table, refused_text}
use Rattle.fasta.proofs.Rest.{start, start_held, header, fresh, within, within_held, ended, first_line, later_lines, resumed, rest}
use Rattle.fasta.proofs.ContentLaws.{content-before, content-after, content-more, content-header}

-- no byte of bs is b
abbrev pub Without : ℕ → List ℕ → Type 0
Without b bs = (k : ℕ) → k < length bs → get_or bs k 0 ≡ b → ⊥

longer-is : (b : ℕ) (ls : List (List ℕ)) → longer b ls ≡ (b ∷ first_line ls) ∷ later_lines ls
longer-is b [] = refl
longer-is b (l ∷ ls) = refl

lines_plain : (b : ℕ) (bs : List ℕ) → (b ≡ 10 → ⊥) → lines (b ∷ bs) ≡ (b ∷ first_line (lines bs)) ∷ later_lines (lines bs)
unfolding lines
lines_plain b bs h = rw (ne_eqb b 10 h) (longer-is b (lines bs))

lines_end : (bs : List ℕ) → lines (10 ∷ bs) ≡ [] ∷ lines bs
unfolding lines
lines_end bs = refl

-- a run of bytes within a line
lines_run : (xs bs : List ℕ) → Without 10 xs → (first_line (lines (xs ++ bs)) ≡ xs ++ first_line (lines bs)) × (later_lines (lines (xs ++ bs)) ≡ later_lines (lines bs))
lines_run [] bs p = (refl, refl)
lines_run (x ∷ xs) bs p =
    let e = lines_plain x (xs ++ bs) (p 0 (omega arith)) in
    let r = lines_run xs bs (λ k l. p (suc k) (omega arith)) in
    (ap first_line e ∙ ap (λ (l : List ℕ). x ∷ l) r.0, ap later_lines e ∙ r.1)

-- before any header
pub start-blank : (bs : List ℕ) → rest start (10 ∷ bs) ≡ rest start bs
unfolding rest
start-blank bs = refl

pub start-header : (bs : List ℕ) → rest start (62 ∷ bs) ≡ rest (header 0) bs
unfolding rest
start-header bs =
    let L : List (List ℕ) = lines bs in
    ap (λ (K : List (List ℕ)). table (map content K)) (lines_plain 62 bs (λ e. omega arith))
    ∙ ap (λ (l : List ℕ). table (l ∷ map content (later_lines L))) (content-after 62 (first_line L) (λ e. omega arith))

pub start-letter : (b : ℕ) (bs : List ℕ) → (b ≡ 10 → ⊥) → (b ≡ 13 → ⊥) → (b ≡ 62 → ⊥) → rest start (b ∷ bs) ≡ (refused_text ++ (10 ∷ [])) ++ rest ended bs
unfolding rest
start-letter b bs h r l =
    let L : List (List ℕ) = lines bs in
    ap (λ (K : List (List ℕ)). table (map content K)) (lines_plain b bs h)
    ∙ ap (λ (l : List ℕ). table (l ∷ map content (later_lines L))) (content-after b (first_line L) r)
    ∙ rw (ne_eqb b 62 l)

-- and after a CR
pub start-return : (bs : List ℕ) → rest start (13 ∷ bs) ≡ rest start_held bs
unfolding rest
start-return bs = refl

pub held_blank : (bs : List ℕ) → rest start_held (10 ∷ bs) ≡ rest start bs
unfolding rest
held_blank bs = refl

pub held_letter : (b : ℕ) (bs : List ℕ) → (b ≡ 10 → ⊥) → rest start_held (b ∷ bs) ≡ (refused_text ++ (10 ∷ [])) ++ rest ended bs
unfolding rest
held_letter b bs h = ap (λ (K : List (List ℕ)). table (map content (longer 13 K))) (lines_plain b bs h)

-- in a header line
pub header_run : (i : ℕ) (xs bs : List ℕ) → Without 10 xs → rest (header i) (xs ++ bs) ≡ rest (header i) bs
unfolding rest
header_run i xs bs p = ap (λ (L : List (List ℕ)). rows i (records [] (map content L))) (lines_run xs bs p).1

pub header_end : (i : ℕ) (xs bs : List ℕ) → Without 10 xs → rest (header i) (xs ++ (10 ∷ bs)) ≡ rest (fresh i []) bs
unfolding rest
header_end i xs bs p = header_run i xs (10 ∷ bs) p

-- in a record, within a line
module _ (i : ℕ) (ls xs : List ℕ) (p : Without 10 xs) where
  line_run : (bs : List ℕ) → resumed i ls (lines (xs ++ bs)) ≡ rows i (records (ls ++ content (xs ++ first_line (lines bs))) (map content (later_lines (lines bs))))
  line_run bs =
      let r = lines_run xs bs p in
      ap₂ (λ (l : List ℕ) (L : List (List ℕ)). rows i (records (ls ++ content l) (map content L))) r.0 r.1

  line_more : (bs : List ℕ) → content (xs ++ first_line (lines bs)) ≡ xs ++ content (first_line (lines bs)) → resumed i ls (lines (xs ++ bs)) ≡ resumed i (ls ++ xs) (lines bs)
  line_more bs e =
      let L : List (List ℕ) = lines bs in
      line_run bs
      ∙ ap (λ (l : List ℕ). rows i (records l (map content (later_lines L)))) (ap (λ (l : List ℕ). ls ++ l) e ∙ sym (append_assoc ls xs (content (first_line L))))

  pub within_run : (bs : List ℕ) → content xs ≡ xs → rest (within i ls) (xs ++ bs) ≡ rest (within i (ls ++ xs)) bs
  unfolding rest
  within_run bs e = line_more bs (content-more xs (first_line (lines bs)) e)

  pub within_before : (b : ℕ) (bs : List ℕ) → (b ≡ 10 → ⊥) → rest (within i ls) (xs ++ (b ∷ bs)) ≡ rest (within i (ls ++ xs)) (b ∷ bs)
  unfolding rest
  within_before b bs h =
      let e : first_line (lines (b ∷ bs)) ≡ b ∷ first_line (lines bs) = ap first_line (lines_plain b bs h) in
      line_more (b ∷ bs) (ap (λ (l : List ℕ). content (xs ++ l)) e ∙ content-before xs b (first_line (lines bs)) ∙ ap (λ (l : List ℕ). xs ++ content l) (sym e))

  pub within_end : (bs : List ℕ) → rest (within i ls) (xs ++ (10 ∷ bs)) ≡ rest (fresh i (ls ++ content xs)) bs
  unfolding rest
  within_end bs = line_run (10 ∷ bs) ∙ ap (λ (l : List ℕ). rows i (records (ls ++ content l) (map content (lines bs)))) (append-nil xs)

-- and after a CR
pub held_end : (i : ℕ) (ls bs : List ℕ) → rest (within_held i ls) (10 ∷ bs) ≡ rest (fresh i ls) bs
unfolding rest
held_end i ls bs = ap (λ (l : List ℕ). rows i (records l (map content (lines bs)))) (append-nil ls)

pub held_more : (i : ℕ) (ls : List ℕ) (b : ℕ) (bs : List ℕ) → (b ≡ 10 → ⊥) → rest (within_held i ls) (b ∷ bs) ≡ rest (within i (ls ++ (13 ∷ []))) (b ∷ bs)
unfolding rest
held_more i ls b bs h = within_before i ls (13 ∷ []) one b bs h
  where
    one : Without 10 (13 ∷ [])
    one zero l e = omega arith
    one (suc k) l e = absurd (omega arith)

-- and at the start of one
pub fresh_header : (i : ℕ) (ls bs : List ℕ) → rest (fresh i ls) (62 ∷ bs) ≡ row (suc i) ls ++ rest (header (suc i)) bs
unfolding rest
fresh_header i ls bs =
    let L : List (List ℕ) = lines bs in
    ap (λ (K : List (List ℕ)). rows i (records ls (map content K))) (lines_plain 62 bs (λ e. omega arith))
    ∙ ap (λ (l : List ℕ). rows i (records ls (l ∷ map content (later_lines L)))) (content-after 62 (first_line L) (λ e. omega arith))

-- a line that opens no record is more letters
records_line : (ls : List ℕ) (L : List (List ℕ)) → is_header (first_line L) ≡ false → records ls (map content L) ≡ records (ls ++ content (first_line L)) (map content (later_lines L))
unfolding records content
records_line ls [] e = ap (λ (x : List ℕ). x ∷ []) (sym (append-nil ls))
records_line ls (l ∷ L) e = rw (content-header l ∙ e)

not-header : (b : ℕ) (bs : List ℕ) → (b ≡ 62 → ⊥) → is_header (first_line (lines (b ∷ bs))) ≡ false
not-header b bs h =
    cases (eqb b 10) refl
  where
    cases : (t : Bool) → eqb b 10 ≡ t → is_header (first_line (lines (b ∷ bs))) ≡ false
    cases true e = ap (λ (x : ℕ). is_header (first_line (lines (x ∷ bs)))) (eqb-true b 10 e) ∙ ap (λ (L : List (List ℕ)). is_header (first_line L)) (lines_end bs)
    cases false e = ap (λ (L : List (List ℕ)). is_header (first_line L)) (lines_plain b bs (eqb-false b 10 e)) ∙ ne_eqb b 62 h

pub fresh_letters : (i b : ℕ) (ls bs : List ℕ) → (b ≡ 62 → ⊥) → rest (fresh i ls) (b ∷ bs) ≡ rest (within i ls) (b ∷ bs)
unfolding rest
fresh_letters i b ls bs h = ap (rows i) (records_line ls (lines (b ∷ bs)) (not-header b bs h))
