-- A text and the same text with T for U have one report: no line begins or ends elsewhere, and no letter counts otherwise.
-- Assumes nothing.
use Rattle.std.proofs.Common.{◌≡◌, ℕ, suc, ◌<◌, Bool, true, false, eqb, List, [], ◌∷◌, ◌++◌, map, sym, refl, ap, ◌∙◌, ap₂, arith, lit<, ne_eqb}
use mathlib.Core.List.{map-append}
use lib.ListN.{length-map}
use Rattle.codes.specs.Codes.{pick, with_t, code}
use Rattle.codes.proofs.RnaLaws.{with_t-cases, codes_with_t}
use Rattle.fields.specs.Flags.{set_flags}
use Rattle.rows.specs.Columns.{strand_of}
use Rattle.fasta.specs.Report.{heading, refused_text, longer, lines, content, is_header, records, ambiguous, strand, row, rows, table, report}
use Rattle.fasta.proofs.LetterLaws.{flags_ambiguous}

abbrev all_with_t : List (List ℕ) → List (List ℕ)
all_with_t = map (map with_t)

-- T for U makes no sign below the letters, LF, CR and `>` among them, and takes none away
sign-with_t : (b k : ℕ) → k < 64 → eqb (with_t b) k ≡ eqb b k
sign-with_t b k h =
    with_t-cases (λ (x y : ℕ). eqb y k ≡ eqb x k)
    (other 84 (lit< tt) ∙ sym (other 85 (lit< tt)))
    (other 116 (lit< tt) ∙ sym (other 117 (lit< tt)))
    (λ x. refl)
    b
  where
    other : (x : ℕ) → 64 < x → eqb x k ≡ false
    other x l = ne_eqb x k (λ e. omega (arith, e, l, h))

-- a function of a choice
of_pick : {A B : Type 0} (f : A → B) (t : Bool) (a b : A) → pick t (f a) (f b) ≡ f (pick t a b)
of_pick f true a b = refl
of_pick f false a b = refl

longer-with_t : (b : ℕ) (L : List (List ℕ)) → longer (with_t b) (all_with_t L) ≡ all_with_t (longer b L)
longer-with_t b [] = refl
longer-with_t b (l ∷ L) = refl

lines_with_t : (bs : List ℕ) → lines (map with_t bs) ≡ all_with_t (lines bs)
unfolding lines
lines_with_t [] = refl
lines_with_t (b ∷ bs) =
    ap₂ (λ (t : Bool) (L : List (List ℕ)). pick t ([] ∷ L) (longer (with_t b) L)) (sign-with_t b 10 (lit< tt)) (lines_with_t bs)
    ∙ ap (pick (eqb b 10) ([] ∷ all_with_t (lines bs))) (longer-with_t b (lines bs))
    ∙ of_pick all_with_t (eqb b 10) ([] ∷ lines bs) (longer b (lines bs))

content-with_t : (l : List ℕ) → content (map with_t l) ≡ map with_t (content l)
unfolding content
content-with_t [] = refl
content-with_t (b ∷ []) = ap (λ (t : Bool). pick t [] (with_t b ∷ [])) (sign-with_t b 13 (lit< tt)) ∙ of_pick (map with_t) (eqb b 13) [] (b ∷ [])
content-with_t (b ∷ c ∷ bs) = ap (λ (l : List ℕ). with_t b ∷ l) (content-with_t (c ∷ bs))

contents_with_t : (L : List (List ℕ)) → map content (all_with_t L) ≡ all_with_t (map content L)
contents_with_t [] = refl
contents_with_t (l ∷ L) = ap₂ (λ (k : List ℕ) (K : List (List ℕ)). k ∷ K) (content-with_t l) (contents_with_t L)

header_with_t : (l : List ℕ) → is_header (map with_t l) ≡ is_header l
header_with_t [] = refl
header_with_t (b ∷ l) = sign-with_t b 62 (lit< tt)

records_with_t : (begun : List ℕ) (L : List (List ℕ)) → records (map with_t begun) (all_with_t L) ≡ all_with_t (records begun L)
unfolding records
records_with_t begun [] = refl
records_with_t begun (l ∷ L) =
    ap (λ (t : Bool). pick t (map with_t begun ∷ records [] (all_with_t L)) (records (map with_t begun ++ map with_t l) (all_with_t L))) (header_with_t l)
    ∙ ap₂ (λ (K M : List (List ℕ)). pick (is_header l) (map with_t begun ∷ K) M)
    (records_with_t [] L)
    (ap (λ (r : List ℕ). records r (all_with_t L)) (sym (map-append with_t begun l)) ∙ records_with_t (begun ++ l) L)
    ∙ of_pick all_with_t (is_header l) (begun ∷ records [] L) (records (begun ++ l) L)

ambiguous-with_t : (ls : List ℕ) → ambiguous (map with_t ls) ≡ ambiguous ls
unfolding code
ambiguous-with_t ls = sym (flags_ambiguous (map with_t ls)) ∙ ap set_flags (codes_with_t 1 ls) ∙ flags_ambiguous ls

strand-with_t : (ls : List ℕ) → strand (map with_t ls) ≡ strand ls
unfolding strand code
strand-with_t ls = ap strand_of (codes_with_t 2 ls)

row_with_t : (i : ℕ) (ls : List ℕ) → row i (map with_t ls) ≡ row i ls
unfolding row
row_with_t i ls = rw (length-map ls with_t, ambiguous-with_t ls, strand-with_t ls)

rows_with_t : (i : ℕ) (rs : List (List ℕ)) → rows i (all_with_t rs) ≡ rows i rs
unfolding rows
rows_with_t i [] = refl
rows_with_t i (r ∷ rs) = ap₂ ◌++◌ (row_with_t (suc i) r) (rows_with_t (suc i) rs)

table-with_t : (L : List (List ℕ)) → table (all_with_t L) ≡ table L
unfolding table
table-with_t [] = refl
table-with_t ([] ∷ L) = table-with_t L
table-with_t ((b ∷ l) ∷ L) =
    ap₂ (λ (t : Bool) (rest : List ℕ). pick t rest (refused_text ++ (10 ∷ []))) (sign-with_t b 62 (lit< tt)) (ap (rows 0) (records_with_t [] L) ∙ rows_with_t 0 (records [] L))

pub report_with_t : (input : List ℕ) → report (map with_t input) ≡ report input
unfolding report
report_with_t input =
    ap (λ (L : List (List ℕ)). heading ++ table L) (ap (map content) (lines_with_t input) ∙ contents_with_t (lines input))
    ∙ ap (λ (t : List ℕ). heading ++ t) (table-with_t (map content (lines input)))
