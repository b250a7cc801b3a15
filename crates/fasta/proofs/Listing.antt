-- The listing of the rules, proved of the definition of the report, and what the rules say of a few short texts. Assumes nothing.
use Rattle.std.proofs.Common.{◌≡◌, ℕ, List, [], ◌∷◌, ◌++◌, refl}
use Rattle.codes.specs.Codes.{flag, strict}
use Rattle.rows.specs.Columns.{decimal_in, columns, strand_of}
use Rattle.fasta.specs.Report.{heading, refused_text, report, lines, content, table, records, rows, row, row_of, body, total_of, ambiguous, strand}
use Rattle.order.specs.Order.{compare}

-- the heading, "1", "7", "1", "<", then "2", "0", "0", "=", then "total", "2"
abbrev pub listed : List ℕ
listed =
    heading
    ++ 49 ∷ 9 ∷ 55 ∷ 9 ∷ 49 ∷ 9 ∷ 60 ∷ 10
    ∷ 50 ∷ 9 ∷ 48 ∷ 9 ∷ 48 ∷ 9 ∷ 61 ∷ 10
    ∷ 116 ∷ 111 ∷ 116 ∷ 97 ∷ 108 ∷ 9 ∷ 50 ∷ 10 ∷ []

-- `>a`, `ACGTN`, `Ac`, `>b`, and a blank line, each ended by LF
pub listing : report (62 ∷ 97 ∷ 10 ∷ 65 ∷ 67 ∷ 71 ∷ 84 ∷ 78 ∷ 10 ∷ 65 ∷ 67 ∷ 10 ∷ 62 ∷ 98 ∷ 10 ∷ 10 ∷ []) ≡ listed
unfolding report lines content table records rows row row_of body columns total_of ambiguous strand strand_of decimal_in compare flag strict
listing = refl

-- and each ended by CR LF
pub listing_returns :
    report (62 ∷ 97 ∷ 13 ∷ 10 ∷ 65 ∷ 67 ∷ 71 ∷ 84 ∷ 78 ∷ 13 ∷ 10 ∷ 65 ∷ 67 ∷ 13 ∷ 10 ∷ 62 ∷ 98 ∷ 13 ∷ 10 ∷ 13 ∷ 10 ∷ []) ≡ listed
unfolding report lines content table records rows row row_of body columns total_of ambiguous strand strand_of decimal_in compare flag strict
listing_returns = refl

-- no input, and a CR alone: the heading and a total of 0
abbrev pub nothing : List ℕ
nothing = heading ++ 116 ∷ 111 ∷ 116 ∷ 97 ∷ 108 ∷ 9 ∷ 48 ∷ 10 ∷ []

pub empty-input : report [] ≡ nothing
unfolding report lines table rows total_of decimal_in
empty-input = refl

pub lone_return : report (13 ∷ []) ≡ nothing
unfolding report lines content table rows total_of decimal_in
lone_return = refl

-- `>`, LF, `A`, CR, CR, LF: the first CR is a letter, a flagged T
pub two_returns : report (62 ∷ 10 ∷ 65 ∷ 13 ∷ 13 ∷ 10 ∷ []) ≡ heading ++ 49 ∷ 9 ∷ 50 ∷ 9 ∷ 49 ∷ 9 ∷ 61 ∷ 10 ∷ 116 ∷ 111 ∷ 116 ∷ 97 ∷ 108 ∷ 9 ∷ 49 ∷ 10 ∷ []
unfolding report lines content table records rows row row_of body columns total_of ambiguous strand strand_of decimal_in compare flag strict
two_returns = refl

-- CR, `>`: no header, and letters that none came before
pub return_first : report (13 ∷ 62 ∷ []) ≡ heading ++ (refused_text ++ (10 ∷ []))
unfolding report lines content table
return_first = refl
