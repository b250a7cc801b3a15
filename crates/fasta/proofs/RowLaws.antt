-- Rows: their length, and that a row of what is kept of a record is the record's row.
-- Assumes nothing.
use Rattle.std.proofs.Common.{◌≡◌, ℕ, ◌<◌, ◌≤◌, List, [], ◌∷◌, ◌++◌, length, subst, arith, length-append, le-ltb, lt-ltb}
use Rattle.codes.proofs.WidthLaws.{below_or}
use Rattle.writes.specs.Writes.{flipped_over}
use Rattle.rows.specs.Columns.{decimal, Put, columns}
use Rattle.fasta.specs.Report.{too_long_text, body, row_of, total_of}
use Rattle.fasta.specs.Records.{marked}
use Rattle.fasta.specs.declared.reader.Record.{Record}
use Rattle.rows.proofs.DecimalLaws.{decimal-length}

pub body-long : (count a mark : ℕ) → 16384 < count → too_long_text ≡ body count a mark
unfolding body
body-long count a mark h = rw (lt-ltb 16384 count h)

pub body-short : (count a mark : ℕ) → count ≤ 16384 → columns count a mark ≡ body count a mark
unfolding body
body-short count a mark h = rw (le-ltb 16384 count h)

columns-length : (count a mark : ℕ) → length (columns count a mark) ≤ 43
unfolding columns
columns-length count a mark =
    omega (
      arith,
      length-append (decimal count) (9 ∷ (decimal a ++ (9 ∷ mark ∷ []))),
      length-append (decimal a) (9 ∷ mark ∷ []),
      decimal-length 20 count,
      decimal-length 20 a,
    )

pub body-length : (count a mark : ℕ) → length (body count a mark) ≤ 43
body-length count a mark =
    below_or 16384 count
    (λ h. subst (λ (x : List ℕ). length x ≤ 43) (body-long count a mark h) (omega arith))
    (λ h. subst (λ (x : List ℕ). length x ≤ 43) (body-short count a mark h) (columns-length count a mark))

pub row_length : (i count a mark : ℕ) → length (row_of i count a mark) ≤ 65
unfolding row_of
row_length i count a mark =
    omega (
      arith,
      length-append (decimal i) (9 ∷ (body count a mark ++ (10 ∷ []))),
      length-append (body count a mark) (10 ∷ []),
      decimal-length 20 i,
      body-length count a mark,
    )

pub total_length : (i : ℕ) → length (total_of i) ≤ 27
unfolding total_of
total_length i = omega (arith, length-append (decimal i) (10 ∷ []), decimal-length 20 i)

pub put_as : {l a b l' : List ℕ} {at m : ℕ} → a ≡ b → Put l at a l' m → Put l at b l' m
put_as {l} {a} {b} {l'} {at} {m} e p = subst (λ (x : List ℕ). Put l at x l' m) e p

-- the buffer for the reverse complement, in the same two cases
pub marked-long : (k : Record) (bases other : List ℕ) → 16384 < k.count → other ≡ marked k bases other
unfolding marked
marked-long k bases other h = rw (lt-ltb 16384 k.count h)

pub marked-short : (k : Record) (bases other : List ℕ) → k.count ≤ 16384 → flipped_over 2 bases 0 k.count other ≡ marked k bases other
unfolding marked
marked-short k bases other h = rw (le-ltb 16384 k.count h)
