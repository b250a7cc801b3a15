-- A record's row from what is kept of it.
-- Assumes nothing.
use Rattle.std.proofs.Common.{◌≡◌, ℕ, suc, ◌<◌, ◌≤◌, List, [], ◌∷◌, ◌++◌, length, sym, ap, ◌∙◌}
use Rattle.codes.specs.Codes.{chars}
use Rattle.codes.proofs.WidthLaws.{below_or}
use Rattle.fields.specs.Flags.{set_flags}
use Rattle.rows.specs.Columns.{decimal, strand_of, columns}
use Rattle.fasta.specs.Report.{ambiguous, strand, row, body, row_of}
use Rattle.fasta.specs.Records.{ordinal, ambiguous_in, strand_in, row_from}
use Rattle.fasta.specs.declared.reader.Record.{Record}
use Rattle.fasta.proofs.Meaning.{Kept, Holds}
use Rattle.fasta.proofs.HoldLaws.{many, kept_of_lem}
use Rattle.fasta.proofs.LetterLaws.{flags_ambiguous}
use Rattle.fasta.proofs.RowLaws.{body-long}

module _ (k : Record) (bases flags : List ℕ) (i : ℕ) (ls : List ℕ) (h : Holds k bases flags i ls) (w : ordinal k ≡ suc i) where
  row_short : k.count ≤ 16384 → row (suc i) ls ≡ row_from k bases flags
  unfolding row strand row_of body columns strand_of row_from
  row_short l =
      let t : Kept k bases flags ls = kept_of_lem k bases flags i ls h l in
      ap (λ (x : ℕ). row_of x (length ls) (ambiguous ls) (strand ls)) (sym w)
      ∙ ap (λ (a : ℕ). row_of (ordinal k) (length ls) a (strand ls)) (sym (flags_ambiguous ls) ∙ ap set_flags (sym t.flags))
      ∙ ap (λ (x : List ℕ). row_of (ordinal k) (length ls) (set_flags (chars 1 flags 0 (length ls))) (strand_of x)) (sym t.bases)
      ∙ ap (λ (n : ℕ). row_of (ordinal k) n (set_flags (chars 1 flags 0 n)) (strand_of (chars 2 bases 0 n))) (sym t.count)

  row_long : 16384 < k.count → row (suc i) ls ≡ row_from k bases flags
  unfolding row strand row_of body columns strand_of row_from
  row_long l =
      ap (λ (x : ℕ). row_of x (length ls) (ambiguous ls) (strand ls)) (sym w)
      ∙ ap (λ (x : List ℕ). decimal (ordinal k) ++ (9 ∷ (x ++ (10 ∷ []))))
      (sym (body-long (length ls) (ambiguous ls) (strand ls) (many k bases flags i ls h l)) ∙ body-long k.count (ambiguous_in k flags) (strand_in k bases) l)

  pub row_held : row (suc i) ls ≡ row_from k bases flags
  row_held = below_or 16384 k.count row_long row_short
