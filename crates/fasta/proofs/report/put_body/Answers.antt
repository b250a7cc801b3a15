-- The definition's two cases. Assumes nothing.
use Rattle.std.proofs.Common.{◌∙◌, ap₂}
use Rattle.rows.specs.Columns.{columns}
use Rattle.fasta.proofs.RowLaws.{body-long, body-short, put_as, marked-long, marked-short}
use Rattle.fasta.proofs.report.put_body.Goals as goal

pub returns-then-count-gt16384 : goal.returns-then-count-gt16384
returns-then-count-gt16384 c =
    let a = c.args in record {
      out = put_as (body-long a.kept.count _ _ c.if-count-gt16384.true) c.put_text.ensures;
      other = marked-long a.kept a.bases.now a.other.now c.if-count-gt16384.true;
    }

pub returns : goal.returns
returns c =
    let a = c.args in record {
      out = put_as (ap₂ (columns a.kept.count) c.set_flags-ambiguous.ensures c.strand-mark.ensures.says ∙ body-short a.kept.count _ _ c.if-count-gt16384.false) c.put_columns.ensures;
      other = c.strand-mark.ensures.other ∙ marked-short a.kept a.bases.now a.other.now c.if-count-gt16384.false;
    }
