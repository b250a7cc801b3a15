-- Two puts, one after the other. Assumes nothing.
use Rattle.std.proofs.Common.{arith}
use Rattle.fasta.specs.Records.{ambiguous_in, strand_in}
use Rattle.fasta.proofs.BoundLaws.{closed-length}
use Rattle.fasta.proofs.CaseLaws.{closed-put}
use Rattle.fasta.proofs.RowLaws.{row_length}
use Rattle.rows.proofs.SetsLaws.{put_length}
use Rattle.fasta.proofs.FrontLaws.{put_place, put_onto}
use Rattle.fasta.proofs.states.close.Goals as goal

pub put_total-requires : goal.put_total-requires
put_total-requires c =
    let a = c.args in
    let row = c.put_row-at.ensures.out in
    omega (arith, c.requires, put_length row, row.behind, row_length c.wrapping_add_u64-number.result a.kept.count (ambiguous_in a.kept a.flags.now) (strand_in a.kept a.bases.now))

pub returns : goal.returns
returns c =
    let a = c.args in
    let q = closed-put a.kept a.bases.now a.flags.now a.out.now _ _ _ _ _ c.wrapping_add_u64-number.ensures.value c.put_row-at.ensures.out c.put_total.ensures in record {
      says = put_place q;
      other = c.put_row-at.ensures.other;
      out = put_onto q (omega (arith, c.requires, closed-length a.kept a.bases.now a.flags.now));
    }
