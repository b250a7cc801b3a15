-- Three puts, one after another. Assumes nothing.
use Rattle.std.proofs.Common.{arith}
use Rattle.fasta.specs.Report.{total_of}
use Rattle.rows.proofs.DecimalLaws.{decimal-length}
use Rattle.rows.proofs.SetsLaws.{put_then, put_length}
use Rattle.fasta.proofs.report.put_total.Goals as goal

pub put_byte-requires : goal.put_byte-requires
put_byte-requires c =
    let text = c.put_text-a.ensures in
    let digits = c.put_decimal-b.ensures in
    omega (arith, put_length text, text.behind, put_length digits, digits.behind, decimal-length 20 c.args.number)

pub returns : goal.returns
unfolding total_of
returns c =
    put_then c.put_text-a.ensures (put_then c.put_decimal-b.ensures c.put_byte.ensures)
