-- Four puts, one after another. Assumes nothing.
use Rattle.std.proofs.Common.{◌+◌, ◌≤◌, length, arith}
use Rattle.fasta.specs.Records.{ambiguous_in, strand_in}
use Rattle.fasta.specs.Report.{row_of}
use Rattle.rows.proofs.DecimalLaws.{decimal-length}
use Rattle.fasta.proofs.RowLaws.{body-length}
use Rattle.rows.proofs.SetsLaws.{put_then, put_length}
use Rattle.fasta.proofs.report.put_row.Goals.{After-put_byte-b, After-put_decimal-a}
use Rattle.fasta.proofs.report.put_row.Goals as goal

-- the room left after each put
room_1 : (d : After-put_decimal-a) → d.put_decimal-a.result + 45 ≤ length d.put_decimal-a.new.out
room_1 d = omega (arith, put_length d.put_decimal-a.ensures, d.put_decimal-a.ensures.behind, decimal-length 20 d.args.number)

room_2 : (d : After-put_byte-b) → d.put_byte-b.result + 44 ≤ length d.put_byte-b.new.out
room_2 d = omega (arith, room_1 (goal.at.After-put_byte-b d).After-put_decimal-a, put_length d.put_byte-b.ensures, d.put_byte-b.ensures.behind)

pub put_byte-b-requires : goal.put_byte-b-requires
put_byte-b-requires c = omega (arith, room_1 (goal.at.put_byte-b-requires c).After-put_decimal-a)

pub put_body-c-requires : goal.put_body-c-requires
put_body-c-requires c = omega (arith, room_2 (goal.at.put_body-c-requires c).After-put_byte-b)

pub put_byte-requires : goal.put_byte-requires
put_byte-requires c =
    let a = c.args in
    let body = c.put_body-c.ensures.out in
    omega (arith, room_2 (goal.at.put_byte-requires c).After-put_byte-b, put_length body, body.behind, body-length a.kept.count (ambiguous_in a.kept a.flags.now) (strand_in a.kept a.bases.now))

pub returns : goal.returns
unfolding row_of
returns c =
    record { out = put_then c.put_decimal-a.ensures (put_then c.put_byte-b.ensures (put_then c.put_body-c.ensures.out c.put_byte.ensures)); other = c.put_body-c.ensures.other }
