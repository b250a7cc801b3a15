-- A `>` closes the record; any other byte is the first of a line of letters. Assumes nothing.
use Rattle.fasta.proofs.CaseLaws.{closes, goes_on_lem}
use Rattle.fasta.proofs.states.at_line.Goals as goal

pub returns-then-part-eq62 : goal.returns-then-part-eq62
returns-then-part-eq62 c =
    let a = c.args in
    let row = c.put_row-wrote.ensures in
    let q = closes a.kept a.part.now a.bases.now a.flags.now a.other.now a.out.now c.requires.part_nonzero _ _ _ _ c.if-part-eq62.true c.requires.in_bounds
    c.wrapping_add_u64-number.ensures.value row.out row.other in
    record { says = q.0; bases = q.1.0; flags = q.1.1.0; other = q.1.1.1.0; out = q.1.1.1.1 }

pub returns : goal.returns
returns c =
    let a = c.args in
    let line = c.in_line.ensures in
    let q = goes_on_lem a.kept a.part.now a.bases.now a.flags.now a.other.now a.out.now c.requires.part_nonzero c.in_line.result _ _ c.if-part-eq62.false (line.says, (line.bases, line.flags)) in
    record { says = q.0; bases = q.1.0; flags = q.1.1.0; other = q.1.1.1.0; out = q.1.1.1.1 }
