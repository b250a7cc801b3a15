-- The line goes on, or it ends here. Assumes nothing.
use Rattle.std.proofs.Common.{eq-eqb, ne_eqb}
use Rattle.fasta.specs.Steps.{in_line_held}
use Rattle.fasta.specs.Buffers.{held_track}
use Rattle.fasta.proofs.LineLaws.{goes_first}
use Rattle.fasta.proofs.states.in_line_held.Goals as goal

pub returns-then-part-eq10 : goal.returns-then-part-eq10
unfolding in_line_held held_track
returns-then-part-eq10 c =
    let e = goes_first c.args.part.now c.requires in record {
      says = rw (e, eq-eqb _ 10 c.if-part-eq10.true);
      bases = rw (e, eq-eqb _ 10 c.if-part-eq10.true);
      flags = rw (e, eq-eqb _ 10 c.if-part-eq10.true);
    }

pub returns : goal.returns
unfolding in_line_held held_track
returns c =
    let e = goes_first c.args.part.now c.requires in
    let a = c.add_letters-longer.ensures in record {
      says = rw (e, ne_eqb _ 10 c.if-part-eq10.false, ← a.says) c.in_line.ensures.says;
      bases = rw (e, ne_eqb _ 10 c.if-part-eq10.false, ← a.says, ← a.bases) c.in_line.ensures.bases;
      flags = rw (e, ne_eqb _ 10 c.if-part-eq10.false, ← a.says, ← a.flags) c.in_line.ensures.flags;
    }
