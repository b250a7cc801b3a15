-- The line goes on, or it was blank. Assumes nothing.
use Rattle.std.proofs.Common.{eq-eqb, ne_eqb}
use Rattle.fasta.specs.Steps.{begun_held}
use Rattle.fasta.proofs.LineLaws.{goes_first}
use Rattle.fasta.proofs.states.begin_held.Goals as goal

pub returns-then-part-ne10 : goal.returns-then-part-ne10
unfolding begun_held
returns-then-part-ne10 c =
    record {
      says = rw (goes_first c.args.part.now c.requires.part_nonzero, ne_eqb _ 10 c.if-part-ne10.true) c.refuse.ensures.says;
      out = rw (goes_first c.args.part.now c.requires.part_nonzero, ne_eqb _ 10 c.if-part-ne10.true) c.refuse.ensures.out;
    }

pub returns : goal.returns
unfolding begun_held
returns c =
    record {
      says = rw (goes_first c.args.part.now c.requires.part_nonzero, eq-eqb _ 10 c.if-part-ne10.false);
      out = rw (goes_first c.args.part.now c.requires.part_nonzero, eq-eqb _ 10 c.if-part-ne10.false);
    }
