-- The first byte decides. Assumes nothing.
use Rattle.std.proofs.Common.{eq-eqb, ne_eqb}
use Rattle.fasta.specs.Steps.{begun}
use Rattle.fasta.proofs.states.begin.Goals as goal

pub returns-then-first-eq10 : goal.returns-then-first-eq10
unfolding begun
returns-then-first-eq10 c = record { says = rw (eq-eqb _ 10 c.if-first-eq10.true); out = rw (eq-eqb _ 10 c.if-first-eq10.true) }

pub returns-then-first-eq13 : goal.returns-then-first-eq13
unfolding begun
returns-then-first-eq13 c = record {
  says = rw (ne_eqb _ 10 c.if-first-eq10.false, eq-eqb _ 13 c.if-first-eq13.true);
  out = rw (ne_eqb _ 10 c.if-first-eq10.false, eq-eqb _ 13 c.if-first-eq13.true);
}

pub returns-then-first-eq62 : goal.returns-then-first-eq62
unfolding begun
returns-then-first-eq62 c =
    record {
      says = rw (ne_eqb _ 10 c.if-first-eq10.false, ne_eqb _ 13 c.if-first-eq13.false, eq-eqb _ 62 c.if-first-eq62.true);
      out = rw (ne_eqb _ 10 c.if-first-eq10.false, ne_eqb _ 13 c.if-first-eq13.false, eq-eqb _ 62 c.if-first-eq62.true);
    }

pub returns : goal.returns
unfolding begun
returns c =
    record {
      says = rw (ne_eqb _ 10 c.if-first-eq10.false, ne_eqb _ 13 c.if-first-eq13.false, ne_eqb _ 62 c.if-first-eq62.false) c.refuse.ensures.says;
      out = rw (ne_eqb _ 10 c.if-first-eq10.false, ne_eqb _ 13 c.if-first-eq13.false, ne_eqb _ 62 c.if-first-eq62.false) c.refuse.ensures.out;
    }
