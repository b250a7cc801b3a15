-- The invariant: the number's digits are those of `rest`, then those in the text. Assumes nothing.
use Rattle.rows.proofs.DecimalLaws.{Spelt}
use Rattle.rows.proofs.inner.puts.put_decimal.Given as goal

abbrev pub invariant-loop-rest : goal.invariant-loop-rest
invariant-loop-rest l = Spelt l.n l.i l.rest l.text

abbrev pub decreases-loop-rest : goal.decreases-loop-rest
decreases-loop-rest l = l.rest
