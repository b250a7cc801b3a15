-- The invariant: the starts and the sizes of the first i runs are written, and the runs from p on are left. Assumes nothing.
use Rattle.twowrite.proofs.RunLaws.{Written}
use Rattle.twowrite.proofs.inner.sequences.write_runs.Given as goal

abbrev pub invariant-loop-i : goal.invariant-loop-i
invariant-loop-i l = Written l.flags l.bo l.len l.initial.out l.at l.sizes l.end l.out l.p l.i
