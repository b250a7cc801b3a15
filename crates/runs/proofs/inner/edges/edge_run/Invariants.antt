-- The invariant: the bytes up to j are made anew. Assumes nothing.
use mathlib.Core.List.{map}
use Rattle.codes.specs.Codes.{code}
use Rattle.codes.specs.Made.{Made}
use Rattle.runs.specs.Bytes.{anew}
use Rattle.runs.proofs.inner.edges.edge_run.Given as goal

abbrev pub invariant-loop-j : goal.invariant-loop-j
invariant-loop-j g l = Made (anew g.W.Width.BITS l.initial.buffer l.at (map (code g.W.Width.BITS) l.letters) l.stop) l.from l.j l.initial.buffer l.buffer
