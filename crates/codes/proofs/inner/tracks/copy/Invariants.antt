-- The invariant: the first i bytes are copied. Assumes nothing.
use lib.ListN.{get_or}
use Rattle.codes.specs.Made.{Made}
use Rattle.codes.proofs.inner.tracks.copy.Given as goal

abbrev pub invariant-loop-i : goal.invariant-loop-i
invariant-loop-i l = Made (λ j. get_or l.from j 0) 0 l.i l.initial.byte-items l.byte-items
