-- The invariant: i words are written. Assumes nothing.
use Rattle.forms.proofs.TrackLaws.{Packing}
use Rattle.forms.proofs.inner.tracks.pack_view.Given as goal

abbrev pub invariant-loop-i : goal.invariant-loop-i
invariant-loop-i g l = Packing g.W.Width.BITS l.bytes l.offset l.len l.initial.out l.i l.out
