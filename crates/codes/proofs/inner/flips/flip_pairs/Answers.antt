-- The network's fifth stage. Assumes nothing.
use mathlib.Core.Path.{refl}
use lib.Dec.{lit<}
use Rattle.codes.proofs.Net.{mask, stage}
use Rattle.codes.proofs.inner.flips.flip_pairs.Goals as goal

pub returns : goal.returns
unfolding mask
returns c = stage 64 2 16 0x3333_3333_3333_3333 c.args.x _ refl (lit< tt) c.flip_fours-d.ensures
