-- The network's last stage. Assumes nothing.
use mathlib.Core.Path.{refl}
use lib.Dec.{lit<}
use Rattle.codes.proofs.Net.{mask, stage}
use Rattle.codes.proofs.inner.flips.flip_flags.Goals as goal

pub returns : goal.returns
unfolding mask
returns c = stage 64 1 32 0x5555_5555_5555_5555 c.args.x _ refl (lit< tt) c.flip_pairs-e.ensures
