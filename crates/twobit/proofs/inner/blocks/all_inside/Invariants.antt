-- The invariant: the blocks from i on decide. Assumes nothing.
use mathlib.Core.Path.{◌≡◌}
use Prim.Native.Nat.{◌-◌}
use Rattle.twobit.specs.Blocks.{blocks_from, all_inside}
use Rattle.twobit.specs.Reading.{block_at, blocks_at}
use Rattle.twobit.proofs.inner.blocks.all_inside.Given as goal

abbrev pub invariant-loop-i : goal.invariant-loop-i
invariant-loop-i l = all_inside l.size (blocks_at l.big l.file l.p) ≡ all_inside l.size (blocks_from (block_at l.big l.file l.p) l.i (l.n - l.i))
