-- The invariant: the flag tells of the blocks from i on, and those of them that have a position lie between `low` and `high`. Assumes nothing.
use mathlib.Core.Path.{◌≡◌}
use Prim.Native.Nat.{◌-◌}
use Rattle.twobit.specs.Blocks.{blocks_from, apart}
use Rattle.twobit.specs.Reading.{block_at}
use Rattle.twobit.proofs.BlockLaws.{Between}
use Rattle.twobit.proofs.inner.blocks.all_apart.Given as goal

abbrev pub invariant-loop-i : goal.invariant-loop-i
invariant-loop-i l =
    let bs = blocks_from (block_at l.big l.file l.p) l.i (l.n - l.i) in
    (l.right ≡ apart bs) × Between l.low l.high bs
