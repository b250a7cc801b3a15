-- The invariant: the blocks from j on decide. Assumes nothing.
use mathlib.Core.Path.{◌≡◌}
use Prim.Native.Nat.{◌+◌, ◌-◌}
use Rattle.twobit.specs.Blocks.{blocks_from, clear_of}
use Rattle.twobit.specs.Reading.{block_at}
use Rattle.twobit.proofs.inner.blocks.clear_of.Given as goal

abbrev pub invariant-loop-j : goal.invariant-loop-j
invariant-loop-j l =
    let f = block_at l.big l.file l.p in
    clear_of (f l.i) (blocks_from f (l.i + 1) (l.n - (l.i + 1))) ≡ clear_of (f l.i) (blocks_from f l.j (l.n - l.j))
