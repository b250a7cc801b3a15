-- The flags under the blocks from i on are set. Assumes nothing.
use mathlib.Core.Path.{◌≡◌}
use Prim.Native.Nat.{ℕ, ◌-◌, ◌<◌}
use lib.ListN.{length, get_or}
use Rattle.codes.specs.Codes.{pick, char_at}
use Rattle.twobit.specs.Blocks.{blocks_from, under}
use Rattle.twobit.specs.Reading.{block_at}
use Rattle.twobit.proofs.inner.filling.fill_flags.Given as goal

abbrev pub invariant-loop-i : goal.invariant-loop-i
invariant-loop-i l =
    (length l.flags ≡ length l.initial.flags) × ((q : ℕ) → char_at 1 l.flags q ≡ pick (under (blocks_from (block_at l.big l.file l.p) l.i (l.n - l.i)) q) 1 (char_at 1 l.initial.flags q))
    × ((j : ℕ) → get_or l.flags j 0 < 256)
