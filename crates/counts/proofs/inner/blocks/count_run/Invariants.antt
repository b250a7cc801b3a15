-- The invariant: the entries up to b are counted, and nothing else changed. Assumes nothing.
use Rattle.codes.specs.Codes.{chars}
use Rattle.codes.specs.Made.{Made}
use Rattle.fields.specs.Flags.{set_flags}
use Rattle.counts.specs.Blocks.{block}
use Rattle.counts.proofs.inner.blocks.count_run.Given as goal

abbrev pub invariant-loop-b : goal.invariant-loop-b
invariant-loop-b l = Made (λ b. set_flags (block (chars 1 l.track 0 l.len) b)) l.from l.b l.initial.entries l.entries
