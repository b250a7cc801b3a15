-- The plain clear is the whole of it. Assumes nothing.
use mathlib.Core.Path.{◌∙◌}
use Rattle.counts.proofs.CallLaws.{clear-plain, clear-entries}
use Rattle.counts.proofs.flags.clear.Goals as goal

pub returns : goal.returns
returns c =
    let a = c.args in
    let plain = clear-plain a.buffer.now 0 a.entries.now in
    record { says = c.clear.ensures.says ∙ plain.0; bytes = c.clear.ensures.bytes ∙ plain.1; entries = clear-entries a.buffer.now 0 a.entries.now }
