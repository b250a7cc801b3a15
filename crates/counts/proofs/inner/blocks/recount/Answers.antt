-- The blocks from that of the first character up to that of the last one, as far as there are any. Assumes nothing.
use mathlib.Core.Path.{sym, ap, ap₂, ◌∙◌}
use Prim.Native.Nat.{min}
use native.Mathlib.Omega.{arith}
use Rattle.codes.specs.Codes.{chars}
use Rattle.codes.proofs.CharLaws.{length-chars}
use Rattle.codes.proofs.MadeLaws.{made-to}
use Rattle.counts.specs.Blocks.{blocks}
use Rattle.counts.proofs.BlockLaws.{recounted-none, recounted-made}
use Rattle.counts.proofs.inner.blocks.recount.Goals as goal

pub returns-then-start-end : goal.returns-then-start-end
returns-then-start-end c =
    let a = c.args in
    let flags = chars 1 a.track.now 0 a.len in
    let long = length-chars 1 a.track.now 0 a.len in
    let to = c.smaller-to.ensures ∙ ap₂ min c.blocks_of.ensures (c.blocks_of-then-start-end.ensures ∙ ap blocks (sym long)) in
    recounted-made a.entries.now a.start a.end flags c.count_run.new.entries c.if-start-end.true (made-to c.count_run.ensures to) (omega (arith, long))

pub returns-else-start-end : goal.returns-else-start-end
returns-else-start-end c =
    let a = c.args in
    recounted-none a.entries.now a.start a.end (chars 1 a.track.now 0 a.len) c.if-start-end.false
