-- A block's flags are those from its first character on, up to the length. Assumes nothing.
use mathlib.Core.Path.{◌≡◌, sym, ap, ◌∙◌}
use Prim.Native.Nat.{ℕ, ◌+◌, ◌-◌, ◌*◌, min}
use native.Mathlib.Omega.{arith}
use Rattle.codes.specs.Codes.{chars}
use Rattle.fields.specs.Flags.{set_flags}
use Rattle.fields.proofs.FlagLaws.{flags_few}
use Rattle.counts.specs.Blocks.{size}
use Rattle.counts.proofs.BlockLaws.{block-chars}
use Rattle.counts.proofs.inner.blocks.count_block.Goals as goal

pub overflow_cast-result : goal.overflow_cast-result
overflow_cast-result c =
    let a = c.args in
    omega (arith, c.set_flags.ensures, c.smaller.ensures, flags_few a.track.now (a.b * size) c.smaller.result)

pub returns : goal.returns
returns c =
    let a = c.args in
    let n : min 256 (a.len - a.b * size) ≡ min (a.b * size + size) a.len - a.b * size = omega arith in
    c.set_flags.ensures
    ∙ ap (λ (x : ℕ). set_flags (chars 1 a.track.now (a.b * size) x)) (c.smaller.ensures ∙ n)
    ∙ sym (ap set_flags (block-chars a.track.now a.len a.b))
