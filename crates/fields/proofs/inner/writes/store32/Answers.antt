-- Bytes stored one after another are stored together. Assumes nothing.
use mathlib.Core.List.{List}
use mathlib.Core.Path.{ap, ◌∙◌}
use Prim.Native.Nat.{ℕ, ◌+◌, ◌/◌, ◌^◌}
use lib.Seq.{sets}
use Rattle.codes.specs.Words.{chars_of}
use Rattle.fields.proofs.WriteLaws.{sets_more}
use Rattle.fields.proofs.inner.writes.store32.Goals as goal

pub returns : goal.returns
returns c =
    let a = c.args in
    c.store16-2.ensures
    ∙ ap (λ (d : List ℕ). sets d (a.at + 2) (chars_of 8 2 (a.x / 2 ^ 16))) c.store16.ensures
    ∙ sets_more a.out.now a.at 2 2 a.x
