-- The record that is known, or what is found there. Assumes nothing.
use mathlib.Core.Path.{◌≡◌, sym, ap, ◌∙◌}
use native.Mathlib.Omega.{arith}
use Rattle.twobit.specs.Inner.{parts_of, places}
use Rattle.twobit.specs.Reading.{is_record}
use Rattle.twobit.proofs.PickLaws.{some_iff}
use Rattle.twobit.proofs.inner.files.sound_record.Goals as goal

pub returns-then-r-file : goal.returns-then-r-file
returns-then-r-file c =
    let a = c.args in
    let e : a.r ≡ a.known = omega (arith, c.if-r-known.true) in
    sym (ap (is_record a.big a.file.now) e ∙ c.requires (omega (arith, c.if-r-file.true, e)))

pub returns : goal.returns
returns c =
    let a = c.args in
    c.is_some.ensures ∙ some_iff (is_record a.big a.file.now a.r) places (parts_of a.big a.file.now a.r) c.record_at.result c.record_at.ensures
