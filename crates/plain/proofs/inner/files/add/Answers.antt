-- By what the call answers, and what is made of its answer. Assumes nothing.
use mathlib.Core.Path.{sym, ap, ◌∙◌}
use Prim.Native.Nat.{ℕ}
use Rattle.codes.specs.Refusals.{Answer}
use Rattle.given.specs.Face.{said}
use Rattle.twobit.specs.Files.{offset_size}
use Rattle.twowrite.specs.Writing.{writing}
use Rattle.twowrite.specs.declared.answers.Writing.{Writing}
use Rattle.twowrite.proofs.StepLaws.{add-stop}
use Rattle.plain.proofs.inner.files.add.Goals as goal

pub returns-clause-answer : goal.returns-clause-answer
returns-clause-answer c =
    let a = c.args in
    let new = c.new.ensures in
    let new2 = c.new-2.ensures in
    let new3 = c.new-3.ensures in
    let new4 = c.new-4.ensures in
    let says = rw (new, new2, new3, new4) at c.add.ensures.answer in
    let kept = add-stop offset_size _ a.name.now a.bases.now a.base_offset a.base_len a.flags.now a.flag_offset a.flag_len a.out.now in
    let stop = ap (λ (x : Answer Writing). x.values.stop) says ∙ kept in
    let t = c.stepped.new in
    ap (λ (n : ℕ). said c.stepped.result (writing t.entry n t.place t.left)) (sym stop) ∙ c.stepped.ensures ∙ says
