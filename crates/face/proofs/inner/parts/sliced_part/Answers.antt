-- By what the slice is. Assumes nothing.
use Rattle.std.specs.Prelude.{Result, Ok, Err}
use Rattle.std.proofs.lemmas.Result.{err_from_is_err_and}
use mathlib.Core.Path.{◌≡◌, ap, ◌∙◌}
use Prim.Native.Nat.{ℕ, ◌+◌, ◌-◌}
use lib.ListN.{length}
use Rattle.codes.specs.Answers.{says_by}
use Rattle.codes.specs.Refusals.{answer, first}
use Rattle.codes.specs.declared.refusals.Refusal.{Refusal}
use Rattle.codes.proofs.RefusalLaws.{says_through}
use Rattle.fields.specs.Answers.{numbers_say}
use Rattle.fields.specs.Fields.{slice_tests}
use Rattle.fields.specs.declared.inner.parts.Numbers.{Numbers}
use Rattle.given.specs.Face.{Part, no_part}
use Rattle.given.specs.Parts.{part_says}
use Rattle.face.specs.Parts.{sliced_part}
use Rattle.face.proofs.inner.parts.sliced_part.Given.{Over}
use Rattle.face.proofs.inner.parts.sliced_part.Goals.{Start}
use Rattle.face.proofs.inner.parts.sliced_part.Goals as goal

-- a part over all bytes, with the numbers of a slice
part : (g : Over) (s : Start g) (r : Result Numbers Refusal) → let a = s.args in
    numbers_say r ≡ answer (first (slice_tests g.W.Width.BITS (length a.bytes.now) a.offset.0 a.len.0 a.start.0 a.end.0)) (a.offset.0 + a.start.0, a.end.0 - a.start.0) (0, 0)
    → says_by {V = Part} (λ n. (0, length a.bytes.now, n.offset.0, n.len.0)) no_part r ≡ sliced_part g.W.Width.BITS a.bytes.now a.offset.0 a.len.0 a.start.0 a.end.0
unfolding sliced_part
part g s r e = says_through (λ n. (n.offset.0, n.len.0)) (0, 0) (λ (v : ℕ × ℕ). (0, length s.args.bytes.now, v.0, v.1)) no_part _ _ r e

pub returns-in_err-numbers : goal.returns-in_err-numbers
returns-in_err-numbers g c =
    let p = err_from_is_err_and c.from_residual.result c.from_residual.ensures.1 in
    ap part_says (p.1 ∙ ap Err p.2) ∙ part g (goal.at.returns-in_err-numbers g c).Start (Err c.in_err-numbers.field-0.0) c.in_err-numbers.ensures

pub returns : goal.returns
returns g c =
    let e = part g (goal.at.returns g c).Start (Ok c.in_ok-numbers.numbers) c.in_ok-numbers.ensures in
    rw (c.count.ensures, c.count-2.ensures) e
