-- The tests of the view come first, then those of the slice. Assumes nothing.
use mathlib.Core.List.{[], ◌∷◌}
use mathlib.Core.Path.{◌≡◌, sym, ◌∙◌}
use native.Mathlib.Omega.{arith}
use lib.ListN.{length}
use borrow.Author.Tests.{lt-ltb, le-ltb}
use Rattle.codes.specs.Refusals.{first, bad_end, bad_start, view_tests}
use Rattle.codes.proofs.OutcomeLaws.{passes, next_holds, next_passed, first_holds, first_next}
use Rattle.fields.specs.Fields.{slice_tests}
use Rattle.fields.proofs.inner.parts.slice_outcome.Given.{Over}
use Rattle.fields.proofs.inner.parts.slice_outcome.Goals.{Else-count}
use Rattle.fields.proofs.inner.parts.slice_outcome.Goals as goal

pub returns-in_err-view_outcome : goal.returns-in_err-view_outcome
returns-in_err-view_outcome g c =
    let a = c.args in
    let p = passes (view_tests g.W.Width.BITS (length a.bytes.now) a.offset.0 a.len.0) (bad_end a.len.0 a.end.0 ∷ bad_start a.start.0 a.end.0 ∷ []) _ _ c.in_err-view_outcome.ensures c.from_residual.ensures.1 in
    p.0 ∙ sym p.1

pub returns-then-count : goal.returns-then-count
returns-then-count g c =
    let a = c.args in
    sym (next_holds (view_tests g.W.Width.BITS (length a.bytes.now) a.offset.0 a.len.0) (bad_end a.len.0 a.end.0) (bad_start a.start.0 a.end.0 ∷ []) c.in_ok-view_outcome.ensures (lt-ltb _ _ (omega arith)))

-- the end is accepted here
ends : (g : Over) (c : Else-count g) → let a = c.args in first (slice_tests g.W.Width.BITS (length a.bytes.now) a.offset.0 a.len.0 a.start.0 a.end.0) ≡ first (bad_start a.start.0 a.end.0 ∷ [])
ends g c =
    let a = c.args in
    next_passed (view_tests g.W.Width.BITS (length a.bytes.now) a.offset.0 a.len.0) (bad_end a.len.0 a.end.0) (bad_start a.start.0 a.end.0 ∷ []) c.in_ok-view_outcome.ensures (le-ltb _ _ (omega arith))

pub returns-then-count-2 : goal.returns-then-count-2
returns-then-count-2 g c =
    sym (ends g (goal.at.returns-then-count-2 g c).Else-count ∙ first_holds _ _ [] (lt-ltb c.args.end.0 c.args.start.0 (omega arith)))

pub returns : goal.returns
returns g c = sym (ends g (goal.at.returns g c).Else-count ∙ first_next _ _ [] (le-ltb c.args.end.0 c.args.start.0 (omega arith)))
