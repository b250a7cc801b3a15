-- An index within an accepted view is one within its bytes. Assumes nothing.
use mathlib.Core.List.{[], ◌∷◌, ◌++◌}
use mathlib.Core.Path.{◌≡◌, sym, ap, ap₂, ◌∙◌, subst}
use Prim.Native.Nat.{ℕ, ◌+◌, ◌/◌, ◌<◌}
use native.Mathlib.Omega.{arith}
use lib.ListN.{length}
use borrow.Author.Tests.{le-leb, lt-leb}
use Rattle.std.specs.Prelude.{Ok}
use Rattle.codes.specs.Codes.{char_at, per}
use Rattle.codes.specs.Refusals.{first, bad_index, view_tests}
use Rattle.codes.proofs.CharLaws.{get_or-chars}
use Rattle.codes.proofs.OutcomeLaws.{passes, next_holds, next_passed, answer_refused, answer_done}
use Rattle.fields.specs.Fields.{got}
use Rattle.fields.proofs.ViewLaws.{Within, index_within, room_sum, room_char}
use Rattle.fields.proofs.inner.parts.get_at.Given.{Over}
use Rattle.fields.proofs.inner.parts.get_at.Goals.{Else-count-at}
use Rattle.fields.proofs.inner.parts.get_at.Goals as goal

pub returns-in_err-view_outcome : goal.returns-in_err-view_outcome
unfolding got
returns-in_err-view_outcome g c =
    let a = c.args in
    let p = passes (view_tests g.W.Width.BITS (length a.bytes.now) a.offset.0 a.len.0) (bad_index a.len.0 a.i.0 ∷ []) _ _ c.in_err-view_outcome.ensures c.from_residual.ensures.1 in
    rw (p.0, p.1)

pub returns-then-count-at : goal.returns-then-count-at
unfolding got
returns-then-count-at g c =
    let a = c.args in
    answer_refused _ _ _ 0
    (next_holds (view_tests g.W.Width.BITS (length a.bytes.now) a.offset.0 a.len.0) (bad_index a.len.0 a.i.0) [] c.in_ok-view_outcome.ensures (le-leb _ _ (omega arith)))

-- the index is accepted here
module _ (g : Over) (c : Else-count-at g) where
  accepted : let a = c.args in first (view_tests g.W.Width.BITS (length a.bytes.now) a.offset.0 a.len.0 ++ bad_index a.len.0 a.i.0 ∷ []) ≡ Ok tt
  accepted =
      let a = c.args in
      next_passed (view_tests g.W.Width.BITS (length a.bytes.now) a.offset.0 a.len.0) (bad_index a.len.0 a.i.0) [] c.in_ok-view_outcome.ensures (lt-leb _ _ (omega arith))

  within : let a = c.args in Within g.W.Width.BITS (length a.bytes.now) a.offset.0 a.len.0 a.i.0
  within = index_within _ _ _ _ _ accepted

pub overflow_add-count : goal.overflow_add-count
overflow_add-count g c = let i = within g (goal.at.overflow_add-count g c).Else-count-at in omega (arith, i.below, room_sum g.W.Width.divides i.room)

pub char_at-requires : goal.char_at-requires
char_at-requires g c =
    let a = c.args in
    let i = within g (goal.at.char_at-requires g c).Else-count-at in
    let e = ap₂ (λ (x y : ℕ). x + y) c.count-2.ensures c.count-at.ensures in
    subst (λ (x : ℕ). x / per g.W.Width.BITS < length a.bytes.now) (sym e) (room_char g.W.Width.divides i.room a.i.0 i.below)

pub returns : goal.returns
unfolding got
returns g c =
    let a = c.args in
    let at = (goal.at.returns g c).Else-count-at in
    answer_done _ _ _ 0 (accepted g at)
    (c.char_at.ensures ∙ ap (char_at g.W.Width.BITS a.bytes.now) (ap₂ (λ (x y : ℕ). x + y) c.count-2.ensures c.count-at.ensures)
    ∙ sym (get_or-chars g.W.Width.BITS a.bytes.now a.offset.0 a.len.0 a.i.0 (within g at).below))
