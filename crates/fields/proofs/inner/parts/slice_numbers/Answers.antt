-- An accepted slice starts and ends within the view. Assumes nothing.
use mathlib.Core.Path.{sym, ap₂, ◌∙◌}
use Prim.Native.Nat.{ℕ, ◌+◌, ◌-◌}
use native.Mathlib.Omega.{arith}
use lib.ListN.{length}
use Rattle.codes.proofs.OutcomeLaws.{answer_done}
use Rattle.fields.proofs.ViewLaws.{Cut, slice_cut, room_sum}
use Rattle.fields.proofs.inner.parts.slice_numbers.Given.{Over}
use Rattle.fields.proofs.inner.parts.slice_numbers.Goals.{In_ok-slice_outcome}
use Rattle.fields.proofs.inner.parts.slice_numbers.Goals as goal

-- the slice is accepted here
cut : (g : Over) (c : In_ok-slice_outcome g) → let a = c.args in Cut g.W.Width.BITS (length a.bytes.now) a.offset.0 a.len.0 a.start.0 a.end.0
cut g c = slice_cut _ _ _ _ _ _ (sym c.in_ok-slice_outcome.ensures)

pub overflow_add-count : goal.overflow_add-count
overflow_add-count g c = let u = cut g (goal.at.overflow_add-count g c).In_ok-slice_outcome in omega (arith, room_sum g.W.Width.divides u.room, u.ends, u.starts)

pub overflow_sub-count : goal.overflow_sub-count
overflow_sub-count g c = let u = cut g (goal.at.overflow_sub-count g c).In_ok-slice_outcome in omega (arith, u.ends, u.starts)

pub returns : goal.returns
returns g c =
    answer_done _ _ _ (0, 0) (sym c.in_ok-slice_outcome.ensures)
    (ap₂ (λ (x y : ℕ). (x, y)) (c.new.ensures ∙ ap₂ (λ (x y : ℕ). x + y) c.count.ensures c.count-from.ensures)
    (c.new-2.ensures ∙ ap₂ (λ (x y : ℕ). x - y) c.count-2.ensures c.count-from.ensures))
