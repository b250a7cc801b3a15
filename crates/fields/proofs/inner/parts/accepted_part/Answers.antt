-- The part's two ends are the definition's, and the bytes reach beyond them. Assumes nothing.
use mathlib.Core.Path.{◌≡◌, ap, ap₂, ◌∙◌}
use Prim.Native.Nat.{ℕ, ◌+◌, ◌/◌, ◌≤◌}
use native.Mathlib.Omega.{arith}
use lib.ListN.{length}
use Rattle.codes.specs.Codes.{per, up, trailing}
use Rattle.fields.specs.Spans.{span_of, part}
use Rattle.fields.proofs.ViewLaws.{view_accepted, room_sum, room_start, room_end}
use Rattle.fields.proofs.inner.parts.accepted_part.Given.{Over}
use Rattle.fields.proofs.inner.parts.accepted_part.Goals.{After-count-to}
use Rattle.fields.proofs.inner.parts.accepted_part.Goals as goal

pub overflow_add-count : goal.overflow_add-count
overflow_add-count g c =
    let a = c.args in
    omega (arith, room_sum g.W.Width.divides (view_accepted g.W.Width.BITS (length a.bytes.now) a.offset.0 a.len.0 c.requires))

-- where the part begins, and the bytes that the characters take
module _ (g : Over) (c : After-count-to g) where
  from : c.count-from.result ≡ c.args.offset.0 / per g.W.Width.BITS
  from = c.count-from.ensures ∙ c.byte_of.ensures

  used : c.count-to.result ≡ up g.W.Width.BITS (c.args.offset.0 + c.args.len.0)
  used =
      c.count-to.ensures
      ∙ c.bytes_as-used.ensures
      ∙ ap (up g.W.Width.BITS) (c.new.ensures ∙ ap₂ (λ (x y : ℕ). x + y) c.count.ensures c.count-2.ensures)

  starts : c.args.offset.0 / per g.W.Width.BITS ≤ up g.W.Width.BITS (c.args.offset.0 + c.args.len.0) + trailing
  starts = room_start g.W.Width.divides (view_accepted g.W.Width.BITS (length c.args.bytes.now) c.args.offset.0 c.args.len.0 c.requires)

  ends : up g.W.Width.BITS (c.args.offset.0 + c.args.len.0) + trailing ≤ length c.args.bytes.now
  ends = room_end g.W.Width.divides (view_accepted g.W.Width.BITS (length c.args.bytes.now) c.args.offset.0 c.args.len.0 c.requires)

pub overflow_add-to : goal.overflow_add-to
overflow_add-to g c = omega (arith, used g c, ends g c)

pub slice_bounds-result-count : goal.slice_bounds-result-count
slice_bounds-result-count g c = omega (arith, used g c, from g c, starts g c)

pub slice_bounds-result-start : goal.slice_bounds-result-start
slice_bounds-result-start g c = omega (arith, used g c, from g c, starts g c)

pub slice_bounds-result-end : goal.slice_bounds-result-end
slice_bounds-result-end g c = omega (arith, used g c, ends g c)

pub returns : goal.returns
returns g c = ap₂ (λ (k e : ℕ). part k (e + trailing) (span_of c.args.bytes)) (from g (goal.at.returns g c).After-count-to) (used g (goal.at.returns g c).After-count-to)
