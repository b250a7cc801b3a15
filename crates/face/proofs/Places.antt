-- The part that a call of the C face gives by numbers is the one that the call itself hands back: the same number and, at the same
-- place, the same bytes, offset and length.
-- Assumes nothing.
use Rattle.std.specs.Prelude.{Ok, Err}
use mathlib.Core.Bool.{Bool, true, false}
use mathlib.Core.Path.{◌≡◌, refl, ap}
use Prim.Native.Nat.{ℕ, ◌+◌, ◌-◌}
use native.Mathlib.Nat.{zero-add}
use lib.ListN.{length, take, drop}
use lib.Seq.{take-length}
use Rattle.codes.specs.Codes.{pick}
use Rattle.codes.specs.Refusals.{Answer, answer, first, view_tests, Outcome}
use Rattle.order.specs.Order.{pair_outcome, pair_order, is_second, chosen}
use Rattle.fields.specs.Fields.{slice_tests}
use Rattle.fields.specs.Spans.{Span, normal_part}
use Rattle.views.specs.Views.{Lent, lent, empty, normal, made, sliced, normalised}
use Rattle.given.specs.Face.{Part, no_part}
use Rattle.face.specs.Parts.{part_of, made_part, sliced_part, normalised_part, least_part}

-- the bytes of a part within the lent ones: so many from its first byte on
abbrev pub span_at : Span → Part → Span
span_at s p = record { place = (s.place.0, p.0 + s.place.1); bytes = take p.1 (drop p.0 s.bytes) }

-- the part itself
abbrev pub lent_at : Span → Answer Part → Answer Lent
lent_at s x = record { no = x.no; values = lent (span_at s x.values) x.values.2 x.values.3 }

-- an answer's part, by the outcome's case
at_part : (q : Outcome) (s : Span) (p : Part) (t : Span) → span_at s p ≡ t → lent_at s (answer q p no_part) ≡ answer q (lent t p.2 p.3) (empty s)
at_part (Ok tt) s p t e = ap (λ (x : Span). answer (Ok tt) (lent x p.2 p.3) (empty s)) e
at_part (Err r) s p t e = refl

module _ (w : ℕ) (s : Span) (o len : ℕ) where
  whole : span_at s (0, length s.bytes, o, len) ≡ s
  whole = λ i. record { place = (s.place.0, zero-add s.place.1 i); bytes = take-length s.bytes i }

  pub made-place : lent_at s (made_part w s.bytes o len) ≡ made w s o len
  unfolding made_part made
  made-place = at_part (first (view_tests w (length s.bytes) o len)) s (0, length s.bytes, o, len) s whole

  pub sliced-place : (start end : ℕ) → lent_at s (sliced_part w s.bytes o len start end) ≡ sliced w s o len start end
  unfolding sliced_part sliced
  sliced-place start end = at_part (first (slice_tests w (length s.bytes) o len start end)) s (0, length s.bytes, o + start, end - start) s whole

  pub normalised-place : lent_at s (normalised_part w s.bytes o len) ≡ normalised w s o len
  unfolding normalised_part normalised
  normalised-place = at_part (first (view_tests w (length s.bytes) o len)) s (part_of w o len) (normal_part w s o len) refl

-- of two lent ones, in that of the view that comes first
module _ (w : ℕ) (s : Span) (ao al : ℕ) (t : Span) (bo bl : ℕ) where
  abbrev pub lent_in : Answer (Bool × Part) → Answer Lent
  lent_in x = lent_at (pick x.values.0 t s) (record { no = x.no; values = x.values.1 })

  pub least_place : lent_in (least_part w s.bytes ao al t.bytes bo bl) ≡ chosen w s ao al t bo bl
  unfolding least_part chosen
  least_place = by_case (pair_outcome w s.bytes ao al t.bytes bo bl) (is_second (pair_order w s.bytes ao al t.bytes bo bl))
    where
      by_case : (q : Outcome) (b : Bool) → lent_in (answer q (pick b (true, part_of w bo bl) (false, part_of w ao al)) (false, no_part)) ≡ answer q
          (pick b (normal w t bo bl) (normal w s ao al)) (empty s)
      by_case (Ok tt) true = refl
      by_case (Ok tt) false = refl
      by_case (Err r) b = refl
