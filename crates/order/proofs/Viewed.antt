-- Only the characters of two views count: accepted views with equal characters get equal answers, call by call. Each answer is made
-- of the outcome, the lengths and the characters alone.
-- Assumes nothing.
use Rattle.std.specs.Prelude.{Ok}
use mathlib.Core.Bool.{Bool, true, false}
use mathlib.Core.List.{List}
use mathlib.Core.Path.{◌≡◌, sym, ◌∙◌}
use Prim.Native.Nat.{ℕ}
use lib.IntN.{pos}
use lib.ListN.{length}
use Rattle.codes.specs.Codes.{IsWidth, chars, pick}
use Rattle.codes.specs.Refusals.{answer, first, view_tests, Outcome}
use Rattle.order.specs.Order.{pair_outcome, pair_order, compare, common, place_of, order_number, compared, placed, found, is_second, chosen}
use Rattle.fields.specs.Spans.{Span}
use Rattle.codes.proofs.CharLaws.{same_length}
use Rattle.codes.proofs.Viewed.{Same}
use Rattle.views.specs.Views.{Lent, empty, normal}
use Rattle.views.proofs.SliceLaws.{Holds, held, normal-holds}
use Rattle.order.proofs.OrderLaws.{pair_done}

-- the part that comes first is an accepted view, with the characters of the view that does
module _ {w : ℕ} (W : IsWidth w) (s : Span) (ao al : ℕ) (t : Span) (bo bl : ℕ) where
  pub chosen-holds : first (view_tests w (length s.bytes) ao al) ≡ Ok tt → first (view_tests w (length t.bytes) bo bl) ≡ Ok tt
      → ((chosen w s ao al t bo bl).no ≡ 0)
      × Holds w (pick (is_second (pair_order w s.bytes ao al t.bytes bo bl)) (chars w t.bytes bo bl) (chars w s.bytes ao al)) (chosen w s ao al t bo bl).values
  unfolding chosen
  chosen-holds e f = held (picked second) (empty s) (pair_done w (length s.bytes) ao al (length t.bytes) bo bl e f) (by_case second)
    where
      second : Bool
      second = is_second (pair_order w s.bytes ao al t.bytes bo bl)

      picked : Bool → Lent
      picked b = pick b (normal w t bo bl) (normal w s ao al)

      by_case : (b : Bool) → Holds w (pick b (chars w t.bytes bo bl) (chars w s.bytes ao al)) (picked b)
      by_case true = normal-holds t bo bl f W
      by_case false = normal-holds s ao al e W

-- two views each: a call's answer by the outcome, the lengths and the characters
module _ {w : ℕ} {us : List ℕ} {ao al : ℕ} {xs : List ℕ} {xo xl : ℕ} (s : Same w us ao al xs xo xl) {bs : List ℕ} {bo bl : ℕ} {ys : List ℕ} {yo yl : ℕ} (t : Same w bs bo bl ys yo yl) where
  pair_viewed : {A : Type 0} (f : Outcome → List ℕ → List ℕ → A)
      → f (pair_outcome w us ao al bs bo bl) (chars w us ao al) (chars w bs bo bl) ≡ f (pair_outcome w xs xo xl ys yo yl) (chars w xs xo xl) (chars w ys yo yl)
  pair_viewed f =
      let mine = pair_done w (length us) ao al (length bs) bo bl s.left t.left in
      let other = pair_done w (length xs) xo xl (length ys) yo yl s.right t.right in
      λ i. f ((mine ∙ sym other) i) (s.same i) (t.same i)

  pub compared-viewed : compared w us ao al bs bo bl ≡ compared w xs xo xl ys yo yl
  unfolding compared
  compared-viewed = pair_viewed (λ q cs ds. answer q (order_number (compare cs ds), common cs ds) (pos 0, 0))

  pub found-viewed : found w us ao al bs bo bl ≡ found w xs xo xl ys yo yl
  unfolding found
  found-viewed = pair_viewed (λ q cs ds. answer q (placed (place_of ds cs)) (false, 0))

-- the part that comes first: its number, its length and its characters. Its bytes, their place and its offset within a byte are its own
module _ {w : ℕ} (W : IsWidth w) (s : Span) {ao al : ℕ} (x : Span) {xo xl : ℕ} (e : Same w s.bytes ao al x.bytes xo xl)
    (t : Span) {bo bl : ℕ} (y : Span) {yo yl : ℕ} (f : Same w t.bytes bo bl y.bytes yo yl) where
  abbrev mine : Lent
  mine = (chosen w s ao al t bo bl).values

  abbrev other : Lent
  other = (chosen w x xo xl y yo yl).values

  pub chosen-viewed : ((chosen w s ao al t bo bl).no ≡ (chosen w x xo xl y yo yl).no) × (mine.len ≡ other.len)
      × (chars w mine.span.bytes mine.offset mine.len ≡ chars w other.span.bytes other.offset other.len)
  chosen-viewed =
      let l = chosen-holds W s ao al t bo bl e.left f.left in
      let r = chosen-holds W x xo xl y yo yl e.right f.right in
      let same = l.1.characters ∙ (λ i. pick (is_second (compare (e.same i) (f.same i))) (f.same i) (e.same i)) ∙ sym r.1.characters in
      (l.0 ∙ sym r.0, same_length w mine.span.bytes mine.offset mine.len other.span.bytes other.offset other.len same, same)
