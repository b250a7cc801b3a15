-- Order: comparing, finding and choosing among lists of characters; what each call on two views answers.
-- Assumes nothing.
use Rattle.std.specs.Prelude.{Result, Bool, true, false, ◌&&◌, List, [], ◌∷◌, ℕ, suc, ltb, eqb, ℤ, pos, negsuc, length, Option, Some, None}
use Rattle.std.specs.declared.cmp.Ordering.{Ordering}
use Rattle.std.specs.declared.cmp.Ordering.TheVariants.{Less, Equal, Greater}
use Rattle.codes.specs.Codes.{pick, chars}
use Rattle.codes.specs.Refusals.{Test, Answer, answer, first, too_long, bad_view, giving, Outcome}
use Rattle.fields.specs.Spans.{Span}
use Rattle.views.specs.Views.{Lent, empty, normal}
use Rattle.codes.specs.declared.refusals.Refusal.{Refusal}

-- −1, 0 or 1
abbrev pub order_number : Ordering → ℤ
order_number Less = negsuc 0
order_number Equal = pos 0
order_number Greater = pos 1

-- the second comes first; at a tie the first does
abbrev pub is_second : Ordering → Bool
is_second Less = false
is_second Equal = false
is_second Greater = true

-- the first differing character decides, by code; else the shorter is first
unfoldable pub compare : List ℕ → List ℕ → Ordering
compare [] [] = Equal
compare [] (y ∷ ys) = Less
compare (x ∷ xs) [] = Greater
compare (x ∷ xs) (y ∷ ys) = pick (ltb x y) Less (pick (ltb y x) Greater (compare xs ys))

-- the count of equal leading characters
unfoldable pub common : List ℕ → List ℕ → ℕ
common [] ys = 0
common (x ∷ xs) [] = 0
common (x ∷ xs) (y ∷ ys) = pick (eqb x y) (suc (common xs ys)) 0

-- whether a pattern stands at the front of a text
unfoldable pub stands : List ℕ → List ℕ → Bool
stands [] ys = true
stands (x ∷ xs) [] = false
stands (x ∷ xs) (y ∷ ys) = eqb x y && stands xs ys

-- a place, one further on
abbrev pub one_on : Option ℕ → Option ℕ
one_on None = None
one_on (Some p) = Some (suc p)

-- the least place where a pattern stands in a text
unfoldable pub place_of : List ℕ → List ℕ → Option ℕ
place_of xs [] = pick (stands xs []) (Some 0) None
place_of xs (y ∷ ys) = pick (stands xs (y ∷ ys)) (Some 0) (one_on (place_of xs ys))

-- whether there is a place, and which; 0 where there is none
abbrev pub placed : Option ℕ → Bool × ℕ
placed None = (false, 0)
placed (Some p) = (true, p)

-- the refusals of two views, of m and n bytes
abbrev pub pair_tests : ℕ → ℕ → ℕ → ℕ → ℕ → ℕ → ℕ → List Test
pair_tests w m ao al n bo bl = too_long m ∷ too_long n ∷ bad_view w m ao al ∷ bad_view w n bo bl ∷ []

module _ (w : ℕ) (xs : List ℕ) (ao al : ℕ) (bs : List ℕ) (bo bl : ℕ) where
  abbrev pub pair_outcome : Outcome
  pair_outcome = first (pair_tests w (length xs) ao al (length bs) bo bl)

  abbrev pub pair_order : Ordering
  pair_order = compare (chars w xs ao al) (chars w bs bo bl)

  -- the order, and the count of equal leading characters
  unfoldable pub compared : Answer (ℤ × ℕ)
  compared = answer pair_outcome (order_number pair_order, common (chars w xs ao al) (chars w bs bo bl)) (pos 0, 0)

  -- the text is the first view, the pattern the second
  unfoldable pub found : Answer (Bool × ℕ)
  found = answer pair_outcome (placed (place_of (chars w bs bo bl) (chars w xs ao al))) (false, 0)

  -- whether the second comes first
  abbrev pub choice : Result Bool Refusal
  choice = giving pair_outcome (is_second pair_order)

-- the normalised part of the view that comes first; where a view is refused, the empty part at the front of the first
unfoldable pub chosen : ℕ → Span → ℕ → ℕ → Span → ℕ → ℕ → Answer Lent
chosen w s ao al t bo bl =
    answer (pair_outcome w s.bytes ao al t.bytes bo bl)
    (pick (is_second (pair_order w s.bytes ao al t.bytes bo bl)) (normal w t bo bl) (normal w s ao al)) (empty s)

-- the offset and the length of a part
abbrev pub numbers_in : Answer Lent → Answer (ℕ × ℕ)
numbers_in x = record { no = x.no; values = (x.values.offset, x.values.len) }
