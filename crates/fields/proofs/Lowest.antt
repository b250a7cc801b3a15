-- If several of a call's tests apply, the lowest number is given, and a number only when its line holds: of each list of tests, by
-- its numbers, which do not descend.
-- Assumes nothing.
use mathlib.Core.List.{List, [], ◌∷◌, ◌++◌}
use mathlib.Core.Path.{refl}
use Prim.Native.Nat.{ℕ}
use lib.ListN.{length}
use Rattle.codes.specs.Refusals.{first, number_of, bad_index, view_tests}
use Rattle.codes.proofs.Lowest.{Lowest, first_lowest}
use Rattle.fields.specs.Fields.{slice_tests, word_tests, got}

module _ (w n o len : ℕ) where
  pub view_lowest : Lowest (number_of (first (view_tests w n o len))) (view_tests w n o len)
  view_lowest = first_lowest (view_tests w n o len) refl

  pub slice_lowest : (start end : ℕ) → Lowest (number_of (first (slice_tests w n o len start end))) (slice_tests w n o len start end)
  slice_lowest start end = first_lowest (slice_tests w n o len start end) refl

  pub view_word_lowest : (least bits : ℕ) → Lowest (number_of (first (word_tests w n o len least bits))) (word_tests w n o len least bits)
  view_word_lowest least bits = first_lowest (word_tests w n o len least bits) refl

pub get_lowest : (w : ℕ) (bs : List ℕ) (o len i : ℕ) → Lowest (got w bs o len i).no (view_tests w (length bs) o len ++ bad_index len i ∷ [])
unfolding got
get_lowest w bs o len i = first_lowest (view_tests w (length bs) o len ++ bad_index len i ∷ []) refl
