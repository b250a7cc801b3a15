-- If several of a call's tests apply, the lowest number is given, and a number only when its line holds: of each list of tests, by
-- its numbers, which do not descend. In `entry` the header comes first, since without it no number of sequences is known; behind a good
-- one its tests are such a list.
-- Assumes nothing.
use Rattle.std.specs.Prelude.{Err}
use mathlib.Core.Bool.{Bool, true, false, not}
use mathlib.Core.List.{List, [], ◌∷◌}
use mathlib.Core.Path.{◌≡◌, refl, sym, ap, subst}
use Prim.Native.Nat.{ℕ}
use lib.Dec.{leb, ltb}
use lib.ListN.{length}
use Rattle.codes.specs.Codes.{pick}
use Rattle.codes.specs.Refusals.{Test, first, number_of, Outcome}
use Rattle.codes.specs.declared.refusals.Refusal.TheVariants.{BadForm}
use Rattle.codes.proofs.Lowest.{Lowest, first_lowest}
use Rattle.twobit.specs.Reading.{good_header, is_big, is_two_bit, bad_form, past_last, entry_end, offset_at, bad_record, info_outcome, record_tests, record_outcome}
use Rattle.twobit.specs.Reading.{check_answer, first_answer, entry_outcome}

pub check_lowest : (file : List ℕ) → Lowest (check_answer file).no (bad_form (is_two_bit file) ∷ [])
unfolding check_answer
check_lowest file = first_lowest (bad_form (is_two_bit file) ∷ []) refl

pub first_entry_lowest : (file : List ℕ) → Lowest (first_answer file).no (bad_form (good_header file) ∷ [])
unfolding first_answer
first_entry_lowest file = first_lowest (bad_form (good_header file) ∷ []) refl

module _ (k : ℕ) (file : List ℕ) (number at : ℕ) where
  -- what is judged behind the header
  abbrev behind : List Test
  behind =
      past_last file number ∷ bad_form (leb (entry_end (is_big file) file k at) (length file)) ∷ bad_form (ltb (offset_at (is_big file) file k at) (length file)) ∷ []

  by_header : {b : Bool} → good_header file ≡ b → entry_outcome k file number at ≡ pick (not b) (Err BadForm) (first behind)
  unfolding entry_outcome
  by_header e = ap (λ (b : Bool). pick (not b) (Err BadForm) (first behind)) e

  pub entry_lowest : good_header file ≡ true → Lowest (number_of (entry_outcome k file number at)) behind
  entry_lowest e = subst (λ (o : Outcome). Lowest (number_of o) behind) (sym (by_header e)) (first_lowest behind refl)

  pub entry_header : good_header file ≡ false → entry_outcome k file number at ≡ Err BadForm
  entry_header e = by_header e

pub record_info_lowest : (file : List ℕ) (r : ℕ) → Lowest (number_of (info_outcome file r)) (bad_record file r ∷ [])
unfolding info_outcome
record_info_lowest file r = first_lowest (bad_record file r ∷ []) refl

pub record_lowest : (file : List ℕ) (r : ℕ) (bases flags : List ℕ) → Lowest (number_of (record_outcome file r bases flags)) (record_tests file r (length bases) (length flags))
unfolding record_outcome
record_lowest file r bases flags = first_lowest (record_tests file r (length bases) (length flags)) refl
