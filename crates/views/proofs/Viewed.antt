-- Only the characters of a view count: accepted views with equal characters get equal answers, call by call. Each answer is made of
-- the outcome, the length and the characters alone.
-- Assumes nothing.
use mathlib.Core.List.{List, [], ◌∷◌}
use mathlib.Core.Path.{◌≡◌}
use Prim.Native.Nat.{ℕ, ◌+◌, ◌-◌, ◌/◌}
use lib.ListN.{get_or}
use Rattle.codes.specs.Answers.{halves}
use Rattle.codes.specs.Refusals.{answer, bad_index, bad_end, bad_start, bad_word}
use Rattle.codes.specs.Words.{word}
use Rattle.codes.proofs.Viewed.{Same, viewed}
use Rattle.fields.specs.Fields.{got, as_u64, as_u128, flipped, flipped_as_u64, flipped_as_u128}
use Rattle.views.specs.Views.{got_sliced}

module _ {w : ℕ} {bs : List ℕ} {o m : ℕ} {cs : List ℕ} {p n : ℕ} (s : Same w bs o m cs p n) where
  pub got-viewed : (i : ℕ) → got w bs o m i ≡ got w cs p n i
  unfolding got
  got-viewed i = viewed s (λ k _. bad_index k i ∷ []) (λ q k xs. answer q (get_or xs i 0) 0)

  pub got_sliced-viewed : (start end i : ℕ) → got_sliced w bs o m start end i ≡ got_sliced w cs p n start end i
  unfolding got_sliced
  got_sliced-viewed start end i = viewed s (λ k _. bad_end k end ∷ bad_start start end ∷ bad_index (end - start) i ∷ []) (λ q k xs. answer q (get_or xs (start + i) 0) 0)

  pub as_u64-viewed : as_u64 w bs o m ≡ as_u64 w cs p n
  unfolding as_u64
  as_u64-viewed = viewed s (λ k _. bad_word 0 (64 / w) k ∷ []) (λ q k xs. answer q (word w xs) 0)

  pub as_u128-viewed : as_u128 w bs o m ≡ as_u128 w cs p n
  unfolding as_u128
  as_u128-viewed = viewed s (λ k _. bad_word 0 (128 / w) k ∷ []) (λ q k xs. answer q (halves (word w xs)) (0, 0))

  pub flipped_as_u64-viewed : flipped_as_u64 w bs o m ≡ flipped_as_u64 w cs p n
  unfolding flipped_as_u64
  flipped_as_u64-viewed = viewed s (λ k _. bad_word 1 (64 / w) k ∷ []) (λ q k xs. answer q (word w (flipped w xs)) 0)

  pub flipped_as_u128-viewed : flipped_as_u128 w bs o m ≡ flipped_as_u128 w cs p n
  unfolding flipped_as_u128
  flipped_as_u128-viewed = viewed s (λ k _. bad_word 1 (128 / w) k ∷ []) (λ q k xs. answer q (halves (word w (flipped w xs))) (0, 0))
