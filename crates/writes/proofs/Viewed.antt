-- Only the characters of a view count: accepted views with equal characters are written out alike.
-- Assumes nothing.
use mathlib.Core.List.{List, [], ◌∷◌, ◌++◌, map}
use mathlib.Core.Path.{◌≡◌}
use Prim.Native.Nat.{ℕ, ◌+◌}
use lib.ListN.{length, drop, replicate}
use Rattle.codes.specs.Codes.{up, trailing, letter}
use Rattle.codes.specs.Refusals.{no_room}
use Rattle.codes.specs.Words.{packed}
use Rattle.codes.proofs.Viewed.{Same, viewed}
use Rattle.fields.specs.Fields.{flipped}
use Rattle.writes.specs.Writes.{unpack_outcome, unpacked_over, flip_outcome, flipped_over}

-- `to_revcomp`: its outcome, and what it writes
pub flip-viewed : {w : ℕ} {bs : List ℕ} {o m : ℕ} {cs : List ℕ} {p n : ℕ} → Same w bs o m cs p n → (out : List ℕ)
    → (flip_outcome w bs o m out ≡ flip_outcome w cs p n out) × (flipped_over w bs o m out ≡ flipped_over w cs p n out)
unfolding flip_outcome flipped_over
flip-viewed {w} s out = (
  viewed s (λ k _. no_room (length out) (up w k + trailing) ∷ []) (λ q k xs. q),
  viewed s (λ k _. []) (λ q k xs. packed w (flipped w xs) ++ (replicate trailing 0 ++ drop (up w k + trailing) out)),
)

-- unpacking: its outcome, and what it writes
pub unpack_viewed : {bs : List ℕ} {o m : ℕ} {cs : List ℕ} {p n : ℕ} → Same 2 bs o m cs p n → (out : List ℕ)
    → (unpack_outcome bs o m out ≡ unpack_outcome cs p n out) × (unpacked_over bs o m out ≡ unpacked_over cs p n out)
unfolding unpack_outcome unpacked_over
unpack_viewed s out = (viewed s (λ k _. no_room (length out) k ∷ []) (λ q k xs. q), viewed s (λ k _. []) (λ q k xs. map letter xs ++ drop k out))
