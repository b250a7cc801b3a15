-- A list that is written over another, behind what was written; and a run of zeros behind it.
-- Assumes nothing.
use mathlib.Core.List.{List, [], ◌∷◌, ◌++◌, append_assoc}
use mathlib.Core.Path.{◌≡◌, refl, ◌∙◌}
use Prim.Native.Nat.{ℕ, ◌+◌, ◌≤◌, ◌<◌}
use native.Mathlib.Nat.{not-suc-le-zero}
use lib.ListN.{length, take, drop, set, replicate}
use Rattle.codes.specs.Made.{Made}
use Rattle.codes.proofs.MadeLaws.{made-zeros}
use Rattle.codes.proofs.Turns.{put_on}

-- one element before a list that is written from 1 on
pub head_on : (x : ℕ) (old l : List ℕ) → 0 < length old → set (take 1 old ++ l) 0 x ≡ x ∷ l
head_on x [] l h = absurd (not-suc-le-zero h)
head_on x (y ∷ old) l h = refl

-- t over old, and z zeros behind it
pub zeros_on : (t old : List ℕ) (z : ℕ) {d e : List ℕ} → d ≡ t ++ drop (length t) old → Made (λ j. 0) (length t) (length t + z) d e → length t + z ≤ length d
    → e ≡ t ++ (replicate z 0 ++ drop (length t + z) old)
zeros_on t old z {d} {e} p m l =
    put_on (length t) z t (replicate z 0) old d e refl p (made-zeros (length t) z m l) ∙ append_assoc t (replicate z 0) (drop (length t + z) old)
