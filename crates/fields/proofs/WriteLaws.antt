-- Bytes stored behind a run of others, and one after another.
-- Assumes nothing.
use mathlib.Core.List.{List, [], ◌∷◌, ◌++◌}
use mathlib.Core.Path.{◌≡◌, sym, ap, ◌∙◌}
use Prim.Native.Nat.{ℕ, suc, ◌+◌, ◌*◌, ◌/◌, ◌^◌, ◌≤◌, ◌<◌}
use native.Mathlib.Nat.{add-suc, suc-add, add-zero}
use native.Mathlib.Numerals.{add-one}
use native.Mathlib.Omega.{arith}
use lib.ListN.{length, get_or, set}
use lib.Seq.{sets}
use Rattle.codes.specs.Made.{Made}
use Rattle.codes.specs.Words.{chars_of}
use Rattle.codes.proofs.MadeLaws.{made_more, made-to}
use Rattle.codes.proofs.WordLaws.{chars_of-add, length-chars_of}

-- a run grows by what is stored behind it
pub made-sets : {f : ℕ → ℕ} {from j : ℕ} {d e : List ℕ} (vs : List ℕ) → Made f from j d e → from ≤ j → j + length vs ≤ length d
    → ((i : ℕ) → i < length vs → get_or vs i 0 ≡ f (j + i)) → Made f from (j + length vs) d (sets e j vs)
made-sets {j = j} [] z a l h = made-to z (sym (add-zero j))
made-sets {f} {from} {j} {d} {e} (v ∷ vs) z a l h =
    made-to
    (made-sets vs (made-to (made_more z a (omega arith) (h 0 (omega arith) ∙ ap f (add-zero j))) (add-one j)) (omega arith) (omega arith)
    (λ i m. h (suc i) (omega arith) ∙ ap f (add-suc j i ∙ sym (suc-add j i))))
    (suc-add j (length vs) ∙ sym (add-suc j (length vs)))

-- bytes stored one after another are stored together
pub sets-append : (a b d : List ℕ) (i : ℕ) → sets (sets d i a) (i + length a) b ≡ sets d i (a ++ b)
sets-append [] b d i = ap (λ (k : ℕ). sets d k b) (add-zero i)
sets-append (c ∷ a) b d i =
    ap (λ (k : ℕ). sets (sets (set d i c) (suc i) a) k b) (add-suc i (length a) ∙ sym (suc-add i (length a))) ∙ sets-append a b (set d i c) (suc i)

pub sets_more : (d : List ℕ) (at m n x : ℕ) → sets (sets d at (chars_of 8 m x)) (at + m) (chars_of 8 n (x / 2 ^ (8 * m))) ≡ sets d at (chars_of 8 (m + n) x)
sets_more d at m n x =
    ap (λ (k : ℕ). sets (sets d at (chars_of 8 m x)) (at + k) (chars_of 8 n (x / 2 ^ (8 * m)))) (sym (length-chars_of 8 m x))
    ∙ sets-append (chars_of 8 m x) (chars_of 8 n (x / 2 ^ (8 * m))) d at
    ∙ ap (sets d at) (sym (chars_of-add 8 m n x))
