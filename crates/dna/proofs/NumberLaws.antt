-- Numbers of k bytes in either order: their bytes one by one, and how large they are.
-- Assumes nothing.
use mathlib.Core.Bool.{Bool, true, false}
use mathlib.Core.List.{List, [], ◌∷◌, ◌++◌, reverse, reverse-cons}
use mathlib.Core.Path.{◌≡◌, refl, sym, ap, ◌∙◌, subst}
use Prim.Native.Nat.{ℕ, suc, ◌+◌, ◌-◌, ◌*◌, ◌^◌, ◌≤◌, ◌<◌}
use native.Mathlib.Nat.{lt_of_lt_of_le, min-le_left}
use native.Mathlib.Omega.{arith}
use lib.Pow.{pow_mono}
use lib.ListN.{length, get_or, take, drop, length-reverse, length-drop, length-take, get_or-append, get_or-eq_default}
use lib.Seq.{drop-cons, get_or-take, get_or-drop, length-take-le, get_or-append-add}
use Rattle.dna.specs.Numbers.{ordered}
use Rattle.codes.specs.Words.{word}
use Rattle.codes.proofs.TabLaws.{Below-of, Below-get_or}
use Rattle.codes.proofs.WidthLaws.{below_or}
use Rattle.codes.proofs.WordLaws.{Below, Below-reverse, word_lt}

-- an entry of a list in reverse
pub get_d_reverse : (l : List ℕ) (j : ℕ) → j < length l → get_or (reverse l) j 0 ≡ get_or l (length l - 1 - j) 0
get_d_reverse [] j h = absurd (omega arith)
get_d_reverse (x ∷ l) j h =
    ap (λ (m : List ℕ). get_or m j 0) (reverse-cons x l)
    ∙ below_or j (length l)
    (λ m.
    let e : suc (length l) - 1 - j ≡ suc (length l - 1 - j) = omega arith in
    get_or-append (reverse l) (x ∷ []) 0 j (subst (λ (n : ℕ). j < n) (sym (length-reverse l)) m) ∙ get_d_reverse l j m ∙ ap (λ (n : ℕ). get_or (x ∷ l) n 0) (sym e))
    (λ m.
    let e : j ≡ length (reverse l) + 0 = omega (arith, length-reverse l) in
    let z : suc (length l) - 1 - j ≡ 0 = omega arith in
    ap (λ (n : ℕ). get_or (reverse l ++ (x ∷ [])) n 0) e ∙ get_or-append-add (reverse l) (x ∷ []) 0 0 ∙ ap (λ (n : ℕ). get_or (x ∷ l) n 0) (sym z))

pub length-ordered : (big : Bool) (l : List ℕ) → length (ordered big l) ≡ length l
length-ordered false l = refl
length-ordered true l = length-reverse l

pub Below-ordered : (big : Bool) (l : List ℕ) → Below 8 l → Below 8 (ordered big l)
Below-ordered false l h = h
Below-ordered true l h = Below-reverse 8 l h

module _ (file : List ℕ) (at k : ℕ) (l : at + k ≤ length file) where
  -- the bytes that a number takes
  pub length_part : length (take k (drop at file)) ≡ k
  length_part = length-take-le k (drop at file) (omega (arith, length-drop at file))

  get_d_part : (j : ℕ) → j < k → get_or (take k (drop at file)) j 0 ≡ get_or file (at + j) 0
  get_d_part j h = get_or-take k (drop at file) j 0 h ∙ get_or-drop at file j 0

  pub byte_little : (j : ℕ) → j < k → get_or (ordered false (take k (drop at file))) j 0 ≡ get_or file (at + j) 0
  byte_little j h = get_d_part j h

  pub byte_big : (j : ℕ) → j < k → get_or (ordered true (take k (drop at file))) j 0 ≡ get_or file (at + (k - 1 - j)) 0
  byte_big j h =
      get_d_reverse (take k (drop at file)) j (subst (λ (n : ℕ). j < n) (sym length_part) h)
      ∙ ap (λ (n : ℕ). get_or (take k (drop at file)) (n - 1 - j) 0) length_part
      ∙ get_d_part (k - 1 - j) (omega arith)

-- one byte more below those from byte j on
pub number_turn : (s : List ℕ) (j : ℕ) → 0 < j → j ≤ length s → word 8 (drop j s) * 256 + get_or s (j - 1) 0 ≡ word 8 (drop (j - 1) s)
unfolding word
number_turn s j p l =
    let e : j ≡ suc (j - 1) = omega arith in
    ap (λ (n : ℕ). word 8 (drop n s) * 256 + get_or s (j - 1) 0) e ∙ sym (ap (word 8) (drop-cons s (j - 1) 0 (omega arith)))

-- the bytes of a file from byte `at` on, and of a number there, are bytes
pub Below-part : (big : Bool) (k : ℕ) (file : List ℕ) (at : ℕ) → ((i : ℕ) → get_or file i 0 < 256) → Below 8 (ordered big (take k (drop at file)))
Below-part big k file at h = Below-ordered big (take k (drop at file)) (Below-of 8 (take k (drop at file)) each)
  where
    each : (i : ℕ) → get_or (take k (drop at file)) i 0 < 2 ^ 8
    each i =
        below_or i k (λ l. subst (λ (x : ℕ). x < 256) (sym (get_or-take k (drop at file) i 0 l ∙ get_or-drop at file i 0)) (h (at + i)))
        (λ l. subst (λ (x : ℕ). x < 256) (sym (get_or-eq_default (take k (drop at file)) 0 (omega (arith, length-take k (drop at file), min-le_left k (length (drop at file)))))) (omega arith))

-- what m bytes of a number hold
pub number_small : (s : List ℕ) → Below 8 s → (j m : ℕ) → length s ≤ j + m → word 8 (drop j s) < 2 ^ (8 * m)
number_small s b j m l =
    lt_of_lt_of_le (word_lt 8 (drop j s) (Below-of 8 (drop j s) (λ i. subst (λ (x : ℕ). x < 2 ^ 8) (sym (get_or-drop j s i 0)) (Below-get_or 8 s b (j + i)))))
    (pow_mono (omega (arith, length-drop j s)))
