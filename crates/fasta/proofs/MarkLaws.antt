-- The marks of the line feeds in a word of eight bytes: how they are made, and that the lowest is where the line ends.
-- Assumes nothing.
use Rattle.std.proofs.Common.{◌≡◌, ℕ, zero, suc, ◌+◌, ◌-◌, ◌*◌, ◌/◌, ◌%◌, ◌^◌, ◌<◌, ◌≤◌, List, [], ◌∷◌, map, length, get_or, sym, refl, ap, ◌∙◌, ap₂, add-zero, zero-add, mul-one, arith, lit<, eq-eqb, ne_eqb}
use native.Mathlib.Decide.{ℕ_discrete}
use lib.Bits.{bit_and, bit_or, bit_xor, shifted_half, shifted_even}
use lib.Count.{count_trailing_zeros, under, trailing_of_zero}
use Rattle.codes.specs.Codes.{tab}
use Rattle.codes.specs.Words.{word, chars_of}
use Rattle.codes.proofs.Net.{rep}
use Rattle.codes.proofs.WidthLaws.{below_or}
use Rattle.codes.proofs.WordLaws.{Below, length-chars_of}
use Rattle.fields.proofs.LoadLaws.{loaded_char}
use Rattle.runs.proofs.BytewiseLaws.{Small, each-self, each-rep, each_word, each_and, each_or, each_xor, each-add, each-as}
use Rattle.fasta.specs.Steps.{line_end, feed_mark}
use Rattle.fasta.proofs.LineLaws.{line_end-is, line_end_lem}

-- what the code makes of a byte b, with a word m of the byte that is looked for
abbrev differs : ℕ → ℕ → ℕ
differs m b = bit_xor b (m % 2 ^ 8)

abbrev carried : ℕ → ℕ → ℕ
carried m b = bit_and (differs m b) 127 + 127

abbrev marked : ℕ → ℕ → ℕ
marked m b = bit_xor (bit_and (bit_or (carried m b) (differs m b)) 128) 128

-- what it makes of eight is made byte by byte; that m has eight equal bytes, that no sum leaves its byte and that this is the mark are computed tests
pub marks_made : (x m : ℕ) → x < 2 ^ 64 → m ≡ rep 8 (m % 2 ^ 8) 8 → Small (carried m) → tab 256 (marked m) ≡ tab 256 feed_mark
    → bit_xor (bit_and (bit_or (bit_and (bit_xor x m) (rep 8 127 8) + rep 8 127 8) (bit_xor x m)) (rep 8 128 8)) (rep 8 128 8) ≡ word 8 (map feed_mark (chars_of 8 8 x))
marks_made x m fits alike small test =
    let other = each_xor (each-self fits) (each_word m alike) in
    let sums = each-add (each_and other (each-rep 127 (lit< tt))) (each-rep 127 (lit< tt)) small in
    each-as (each_xor (each_and (each_or sums other) (each-rep 128 (lit< tt))) (each-rep 128 (lit< tt))) feed_mark test

-- the zeros below a number that is shifted up by j
zeros_shifted : (j k n : ℕ) → count_trailing_zeros (j + k) (n * 2 ^ j) ≡ j + count_trailing_zeros k n
unfolding count_trailing_zeros
zeros_shifted zero k n = ap₂ count_trailing_zeros (zero-add k) (mul-one n) ∙ sym (zero-add (count_trailing_zeros k n))
zeros_shifted (suc j) k n =
    let s : suc j + k ≡ suc (j + k) = omega arith in
    ap (λ (m : ℕ). count_trailing_zeros m (n * 2 ^ suc j)) s
    ∙ ap₂ (λ (d m : ℕ). under d (count_trailing_zeros (j + k) m)) (shifted_even n j) (shifted_half n j)
    ∙ ap suc (zeros_shifted j k n)
    ∙ omega arith

-- the first of n + 1 bytes is marked, or it is not
zeros_marked : (n v : ℕ) → count_trailing_zeros (8 * suc n) (v * 2 ^ 8 + 128) ≡ 7
unfolding count_trailing_zeros
zeros_marked n v =
    let l : 8 * suc n ≡ 7 + suc (8 * n) = omega arith in
    let e : v * 2 ^ 8 + 128 ≡ (v * 2 + 1) * 2 ^ 7 = omega arith in
    let odd : (v * 2 + 1) % 2 ≡ 1 = omega arith in
    ap₂ count_trailing_zeros l e
    ∙ zeros_shifted 7 (suc (8 * n)) (v * 2 + 1)
    ∙ ap (λ (d : ℕ). 7 + under d (count_trailing_zeros (8 * n) ((v * 2 + 1) / 2))) odd

zeros_unmarked : (n v : ℕ) → count_trailing_zeros (8 * suc n) (v * 2 ^ 8 + 0) ≡ 8 + count_trailing_zeros (8 * n) v
zeros_unmarked n v =
    let l : 8 * suc n ≡ 8 + 8 * n = omega arith in
    ap₂ count_trailing_zeros l (add-zero (v * 2 ^ 8)) ∙ zeros_shifted 8 (8 * n) v

zeros_end : (cs : List ℕ) → count_trailing_zeros (8 * length cs) (word 8 (map feed_mark cs)) / 8 ≡ line_end cs
unfolding word line_end count_trailing_zeros
zeros_end [] = refl
zeros_end (c ∷ cs) =
    let v : ℕ = word 8 (map feed_mark cs) in
    elim (ℕ_discrete c 10) [
      | yes e ↦ rw (eq-eqb c 10 e) (ap (λ (t : ℕ). t / 8) (zeros_marked (length cs) v))
      | no n ↦ rw (ne_eqb c 10 n) (ap (λ (t : ℕ). t / 8) (zeros_unmarked (length cs) v) ∙ omega (arith, zeros_end cs))
    ]

-- without a line feed there is no mark
unmarked : (cs : List ℕ) → line_end cs ≡ length cs → word 8 (map feed_mark cs) ≡ 0
unfolding word line_end
unmarked [] h = refl
unmarked (c ∷ cs) h =
    elim (ℕ_discrete c 10) [
      | yes e ↦ absurd (omega (arith, rw (eq-eqb c 10 e) at h))
      | no n ↦ rw (ne_eqb c 10 n) (ap (λ (v : ℕ). v * 2 ^ 8 + 0) (unmarked cs (omega (arith, rw (ne_eqb c 10 n) at h))))
    ]

-- the marks z of the eight bytes of a part from byte i on, with no line feed before them
module _ (part : List ℕ) (b : Below 8 part) (i x z : ℕ) (ex : x ≡ word 8 part / 2 ^ (8 * i) % 2 ^ 64) (ez : z ≡ word 8 (map feed_mark (chars_of 8 8 x)))
    (before : (k : ℕ) → k < i → get_or part k 0 ≡ 10 → ⊥) where
  abbrev eight : List ℕ
  eight = chars_of 8 8 x

  end_is : count_trailing_zeros 64 z / 8 ≡ line_end eight
  end_is = ap (λ (n : ℕ). count_trailing_zeros 64 n / 8) ez ∙ ap (λ (n : ℕ). count_trailing_zeros (8 * n) (word 8 (map feed_mark eight)) / 8) (sym (length-chars_of 8 8 x)) ∙ zeros_end eight

  passed : (k : ℕ) → k < i + line_end eight → get_or part k 0 ≡ 10 → ⊥
  passed k l e =
      below_or k i (λ h. before k h e)
      (λ h.
      let s : i + (k - i) ≡ k = omega arith in
      (line_end_lem eight).before (k - i) (omega arith)
      (loaded_char part b i x ex (k - i) (omega (arith, (line_end_lem eight).inside, length-chars_of 8 8 x)) ∙ ap (λ (n : ℕ). get_or part n 0) s ∙ e))

  -- none is marked: no line feed among them
  pub none_marked : z ≡ 0 → (k : ℕ) → k < i + 8 → get_or part k 0 ≡ 10 → ⊥
  none_marked e k l =
      let all : line_end eight ≡ 8 = sym end_is ∙ ap (λ (n : ℕ). count_trailing_zeros 64 n / 8) e ∙ ap (λ (n : ℕ). n / 8) (trailing_of_zero 64) in
      passed k (omega arith)

  -- the lowest mark is the end of the line
  pub lowest_marked : i + 8 ≤ length part → (z ≡ 0 → ⊥) → i + count_trailing_zeros 64 z / 8 ≡ line_end part
  lowest_marked l n =
      let size : length eight ≡ 8 = length-chars_of 8 8 x in
      let within : line_end eight < length eight = below_or (line_end eight) (length eight) (λ h. h) (λ h. absurd (n (ez ∙ unmarked eight (omega (arith, (line_end_lem eight).inside))))) in
      ap (λ (m : ℕ). i + m) end_is
      ∙ line_end-is part (i + line_end eight) record {
        inside = omega arith;
        before = passed;
        found = λ _. sym (loaded_char part b i x ex (line_end eight) (omega arith)) ∙ (line_end_lem eight).found within;
      }
