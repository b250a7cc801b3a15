-- Counting set flags: a word's ones are its flags that are set.
-- Assumes nothing.
use mathlib.Core.List.{List, [], ◌∷◌, ◌++◌}
use mathlib.Core.Path.{◌≡◌, refl, sym, ap, ◌∙◌}
use Prim.Native.Nat.{ℕ, ◌+◌, ◌*◌, ◌/◌, ◌%◌, ◌^◌, ◌≤◌}
use native.Mathlib.Nat.{one-mul}
use native.Mathlib.Omega.{arith}
use lib.Count.{ones, ones_step}
use lib.ListN.{length}
use Rattle.codes.specs.Codes.{chars}
use Rattle.codes.specs.Words.{word}
use Rattle.codes.proofs.CharLaws.{length-chars, chars-append, chars-fit}
use Rattle.codes.proofs.FieldLaws.{word-chars}
use Rattle.codes.specs.Widths.{width_1}
use Rattle.codes.proofs.WordLaws.{Below}
use Rattle.fields.specs.Flags.{sum, set_flags}

pub sum-append : (a b : List ℕ) → sum (a ++ b) ≡ sum a + sum b
unfolding sum
sum-append [] b = omega arith
sum-append (c ∷ a) b = omega (arith, sum-append a b)

flags_le : (cs : List ℕ) → Below 1 cs → set_flags cs ≤ length cs
unfolding sum
flags_le [] h = omega arith
flags_le (c ∷ cs) h = omega (arith, h.0, flags_le cs h.1)

ones-word : (cs : List ℕ) → Below 1 cs → ones (word 1 cs) ≡ set_flags cs
unfolding sum word ones
ones-word [] h = refl
ones-word (c ∷ cs) h =
    let low : (word 1 cs * 2 ^ 1 + c) % 2 ≡ c = omega (arith, h.0) in
    let high : (word 1 cs * 2 ^ 1 + c) / 2 ≡ word 1 cs = omega (arith, h.0) in
    ones_step (word 1 cs * 2 ^ 1 + c) ∙ omega (arith, ap ones high, ones-word cs h.1)

module _ (flags : List ℕ) where
  -- more flags, from the place where those counted end
  pub flags_more : (o m n : ℕ) → set_flags (chars 1 flags o m) + set_flags (chars 1 flags (o + m) n) ≡ set_flags (chars 1 flags o (m + n))
  flags_more o m n = sym (ap set_flags (chars-append 1 flags o m n) ∙ sum-append (chars 1 flags o m) (chars 1 flags (o + m) n))

  pub flags_few : (at n : ℕ) → set_flags (chars 1 flags at n) ≤ n
  flags_few at n = omega (arith, flags_le (chars 1 flags at n) (chars-fit 1 flags at n), length-chars 1 flags at n)

  -- the ones of the word of a view
  pub ones-flags : Below 8 flags → (x at n : ℕ) → x ≡ word 8 flags / 2 ^ at % 2 ^ n → ones x ≡ set_flags (chars 1 flags at n)
  ones-flags b x at n e = ap ones (e ∙ sym (word-chars width_1 flags b at n ∙ plain)) ∙ ones-word (chars 1 flags at n) (chars-fit 1 flags at n)
    where
      plain : word 8 flags / 2 ^ (1 * at) % 2 ^ (1 * n) ≡ word 8 flags / 2 ^ at % 2 ^ n
      plain = simp one-mul
