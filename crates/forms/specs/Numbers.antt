-- Numbers in groups of seven bits, low group first, the top bit set on all but the last byte, in shortest form.
-- Assumes nothing.
use Rattle.std.specs.Prelude.{List, [], ◌∷◌, ℕ, zero, suc, ◌+◌, ◌-◌, ◌*◌, ◌/◌, ◌%◌, ◌^◌, ◌<◌, ◌≤◌, ltb, eqb, Option, Some, None}
use Rattle.codes.specs.Codes.{pick}

-- a number in at most k bytes
unfoldable pub spelt : ℕ → ℕ → List ℕ
spelt zero n = []
spelt (suc k) n = pick (ltb n 128) (n ∷ []) ((n % 128 + 128) ∷ spelt k (n / 128))

-- a number that was read, and how many bytes it took
pub record Spelling : Type 0 where
  pub value : ℕ
  pub size : ℕ

-- one group more in front; a rest of 0 is not the shortest form
abbrev pub further : ℕ → Option Spelling → Option Spelling
further b None = None
further b (Some s) = pick (eqb s.value 0) None (Some (record { value = s.value * 128 + (b - 128); size = suc s.size }))

-- a byte that is the last, or a group in front of what was read behind it
abbrev pub led : ℕ → Option Spelling → Option Spelling
led b rest = pick (ltb b 128) (Some (record { value = b; size = 1 })) (further b rest)

-- the number that a string of bytes begins with, in at most k bytes
unfoldable pub spelling : ℕ → List ℕ → Option Spelling
spelling zero bs = None
spelling (suc k) [] = None
spelling (suc k) (b ∷ bs) = led b (spelling k bs)

-- a number of at most k groups
abbrev pub Fits : ℕ → Option Spelling → Type 0
Fits k None = Unit {0}
Fits k (Some s) = (s.value < 2 ^ (7 * k)) × (s.size ≤ k)
