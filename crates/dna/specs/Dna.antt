-- The packed bases of a .2bit file: T=0, C=1, A=2, G=3, four to a byte, the first base in the highest bits.
-- Assumes nothing.
use Rattle.std.specs.Prelude.{List, [], ◌∷◌, map, reverse, ℕ, ◌+◌, ◌-◌, ◌*◌, ◌/◌, ◌%◌, ◌^◌, eqb, length, get_or}
use Rattle.codes.specs.Codes.{up, pick, tab}
use Rattle.codes.specs.Words.{word}

-- a code of ours, A=0, C=1, T=2, G=3, as one of theirs, and back: A and T change places
abbrev pub exchanged : ℕ → ℕ
exchanged c = get_or (2 ∷ 1 ∷ 0 ∷ 3 ∷ []) c 0

-- four characters to a byte, the first in the highest bits; spare bits are zero
unfoldable pub high_first : List ℕ → List ℕ
high_first cs = tab (up 2 (length cs)) (λ b. word 2 (reverse (tab 4 (λ k. get_or cs (b * 4 + k) 0))))

-- the bases with T under each set flag
abbrev pub under_t : List ℕ → List ℕ → List ℕ
under_t cs fs = tab (length cs) (λ i. pick (eqb (get_or fs i 0) 0) (get_or cs i 0) 2)

-- the packed bases of a list of bases and a list of flags
unfoldable pub dna : List ℕ → List ℕ → List ℕ
unfolding high_first
dna cs fs = high_first (map exchanged (under_t cs fs))

-- base i, in our code, of the packed bases from byte d on
unfoldable pub base_at : List ℕ → ℕ → ℕ → ℕ
base_at file d i = exchanged (get_or file (d + i / 4) 0 / 2 ^ (2 * (3 - i % 4)) % 4)

-- the bases, code 3 under each flag that f sets
unfoldable pub bases_at : List ℕ → ℕ → ℕ → (ℕ → ℕ) → List ℕ
unfolding base_at
bases_at file d n f = tab n (λ i. pick (eqb (f i) 0) (base_at file d i) 3)
