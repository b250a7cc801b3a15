-- Codes: characters of w bits in a string of bytes, and what a letter is at each width.
-- Assumes nothing.
use Rattle.std.specs.Prelude.{Bool, true, false, List, [], ◌∷◌, ◌≡◌, ℕ, zero, suc, ◌+◌, ◌-◌, ◌*◌, ◌/◌, ◌%◌, ◌^◌, ◌≤◌, min, ltb, eqb, get_or}
use Rattle.std.specs.Int.Bits.{bit_xor}

-- the first where the test holds, else the second
abbrev pub pick : {A : Type 0} → Bool → A → A → A
pick true a b = a
pick false a b = b

-- C8, the characters that a byte holds: 4 at width 2 and 8 at width 1
abbrev pub per : ℕ → ℕ
per w = 8 / w

-- a width divides a byte, and a byte holds two characters or more
pub record IsWidth (w : ℕ) : Type 0 where
  pub whole : w * per w ≡ 8
  pub small : w ≤ 4

-- ceil(n / C8), the bytes that n characters take
abbrev pub up : ℕ → ℕ → ℕ
up w n = (n + (per w - 1)) / per w

-- the bytes that are lent behind the last character of a view or a store
abbrev pub trailing : ℕ
trailing = 48

-- character i stands in byte i / C8, at bit w * (i mod C8), low bits first
unfoldable pub char_at : ℕ → List ℕ → ℕ → ℕ
char_at w bytes i = get_or bytes (i / per w) 0 / 2 ^ (w * (i % per w)) % 2 ^ w

-- f 0, f 1, .. : n of them
unfoldable pub tab : ℕ → (ℕ → ℕ) → List ℕ
tab zero f = []
tab (suc n) f = f 0 ∷ tab n (λ i. f (suc i))

-- the n characters from character o on
unfoldable pub chars : ℕ → List ℕ → ℕ → ℕ → List ℕ
unfolding char_at tab
chars w bytes o n = tab n (λ i. char_at w bytes (o + i))

-- the letters by their codes: A=0, C=1, T=2, G=3
abbrev pub capitals : List ℕ
capitals = 65 ∷ 67 ∷ 84 ∷ 71 ∷ []

abbrev pub smalls : List ℕ
smalls = 97 ∷ 99 ∷ 116 ∷ 103 ∷ []

-- the place of a byte in a list, or the list's length
abbrev pub place_in : List ℕ → ℕ → ℕ
place_in [] x = 0
place_in (y ∷ ys) x = pick (eqb x y) 0 (suc (place_in ys x))

-- the code of one of the eight letters ACGTacgt, and 4 for any other byte
abbrev pub of_eight : ℕ → ℕ
of_eight x = min (place_in capitals x) (place_in smalls x)

-- a letter, with T for U and t for u
abbrev pub with_t : ℕ → ℕ
with_t x = pick (eqb x 85) 84 (pick (eqb x 117) 116 x)

-- the code of one of the ten letters ACGTUacgtu, where U counts as T, and 4 for any other byte
unfoldable pub strict : ℕ → ℕ
strict x = of_eight (with_t x)

-- the lossy code of any byte
abbrev pub lossy : ℕ → ℕ
lossy x = x / 2 % 4

-- 0 for the ten letters, 1 for every other byte
unfoldable pub flag : ℕ → ℕ
unfolding strict
flag x = pick (ltb (strict x) 4) 0 1

-- what a letter is at a width: its flag at 1, its lossy code at 2
unfoldable pub code : ℕ → ℕ → ℕ
unfolding flag
code w x = pick (eqb w 1) (flag x) (lossy x)

-- the capital letter of a code
abbrev pub letter : ℕ → ℕ
letter c = get_or capitals c 0

-- a base's complement is its code xor 2; a flag has none
abbrev pub complement : ℕ → ℕ → ℕ
complement w c = pick (eqb w 2) (bit_xor c 2) c

-- the letter of the complement of a capital letter's code
abbrev pub complement_letter : ℕ → ℕ
complement_letter x = letter (complement 2 (place_in capitals x))
