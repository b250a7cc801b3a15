-- Words: a list of characters of w bits each as one number, the first character lowest.
-- Assumes nothing.
use Rattle.std.specs.Prelude.{List, [], ◌∷◌, map, reverse, ℕ, zero, suc, ◌+◌, ◌*◌, ◌/◌, ◌%◌, ◌^◌, length, get_or}
use Rattle.codes.specs.Codes.{per, up, tab}

-- the word of a list of characters: character i is at bit w * i
unfoldable pub word : ℕ → List ℕ → ℕ
word w [] = 0
word w (c ∷ cs) = word w cs * 2 ^ w + c

-- the k low characters of a word
unfoldable pub chars_of : ℕ → ℕ → ℕ → List ℕ
chars_of w zero x = []
chars_of w (suc k) x = x % 2 ^ w ∷ chars_of w k (x / 2 ^ w)

-- the word of the k low characters of x in reverse, each through f
unfoldable pub flip : ℕ → (ℕ → ℕ) → ℕ → ℕ → ℕ
unfolding word chars_of
flip w f k x = word w (reverse (map f (chars_of w k x)))

-- each character as it is
abbrev pub same : ℕ → ℕ
same c = c

-- a byte is the word of its characters: the n bytes whose character i is f i
unfoldable pub pack : ℕ → ℕ → (ℕ → ℕ) → List ℕ
unfolding tab word
pack w n f = tab n (λ b. word w (tab (per w) (λ k. f (b * per w + k))))

-- the bytes of a list of characters, unused bits zero
unfoldable pub packed : ℕ → List ℕ → List ℕ
unfolding pack
packed w cs = pack w (up w (length cs)) (λ i. get_or cs i 0)
