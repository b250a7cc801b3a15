-- What lane streams are made of: the numbers of a stream, its refusals, and the eight lanes over a list of characters, with delays.
-- Assumes nothing.
use Rattle.std.specs.Prelude.{◌||◌, List, [], ◌∷◌, ◌++◌, ℕ, suc, ◌+◌, ◌-◌, ◌*◌, ◌/◌, ◌%◌, ◌^◌, ltb, length, get_or, drop}
use Rattle.codes.specs.Codes.{per, pick, tab}
use Rattle.codes.specs.Refusals.{Test, view_tests}
use Rattle.codes.specs.declared.refusals.Refusal.TheVariants.{BadStream}

-- the least multiple of m at or above n
abbrev pub multiple_above : ℕ → ℕ → ℕ
multiple_above m n = (n + (m - 1)) / m * m

-- s = length − c + 1, or 0 if length < c
abbrev pub starts : ℕ → ℕ → ℕ
starts len c = suc len - c

-- n, the least multiple of f * C8 at or above ceil(s / 8)
unfoldable pub lane : ℕ → ℕ → ℕ → ℕ → ℕ
lane w len c f = multiple_above (f * per w) ((starts len c + 7) / 8)

-- padding = 8 n − s
unfoldable pub padding : ℕ → ℕ → ℕ → ℕ → ℕ
unfolding lane
padding w len c f = 8 * lane w len c f - starts len c

-- n + c − 1 steps if length ≥ c, else none
unfoldable pub steps : ℕ → ℕ → ℕ → ℕ → ℕ
unfolding lane
steps w len c f = pick (ltb len c) 0 (lane w len c f + c - 1)

-- context c from 1 to 2^31, factor 1 or 2
abbrev pub bad_shape : ℕ → ℕ → Test
bad_shape c f = (ltb c 1 || ltb (2 ^ 31) c || ltb f 1 || ltb 2 f, BadStream)

-- delays 0 to 2^31, the first at most the second
abbrev pub bad_delays : ℕ → ℕ → Test
bad_delays d e = (ltb (2 ^ 31) d || ltb (2 ^ 31) e || ltb e d, BadStream)

-- the refusals of a stream with delays d and e, over a view of bytes bs, offset o and length len
abbrev pub stream_tests : ℕ → List ℕ → ℕ → ℕ → ℕ → ℕ → ℕ → ℕ → List Test
stream_tests w bs o len c f d e = view_tests w (length bs) o len ++ bad_shape c f ∷ bad_delays d e ∷ []

-- step j gives lane l the character at l n + j, or 0 from the end on; a delay d gives the one at l n + j − d, or 0 if j < d
abbrev pub lane_char : List ℕ → ℕ → ℕ → ℕ → ℕ → ℕ
lane_char cs n d j l = pick (ltb j d) 0 (get_or cs (l * n + (j - d)) 0)

-- the eight lanes of a step
unfoldable pub lanes : List ℕ → ℕ → ℕ → ℕ → List ℕ
lanes cs n d j = tab 8 (lane_char cs n d j)

-- filling writes step j, lane l to entry 8 j + l
abbrev pub lane_entry : List ℕ → ℕ → ℕ → ℕ → ℕ
lane_entry cs n d q = lane_char cs n d (q / 8) (q % 8)

-- later entries stay
unfoldable pub filled : List ℕ → ℕ → ℕ → ℕ → List ℕ → List ℕ
filled cs n d count out = tab (8 * count) (lane_entry cs n d) ++ drop (8 * count) out
