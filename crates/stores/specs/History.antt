-- Histories: the store that a list of calls leaves, the characters that the calls alone give, and a store that holds characters.
-- Assumes nothing.
use Rattle.std.specs.Prelude.{List, [], ◌∷◌, ◌++◌, ◌≡◌, ℕ, ◌+◌, length, take, drop, replicate}
use Rattle.codes.specs.Codes.{up, trailing, chars}
use Rattle.codes.specs.Words.{packed}
use Rattle.stores.specs.Stores.{Call, Edit, still, from, over, edit, answered, after}

pub record Store : Type 0 where
  pub bytes : List ℕ
  pub len : ℕ

-- a store after one call: its bytes as the call leaves them, its length as the call answers it
abbrev pub step : ℕ → Store → Call → Store
step w s call = record { bytes = after w s.bytes s.len call; len = (answered w (length s.bytes) s.len call).values.2 }

-- a store after a list of calls, the first first
abbrev pub run : ℕ → Store → List Call → Store
run w s [] = s
run w s (c ∷ cs) = run w (step w s c) cs

-- an edit's effect on a list of characters
abbrev pub chars_after : List ℕ → Edit → List ℕ
chars_after h still = h
chars_after h (from at cs) = take at h ++ cs
chars_after h (over at cs) = take at h ++ (cs ++ drop (at + length cs) h)

-- the characters that a list of calls gives on a store of m bytes; it never looks at the buffer
abbrev pub history : ℕ → ℕ → List ℕ → List Call → List ℕ
history w m h [] = h
history w m h (c ∷ cs) = history w m (chars_after h (edit w m (length h) c)) cs

-- a store of m bytes that holds the characters h: they stand packed, unused bits zero, with 48 zero bytes behind
pub record Packed (w m : ℕ) (s : Store) (h : List ℕ) : Type 0 where
  pub length-is : s.len ≡ length h
  pub bytes-are : take (up w (length h)) s.bytes ≡ packed w h
  pub zeros_behind : take trailing (drop (up w (length h)) s.bytes) ≡ replicate trailing 0
  pub chars-are : chars w s.bytes 0 s.len ≡ h
  pub size_kept : length s.bytes ≡ m

-- the flags of a store
abbrev pub flags_of : Store → List ℕ
flags_of s = chars 1 s.bytes 0 s.len
