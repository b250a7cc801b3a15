-- How a run is made, byte by byte: a byte made anew, a byte of letters alone, and where a view stands.
-- Assumes nothing.
use Rattle.std.specs.Prelude.{List, ◌≡◌, ℕ, ◌+◌, ◌*◌, ◌/◌, ◌%◌, ◌^◌, ◌≤◌, get_or}
use Rattle.codes.specs.Codes.{per, tab, code, up}
use Rattle.codes.specs.Words.{word}
use Rattle.runs.specs.Runs.{seq_start, seq_chars, splice}
use Rattle.runs.specs.declared.inner.seqs.Place.{Place}

-- character k of a byte made anew, at place i: `splice` over the old byte's own
unfoldable pub fresh_char : ℕ → ℕ → ℕ → List ℕ → ℕ → ℕ → ℕ → ℕ
fresh_char w old at cs stop i k = splice (λ j. old / 2 ^ (w * k) % 2 ^ w) at cs stop i

-- byte b made anew of the old one
unfoldable pub fresh_byte : ℕ → ℕ → ℕ → List ℕ → ℕ → ℕ → ℕ
fresh_byte w old at cs stop b = word w (tab (per w) (λ k. fresh_char w old at cs stop (b * per w + k) k))

-- byte b of d made anew
abbrev pub anew : ℕ → List ℕ → ℕ → List ℕ → ℕ → ℕ → ℕ
anew w d at cs stop b = fresh_byte w (get_or d b 0) at cs stop b

-- the number of n letters' codes from letter i on
unfoldable pub letters_word : ℕ → ℕ → List ℕ → ℕ → ℕ
letters_word w n letters i = word w (tab n (λ k. code w (get_or letters (i + k) 0)))

-- a view of k bytes: its n characters from o on go to `start`, behind len characters
pub record Placed (w len start o n k : ℕ) : Type 0 where
  pub starts : start ≡ seq_start w len o
  pub small : k ≤ 2 ^ 28
  pub inside : o + n ≤ k * per w

-- the characters of a view at its place, its gap before them
abbrev pub placed_chars : ℕ → Place → List ℕ → List ℕ
placed_chars w p bs = seq_chars w p.len bs p.offset p.count

-- the end of the byte of the last of them
abbrev pub placed_stop : ℕ → Place → ℕ
placed_stop w p = up w (p.start + p.count) * per w
