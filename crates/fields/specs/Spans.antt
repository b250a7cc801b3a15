-- Lent bytes and the parts of them that are handed back: where a part begins, and what it holds.
-- Assumes nothing.
use Rattle.std.specs.Borrow.{Bor}
use Rattle.std.specs.Prelude.{List, ℕ, ◌+◌, ◌-◌, ◌/◌, take, drop}
use Rattle.codes.specs.Codes.{per, up, trailing}

-- lent bytes: their place, which is the memory that they lie in and the first of them there, and the bytes
pub record Span : Type 0 where
  pub place : ℕ × ℕ
  pub bytes : List ℕ

-- what a slice lends
abbrev pub span_of : Bor (List ℕ) → Span
span_of s = record { place = s.ref_ptr; bytes = s.now }

-- the part from byte a up to byte e
abbrev pub part : ℕ → ℕ → Span → Span
part a e s = record { place = (s.place.0, a + s.place.1); bytes = take (e - a) (drop a s.bytes) }

-- the empty part at the front, beside a refusal
abbrev pub front : Span → Span
front s = part 0 0 s

-- what normalising hands back: from byte offset / C8 to byte ceil((offset + length) / C8) + 48
abbrev pub normal_part : ℕ → Span → ℕ → ℕ → Span
normal_part w s o len = part (o / per w) (up w (o + len) + trailing) s
