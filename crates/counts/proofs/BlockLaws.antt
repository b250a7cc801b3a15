-- The laws of blocks: a block of a track by its characters, which blocks a range meets, and entries counted afresh.
-- Assumes nothing.
use mathlib.Core.Bool.{Bool, true, false}
use mathlib.Core.List.{List}
use mathlib.Core.Path.{◌≡◌, refl, sym, ap, ◌∙◌}
use Prim.Native.Nat.{ℕ, ◌+◌, ◌-◌, ◌*◌, ◌/◌, ◌≤◌, ◌<◌, min, max}
use native.Mathlib.Nat.{zero-add}
use native.Mathlib.Omega.{arith}
use borrow.Author.Tests.{lt-ltb, le-ltb, ltb-true, ltb-false}
use lib.ListN.{length, get_or}
use lib.Seq.{ext_get_or}
use Rattle.codes.specs.Codes.{chars}
use Rattle.codes.specs.Made.{Made}
use Rattle.codes.proofs.CharLaws.{chars-slice}
use Rattle.codes.proofs.TabLaws.{length-tab, get_or-tab}
use Rattle.codes.proofs.WidthLaws.{below_or}
use Rattle.fields.specs.Flags.{set_flags}
use Rattle.counts.specs.Blocks.{size, blocks, block, meets, recounted}

-- block b of a track of len characters
pub block-chars : (bs : List ℕ) (len b : ℕ) → block (chars 1 bs 0 len) b ≡ chars 1 bs (b * size) (min (b * size + size) len - b * size)
block-chars bs len b = chars-slice 1 bs 0 len (b * size) (b * size + size) ∙ ap (λ (o : ℕ). chars 1 bs o (min (b * size + size) len - b * size)) (zero-add (b * size))

-- a test that does not fail holds, and one that does not hold fails
is_true : (t : Bool) → (t ≡ false → ⊥) → t ≡ true
is_true true h = refl
is_true false h = absurd (h refl)

is_false : (t : Bool) → (t ≡ true → ⊥) → t ≡ false
is_false true h = absurd (h refl)
is_false false h = refl

-- a block that has a character of a range, and one that has none
pub meets-yes : (start end b : ℕ) → start < end → start / size ≤ b → b < blocks end → meets (start, end) b ≡ true
meets-yes start end b h l k = is_true _ (λ e. omega (arith, ltb-false))

pub meets-before : (start end b : ℕ) → b < start / size → meets (start, end) b ≡ false
meets-before start end b h = is_false _ (λ e. omega (arith, ltb-true))

pub meets-behind : (start end b : ℕ) → blocks end ≤ b → meets (start, end) b ≡ false
meets-behind start end b h = is_false _ (λ e. omega (arith, ltb-true))

pub meets-none : (start end b : ℕ) → end ≤ start → meets (start, end) b ≡ false
meets-none start end b h = is_false _ (λ e. omega (arith, ltb-true))

pub meets-no : (range : ℕ × ℕ) (b : ℕ) → meets range b ≡ false → min range.1 (b * size + size) ≤ max range.0 (b * size)
meets-no range b e = omega (arith, ltb-false)

module _ (entries : List ℕ) (range : ℕ × ℕ) (flags : List ℕ) where
  pub recounted-length : length (recounted entries range flags) ≡ length entries
  unfolding recounted
  recounted-length = length-tab (length entries) _

  -- an entry that is counted afresh
  pub entry_fresh : (b : ℕ) → b < length entries → b < blocks (length flags) → meets range b ≡ true → get_or (recounted entries range flags) b 0 ≡ set_flags (block flags b)
  unfolding recounted
  entry_fresh b l k m = get_or-tab (length entries) _ b l ∙ rw (lt-ltb b (blocks (length flags)) k, m) (omega arith)

  -- an entry that keeps its number
  pub entry_kept : (b : ℕ) → b < length entries → (b < blocks (length flags) → meets range b ≡ false) → get_or (recounted entries range flags) b 0 ≡ get_or entries b 0
  unfolding recounted
  entry_kept b l h =
      get_or-tab (length entries) _ b l
      ∙ below_or b (blocks (length flags)) (λ k. rw (lt-ltb b (blocks (length flags)) k, h k) (omega arith)) (λ k. rw (le-ltb b (blocks (length flags)) k) (omega arith))

-- where no character is touched every entry stays
pub recounted-none : (entries : List ℕ) (start end : ℕ) (flags : List ℕ) → end ≤ start → entries ≡ recounted entries (start, end) flags
recounted-none entries start end flags h =
    ext_get_or 0 entries (recounted entries (start, end) flags) (sym (recounted-length entries (start, end) flags))
    (λ b l. sym (entry_kept entries (start, end) flags b l (λ k. meets-none start end b h)))

-- nor where no flags are left
pub recounted-empty : (entries : List ℕ) (range : ℕ × ℕ) (flags : List ℕ) → length flags ≡ 0 → entries ≡ recounted entries range flags
recounted-empty entries range flags z =
    ext_get_or 0 entries (recounted entries range flags) (sym (recounted-length entries range flags))
    (λ b l. sym (entry_kept entries range flags b l (λ k. absurd (omega arith))))

-- a run of entries counted afresh
pub recounted-made : (entries : List ℕ) (start end : ℕ) (flags e : List ℕ) → start < end
    → Made (λ b. set_flags (block flags b)) (start / size) (min (blocks end) (blocks (length flags))) entries e → blocks (length flags) ≤ length entries
    → e ≡ recounted entries (start, end) flags
recounted-made entries start end flags e h z n =
    ext_get_or 0 e (recounted entries (start, end) flags) (z.long ∙ sym (recounted-length entries (start, end) flags))
    (λ b l.
    let l' : b < length entries = omega (arith, z.long) in
    below_or b (start / size)
    (λ k. z.below b k ∙ sym (entry_kept entries (start, end) flags b l' (λ j. meets-before start end b k)))
    (λ k.
    below_or b (min (blocks end) (blocks (length flags)))
    (λ j. z.new b k j ∙ sym (entry_fresh entries (start, end) flags b l' (omega arith) (meets-yes start end b h k (omega arith))))
    (λ j. z.above b j ∙ sym (entry_kept entries (start, end) flags b l' (λ i. meets-behind start end b (omega arith))))))
