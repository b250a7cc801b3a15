-- The laws of blocks: how large the numbers of a file are, and what one block in front of others changes.
-- Assumes nothing.
use mathlib.Core.Bool.{Bool, true, false, ◌&&◌}
use mathlib.Core.List.{List, [], ◌∷◌}
use mathlib.Core.Path.{◌≡◌, refl, sym, ap, ◌∙◌, subst}
use Prim.Native.Nat.{ℕ, suc, ◌+◌, ◌-◌, ◌*◌, ◌^◌, ◌≤◌, ◌<◌, min, max}
use native.Mathlib.Nat.{le_trans, sub-zero}
use native.Mathlib.Omega.{arith}
use lib.ListN.{length, take, drop, length-drop}
use lib.Seq.{length-take-le}
use borrow.Author.Tests.{lt-ltb, le-ltb, le-leb, lt-leb}
use Rattle.codes.specs.Words.{word}
use Rattle.codes.proofs.WidthLaws.{below_or}
use Rattle.codes.proofs.WordLaws.{Below, word_lt, Below-drop}
use Rattle.dna.specs.Numbers.{ordered, number_at}
use Rattle.dna.proofs.NumberLaws.{length-ordered, Below-ordered}
use Rattle.fields.specs.Runs.{Run}
use Rattle.forms.proofs.NumberLaws.{Below-take}
use Rattle.twobit.specs.Blocks.{end, blocks_from, all_inside, clear_of, apart}
use Rattle.twobit.specs.Reading.{block_count, block_at, blocks_at, blocks_end}

-- ---- numbers

-- a number of k bytes has 8 k bits
pub number_at-lt : (big : Bool) (k : ℕ) (file : List ℕ) (at : ℕ) → Below 8 file → at + k ≤ length file → number_at big k file at < 2 ^ (8 * k)
unfolding number_at
number_at-lt big k file at h l =
    subst (λ (n : ℕ). word 8 (ordered big bs) < 2 ^ (8 * n)) (length-ordered big bs ∙ length-take-le k (drop at file) (rw length-drop (omega arith)))
    (word_lt 8 (ordered big bs) (Below-ordered big bs (Below-take 8 k (drop at file) (Below-drop 8 at file h))))
  where
    bs : List ℕ
    bs = take k (drop at file)

-- ---- the blocks of a file

-- a block's first number
pub block_start : (big : Bool) (file : List ℕ) (p i : ℕ) → number_at big 4 file (p + 4 + 4 * i) ≡ (block_at big file p i).start
unfolding block_at
block_start big file p i = refl

module _ (big : Bool) (file : List ℕ) (p n : ℕ) where
  -- the bytes that they take
  pub blocks-room : n ≡ block_count big file p → blocks_end big file p ≤ length file → p + 4 + 8 * n ≤ length file
  unfolding blocks_end
  blocks-room e h = subst (λ (k : ℕ). p + 4 + 8 * k ≤ length file) (sym e) h

  -- its second
  pub block_size : n ≡ block_count big file p → (i : ℕ) → number_at big 4 file (p + 4 + 4 * (n + i)) ≡ (block_at big file p i).size
  unfolding block_at
  block_size e i = ap (λ (k : ℕ). number_at big 4 file (p + 4 + 4 * (k + i))) e

  -- from the first on, they are all
  pub blocks-all : n ≡ block_count big file p → (i : ℕ) → i ≤ 0 → blocks_from (block_at big file p) i (n - i) ≡ blocks_at big file p
  unfolding blocks_at
  blocks-all e i h = let z : i ≡ 0 = omega arith in rw (z, sub-zero n, e)

-- ---- a list of blocks, and one block more in front

-- no block from the end on
blocks-none : (f : ℕ → Run) (n : ℕ) → blocks_from f n (n - n) ≡ []
unfolding blocks_from
blocks-none f n = let e : n - n ≡ 0 = omega arith in rw e

-- the first of some, then the others
blocks-before : (f : ℕ → Run) (i n : ℕ) → i < n → blocks_from f i (n - i) ≡ f i ∷ blocks_from f (i + 1) (n - (i + 1))
unfolding blocks_from
blocks-before f i n h =
    let e : n - i ≡ suc (n - (i + 1)) = omega arith in
    let s : suc i ≡ i + 1 = omega arith in
    ap (blocks_from f i) e ∙ ap (λ (k : ℕ). f i ∷ blocks_from f k (n - (i + 1))) s

-- the same, of a count that goes down
blocks-down : (f : ℕ → Run) (i n : ℕ) → 0 < i → i ≤ n → blocks_from f (i - 1) (n - (i - 1)) ≡ f (i - 1) ∷ blocks_from f i (n - i)
blocks-down f i n h l =
    let e : i - 1 + 1 ≡ i = omega arith in
    blocks-before f (i - 1) n (omega arith) ∙ ap (λ (k : ℕ). f (i - 1) ∷ blocks_from f k (n - k)) e

-- ---- inside

-- none: all inside
pub inside-none : (size : ℕ) (f : ℕ → Run) (n : ℕ) → true ≡ all_inside size (blocks_from f n (n - n))
unfolding all_inside
inside-none size f n = rw (blocks-none f n)

module _ (size : ℕ) (f : ℕ → Run) (i n : ℕ) (l : i < n) where
  -- a block that ends outside
  pub inside-out : size < end (f i) → all_inside size (blocks_from f i (n - i)) ≡ false
  unfolding all_inside
  inside-out k = rw (blocks-before f i n l, lt-leb (end (f i)) size k)

  -- a block that does not
  pub inside-in : end (f i) ≤ size → all_inside size (blocks_from f i (n - i)) ≡ all_inside size (blocks_from f (i + 1) (n - (i + 1)))
  unfolding all_inside
  inside-in k = rw (blocks-before f i n l, le-leb (end (f i)) size k)

-- ---- apart

-- a block that shares nothing with the first of the others
clear-skip : (a b : Run) (bs : List Run) → min (end a) (end b) ≤ max a.start b.start → clear_of a (b ∷ bs) ≡ clear_of a bs
unfolding clear_of
clear-skip a b bs h = rw (le-ltb (max a.start b.start) (min (end a) (end b)) h)

module _ (a : Run) (f : ℕ → Run) where
  -- of none, every block is clear
  pub clear_none : (n : ℕ) → true ≡ clear_of a (blocks_from f n (n - n))
  unfolding clear_of
  clear_none n = rw (blocks-none f n)

  module _ (i n : ℕ) (l : i < n) where
    -- a block that shares a position
    pub clear-hit : max a.start (f i).start < min (end a) (end (f i)) → clear_of a (blocks_from f i (n - i)) ≡ false
    unfolding clear_of
    clear-hit k = rw (blocks-before f i n l, lt-ltb (max a.start (f i).start) (min (end a) (end (f i))) k)

    -- a block that does not
    pub clear-miss : min (end a) (end (f i)) ≤ max a.start (f i).start → clear_of a (blocks_from f i (n - i)) ≡ clear_of a (blocks_from f (i + 1) (n - (i + 1)))
    clear-miss k = rw (blocks-before f i n l) (clear-skip a (f i) (blocks_from f (i + 1) (n - (i + 1))) k)

-- a block without a position shares none
pub clear-empty : (a : Run) (bs : List Run) → a.size ≡ 0 → clear_of a bs ≡ true
unfolding clear_of
clear-empty a [] e = refl
clear-empty a (b ∷ bs) e = clear-skip a b bs (omega arith) ∙ clear-empty a bs e

-- every block with a position lies between `low` and `high`
abbrev pub Between : ℕ → ℕ → List Run → Type 0
Between low high [] = Unit {0}
Between low high (b ∷ bs) = (0 < b.size → (low ≤ b.start) × (end b ≤ high)) × Between low high bs

-- wider bounds serve too
Between-wider : (low high k m : ℕ) (bs : List Run) → k ≤ low → high ≤ m → Between low high bs → Between k m bs
Between-wider low high k m [] l r h = tt
Between-wider low high k m (b ∷ bs) l r h = ((λ p. (le_trans l (h.0 p).0, le_trans (h.0 p).1 r)), Between-wider low high k m bs l r h.1)

-- a block that ends before the others start shares nothing with them, nor does one that starts where they have ended
pub clear-below : (a : Run) (low high : ℕ) (bs : List Run) → end a ≤ low → Between low high bs → clear_of a bs ≡ true
unfolding clear_of
clear-below a low high [] l h = refl
clear-below a low high (b ∷ bs) l h =
    clear-skip a b bs (below_or 0 b.size (λ p. let q : low ≤ b.start = (h.0 p).0 in omega arith) (λ p. omega arith))
    ∙ clear-below a low high bs l h.1

pub clear_above : (a : Run) (low high : ℕ) (bs : List Run) → high ≤ a.start → Between low high bs → clear_of a bs ≡ true
unfolding clear_of
clear_above a low high [] l h = refl
clear_above a low high (b ∷ bs) l h =
    clear-skip a b bs (below_or 0 b.size (λ p. let q : end b ≤ high = (h.0 p).1 in omega arith) (λ p. omega arith))
    ∙ clear_above a low high bs l h.1

-- `&&` with a known right side
and_false : (x : Bool) → x && false ≡ false
and_false false = refl
and_false true = refl

and_true : (x : Bool) → x && true ≡ x
and_true false = refl
and_true true = refl

-- none: no two share a position
pub apart_none : (f : ℕ → Run) (n : ℕ) → true ≡ apart (blocks_from f n (n - n))
unfolding apart
apart_none f n = rw (blocks-none f n)

-- none: any bounds
pub Between-none : (low high : ℕ) (f : ℕ → Run) (n : ℕ) → Between low high (blocks_from f n (n - n))
Between-none low high f n = rw (blocks-none f n) tt

module _ (f : ℕ → Run) (i n : ℕ) (h : 0 < i) (l : i ≤ n) where
  -- the new block is clear of the others
  pub apart-clear : (x : Bool) → clear_of (f (i - 1)) (blocks_from f i (n - i)) ≡ true → x ≡ apart (blocks_from f i (n - i)) → x ≡ apart (blocks_from f (i - 1) (n - (i - 1)))
  unfolding apart
  apart-clear x c e = rw (blocks-down f i n h l, c) e

  -- two of the others share a position
  pub apart-fails : false ≡ apart (blocks_from f i (n - i)) → false ≡ apart (blocks_from f (i - 1) (n - (i - 1)))
  unfolding apart
  apart-fails e = rw (blocks-down f i n h l, ← e) (sym (and_false (clear_of (f (i - 1)) (blocks_from f i (n - i)))))

  -- no two of the others do
  pub apart-first : (x : Bool) → true ≡ apart (blocks_from f i (n - i)) → x ≡ clear_of (f (i - 1)) (blocks_from f (i - 1 + 1) (n - (i - 1 + 1)))
      → x ≡ apart (blocks_from f (i - 1) (n - (i - 1)))
  unfolding apart
  apart-first x e c =
      let k : i - 1 + 1 ≡ i = omega arith in
      rw (blocks-down f i n h l, ← e) (c ∙ ap (λ (j : ℕ). clear_of (f (i - 1)) (blocks_from f j (n - j))) k ∙ sym (and_true (clear_of (f (i - 1)) (blocks_from f i (n - i)))))

  -- the bounds of one block more
  pub Between-next : (low high k m : ℕ) → k ≤ low → high ≤ m → (0 < (f (i - 1)).size → (k ≤ (f (i - 1)).start) × (end (f (i - 1)) ≤ m))
      → Between low high (blocks_from f i (n - i)) → Between k m (blocks_from f (i - 1) (n - (i - 1)))
  Between-next low high k m d u e t = rw (blocks-down f i n h l) (e, Between-wider low high k m (blocks_from f i (n - i)) d u t)
