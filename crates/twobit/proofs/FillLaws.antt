-- A store of flags that were cleared and then set under blocks: byte by byte it is the packing of the flags, and 48 zeros.
-- Assumes nothing.
use mathlib.Core.Bool.{Bool, true, false, ◌&&◌, ◌||◌}
use mathlib.Core.List.{List, [], ◌∷◌, ◌++◌, append_assoc}
use mathlib.Core.Path.{◌≡◌, refl, sym, ap, ap₂, ◌∙◌, subst}
use Prim.Native.Nat.{ℕ, zero, suc, ◌+◌, ◌-◌, ◌*◌, ◌/◌, ◌%◌, ◌^◌, ◌≤◌, ◌<◌}
use native.Mathlib.Nat.{zero-div, lt_of_lt_of_le, div-lt_iff_lt-mul}
use native.Mathlib.Omega.{arith}
use borrow.Author.Tests.{leb-true, le-ltb}
use lib.Dec.{leb, ltb, eqb}
use lib.ListN.{length, get_or, drop, replicate, get_or-append, get_or-eq_default}
use Rattle.codes.specs.Codes.{per, up, trailing, pick, char_at, tab, IsWidth}
use Rattle.codes.specs.Made.{Made}
use Rattle.codes.specs.Words.{word, pack, packed}
use Rattle.codes.proofs.CharLaws.{char_at-at, byte_char_at, length-pack, char_at-pack}
use Rattle.codes.proofs.MadeLaws.{made-is}
use Rattle.codes.proofs.TabLaws.{length-tab, get_or-tab, tab-ext, tab-append, Below-tab, Below-get_or}
use Rattle.codes.specs.Widths.{width_1}
use Rattle.codes.proofs.WidthLaws.{per_pos, up-hi, up_above, below_or}
use Rattle.codes.proofs.RefusalLaws.{both}
use Rattle.dna.specs.Dna.{base_at, bases_at}
use Rattle.dna.specs.Flags.{Marked}
use Rattle.fields.specs.Runs.{Run}
use Rattle.forms.specs.Reading.{filled_with}
use Rattle.twobit.specs.Blocks.{end, blocks_from, all_inside, under, flag_under}
use Rattle.twobit.specs.Reading.{block_count, block_at, blocks_at}

-- positions behind the sequence lie under no block
under-outside : (size q : ℕ) (bs : List Run) → all_inside size bs ≡ true → size ≤ q → under bs q ≡ false
unfolding all_inside under
under-outside size q [] h l = refl
under-outside size q (b ∷ bs) h l =
    let e : ltb q (end b) ≡ false = le-ltb q (end b) (omega (arith, leb-true (end b) size (both _ _ h).0)) in
    ap₂ (λ (x y : Bool). (leb b.start q && x) || y) e (under-outside size q bs (both (leb (end b) size) (all_inside size bs) h).1 l) ∙ none (leb b.start q)
  where
    none : (x : Bool) → ((x && false) || false) ≡ false
    none true = refl
    none false = refl

-- block i of some that end within the sequence
inside-at : (size : ℕ) (f : ℕ → Run) (j n i : ℕ) → all_inside size (blocks_from f j n) ≡ true → i < n → end (f (j + i)) ≤ size
unfolding all_inside blocks_from
inside-at size f j zero i h l = absurd (omega arith)
inside-at size f j (suc n) zero h l =
    let e : j + 0 ≡ j = omega arith in
    leb-true (end (f (j + 0))) size (ap (λ (k : ℕ). leb (end (f k)) size) e ∙ (both (leb (end (f j)) size) (all_inside size (blocks_from f (suc j) n)) h).0)
inside-at size f j (suc n) (suc i) h l =
    let e : suc j + i ≡ j + suc i = omega arith in
    subst (λ (k : ℕ). end (f k) ≤ size) e (inside-at size f (suc j) n i (both (leb (end (f j)) size) (all_inside size (blocks_from f (suc j) n)) h).1 (omega arith))

pub block_inside : (big : Bool) (file : List ℕ) (p n size i : ℕ) → n ≡ block_count big file p → all_inside size (blocks_at big file p) ≡ true → i < n → end (block_at big file p i) ≤ size
unfolding blocks_at
block_inside big file p n size i e h l =
    let z : 0 + i ≡ i = omega arith in
    subst (λ (k : ℕ). end (block_at big file p k) ≤ size) z (inside-at size (block_at big file p) 0 (block_count big file p) i h (omega (arith, e)))

-- one block more in front, whose flags are set behind the others
pub mark_turn : (f : ℕ → Run) (n i : ℕ) (z d e : List ℕ) → 0 < i → i ≤ n → ((q : ℕ) → char_at 1 d q ≡ pick (under (blocks_from f i (n - i)) q) 1 (char_at 1 z q))
    → Marked (f (i - 1)).start (end (f (i - 1))) d e → (q : ℕ) → char_at 1 e q ≡ pick (under (blocks_from f (i - 1) (n - (i - 1))) q) 1 (char_at 1 z q)
unfolding under blocks_from
mark_turn f n i z d e a b h m q =
    m.flag q
    ∙ ap (pick here 1) (h q)
    ∙ either here (under (blocks_from f i (n - i)) q) (char_at 1 z q)
    ∙ ap (λ (l : List Run). pick (under l q) 1 (char_at 1 z q)) (sym split)
  where
    here : Bool
    here = leb (f (i - 1)).start q && ltb q (end (f (i - 1)))

    either : (x y : Bool) (v : ℕ) → pick x 1 (pick y 1 v) ≡ pick (x || y) 1 v
    either true y v = refl
    either false y v = refl

    split : blocks_from f (i - 1) (n - (i - 1)) ≡ f (i - 1) ∷ blocks_from f i (n - i)
    split =
        let c : n - (i - 1) ≡ suc (n - i) = omega arith in
        let s : suc (i - 1) ≡ i = omega arith in
        ap (blocks_from f (i - 1)) c ∙ ap (λ (j : ℕ). f (i - 1) ∷ blocks_from f j (n - i)) s

-- none yet
pub mark_none : (f : ℕ → Run) (n : ℕ) (z : List ℕ) (q : ℕ) → char_at 1 z q ≡ pick (under (blocks_from f n (n - n)) q) 1 (char_at 1 z q)
unfolding under blocks_from
mark_none f n z q = let e : n - n ≡ 0 = omega arith in sym (ap (λ (m : ℕ). pick (under (blocks_from f n m) q) 1 (char_at 1 z q)) e)

-- zeros
tab-zeros : (n : ℕ) (f : ℕ → ℕ) → ((i : ℕ) → i < n → f i ≡ 0) → tab n f ≡ replicate n 0
unfolding tab
tab-zeros zero f h = refl
tab-zeros (suc n) f h = ap₂ (λ (x : ℕ) (l : List ℕ). x ∷ l) (h 0 (omega arith)) (tab-zeros n (λ i. f (suc i)) (λ i l. h (suc i) (omega arith)))

zero_word : word 1 (tab 8 (λ k. 0)) ≡ 0
unfolding word tab
zero_word = refl

module _ (bs : List Run) (size : ℕ) (inside : all_inside size bs ≡ true) where
  abbrev cs : List ℕ
  cs = tab size (flag_under bs)

  -- byte j of the flags
  abbrev flag_byte : ℕ → ℕ
  flag_byte j = word 1 (tab 8 (λ k. flag_under bs (j * 8 + k)))

  outside : (q : ℕ) → size ≤ q → flag_under bs q ≡ 0
  unfolding flag_under
  outside q l = ap (λ (b : Bool). pick b 1 0) (under-outside size q bs inside l)

  listed : (q : ℕ) → flag_under bs q ≡ get_or cs q 0
  listed q =
      below_or q size (λ l. sym (get_or-tab size (flag_under bs) q l))
      (λ l. outside q l ∙ sym (get_or-eq_default cs 0 (subst (λ (n : ℕ). n ≤ q) (sym (length-tab size (flag_under bs))) l)))

  packed-bytes : tab (up 1 size) flag_byte ≡ packed 1 cs
  unfolding packed pack
  packed-bytes =
      tab-ext (up 1 size) flag_byte (λ j. word 1 (tab 8 (λ k. get_or cs (j * 8 + k) 0))) (λ j l. ap (word 1) (tab-ext 8 _ _ (λ k m. listed (j * 8 + k))))
      ∙ ap (λ (n : ℕ). tab (up 1 n) (λ j. word 1 (tab 8 (λ k. get_or cs (j * 8 + k) 0)))) (sym (length-tab size (flag_under bs)))

  packed-length : length (packed 1 cs) ≡ up 1 size
  unfolding packed
  packed-length = length-pack 1 (up 1 (length cs)) (λ i. get_or cs i 0) ∙ ap (up 1) (length-tab size (flag_under bs))

  zero-byte : (j : ℕ) → size ≤ j * 8 → flag_byte j ≡ 0
  zero-byte j l = ap (word 1) (tab-ext 8 (λ k. flag_under bs (j * 8 + k)) (λ k. 0) (λ k m. outside (j * 8 + k) (omega (arith, l)))) ∙ zero_word

  -- what the marks leave of a buffer that was cleared
  module _ (old z e : List ℕ) (room : up 1 size + trailing ≤ length old) (cleared : Made (λ j. 0) 0 (up 1 size + trailing) old z) (long : length e ≡ length z)
      (marks : (q : ℕ) → char_at 1 e q ≡ pick (under bs q) 1 (char_at 1 z q)) (before : (i : ℕ) → get_or old i 0 < 256) (after : (i : ℕ) → get_or e i 0 < 256) where
    new : (j : ℕ) → j < up 1 size + trailing → get_or e j 0 ≡ flag_byte j
    unfolding flag_under
    new j l =
        sym (byte_char_at width_1 e j (after j))
        ∙ ap (word 1)
        (tab-ext 8 (λ k. char_at 1 e (j * 8 + k)) (λ k. flag_under bs (j * 8 + k))
        (λ k m. marks (j * 8 + k) ∙ ap (pick (under bs (j * 8 + k)) 1) (char_at-at width_1 z j k m ∙ ap (λ (x : ℕ). x / 2 ^ (1 * k) % 2) (cleared.new j (omega arith) l) ∙ zero_bit k)))
      where
        zero_bit : (k : ℕ) → 0 / 2 ^ (1 * k) % 2 ≡ 0
        zero_bit k = ap (λ (x : ℕ). x % 2) (zero-div (2 ^ (1 * k)))

    above : (j : ℕ) → up 1 size + trailing ≤ j → get_or e j 0 ≡ get_or old j 0
    above j l =
        sym (byte_char_at width_1 e j (after j))
        ∙ ap (word 1)
        (tab-ext 8 (λ k. char_at 1 e (j * 8 + k)) (λ k. char_at 1 z (j * 8 + k))
        (λ k m. marks (j * 8 + k) ∙ ap (λ (b : Bool). pick b 1 (char_at 1 z (j * 8 + k))) (under-outside size (j * 8 + k) bs inside (omega (arith, far)))))
        ∙ byte_char_at width_1 z j (subst (λ (x : ℕ). x < 256) (sym same) (before j))
        ∙ same
      where
        far : size ≤ j * 8
        far = up_above width_1 size j (omega (arith, l))

        same : get_or z j 0 ≡ get_or old j 0
        same = cleared.above j l

    pub flags_filled : e ≡ filled_with (packed 1 cs) old
    flags_filled =
        made-is (record { long = long ∙ cleared.long; below = λ j l. absurd (omega arith); new = λ j p l. new j l; above = above }) room
        ∙ ap (λ (l : List ℕ). l ++ drop (up 1 size + trailing) old)
        (tab-append (up 1 size) trailing flag_byte
        ∙ ap₂ (λ (x y : List ℕ). x ++ y) packed-bytes (tab-zeros trailing (λ i. flag_byte (up 1 size + i)) (λ i l. zero-byte (up 1 size + i) (up_above width_1 size (up 1 size + i) (omega arith)))))
        ∙ append_assoc (packed 1 cs) (replicate trailing 0) (drop (up 1 size + trailing) old)
        ∙ ap (λ (n : ℕ). packed 1 cs ++ (replicate trailing 0 ++ drop (n + trailing) old)) (sym packed-length)

-- a character of a packing, in a store that begins with it
char_at-front : {w : ℕ} (W : IsWidth w) (n : ℕ) (f : ℕ → ℕ) (rest : List ℕ) → ((i : ℕ) → f i < 2 ^ w) → (i : ℕ) → i < n * per w → char_at w (pack w n f ++ rest) i ≡ f i
unfolding char_at
char_at-front {w} W n f rest h i l =
    ap (λ (x : ℕ). x / 2 ^ (w * (i % per w)) % 2 ^ w)
    (get_or-append (pack w n f) rest 0 (i / per w) (subst (λ (k : ℕ). i / per w < k) (sym (length-pack w n f)) ((div-lt_iff_lt-mul (per_pos W)).1 l)))
    ∙ char_at-pack W n f h i l

flag-lt : (bs : List Run) (i : ℕ) → flag_under bs i < 2
unfolding flag_under
flag-lt bs i = bit (under bs i)
  where
    bit : (b : Bool) → pick b 1 0 < 2
    bit true = omega arith
    bit false = omega arith

-- the flags of a store that was filled
pub flag-filled : (bs : List Run) (size : ℕ) (old : List ℕ) (i : ℕ) → i < size → char_at 1 (filled_with (packed 1 (tab size (flag_under bs))) old) i ≡ flag_under bs i
unfolding packed
flag-filled bs size old i l =
    let cs : List ℕ = tab size (flag_under bs) in
    char_at-front width_1 (up 1 (length cs)) (λ j. get_or cs j 0) _ (Below-get_or 1 cs (Below-tab 1 size (flag_under bs) (flag-lt bs))) i
    (lt_of_lt_of_le (subst (λ (n : ℕ). i < n) (sym (length-tab size (flag_under bs))) l) (up-hi width_1 (length cs)))
    ∙ get_or-tab size (flag_under bs) i l

-- bases under the same flags
bases_same : (file : List ℕ) (d n : ℕ) (f g : ℕ → ℕ) → ((i : ℕ) → i < n → f i ≡ g i) → bases_at file d n f ≡ bases_at file d n g
unfolding bases_at
bases_same file d n f g h = tab-ext n _ _ (λ i l. ap (λ (x : ℕ). pick (eqb x 0) (base_at file d i) 3) (h i l))

-- bases under the flags of such a store
pub bases_filled : (file : List ℕ) (d n : ℕ) (bs : List Run) (old : List ℕ) → bases_at file d n (char_at 1 (filled_with (packed 1 (tab n (flag_under bs))) old)) ≡ bases_at file d n (flag_under bs)
bases_filled file d n bs old = bases_same file d n (char_at 1 (filled_with (packed 1 (tab n (flag_under bs))) old)) (flag_under bs) (flag-filled bs n old)
