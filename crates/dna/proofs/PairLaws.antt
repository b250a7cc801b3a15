-- Flags, each at the low bit of a pair of bits; and what acts on each pair of a word: a mark under each flag, and the exchange of two codes.
-- Assumes nothing.
use mathlib.Core.List.{List, [], ◌∷◌, map, reverse, map-id, map-append, reverse-reverse}
use mathlib.Core.Path.{◌≡◌, refl, sym, ap, ap₂, ◌∙◌, subst}
use Prim.Native.Nat.{ℕ, zero, suc, ◌+◌, ◌*◌, ◌/◌, ◌%◌, ◌^◌, ◌<◌}
use native.Mathlib.Nat.{mod-lt, mod-eq_of_lt, div-one, add_comm, zero-mul, zero-add, mul-suc}
use native.Mathlib.Numerals.{add-one}
use native.Mathlib.Omega.{arith}
use lib.Bits.{bit_and, bit_or, bit_xor, or_block, xor_block, and_block, or_zero_r, xor_zero_r, or_lt, xor_lt, and_le_r}
use lib.Dec.{eqb, lit<}
use lib.ListN.{length-reverse, length-map}
use lib.Pow.{pow_pos, split, high, low, shr-shr, shr_lt}
use Rattle.codes.specs.Codes.{pick, tab}
use Rattle.codes.specs.Words.{word, chars_of, flip, same}
use Rattle.codes.proofs.Net.{rep}
use Rattle.codes.proofs.TabLaws.{tab-ext}
use Rattle.codes.proofs.WordLaws.{length-chars_of, chars_of-fit, chars_of-snoc, word-append, word-chars_of, pow_step, shr_step}
use Rattle.codes.proofs.WordLaws.{Below-reverse, flip-word, flip-step, flip-add, flip-mod, flip-none}
use Rattle.dna.specs.Dna.{exchanged}

-- k flags of f, each at the low bit of a pair
abbrev pub lows : ℕ → ℕ → ℕ
lows k f = word 2 (chars_of 1 k f)

-- there is room for them at the high bits
pub lows_lt : (k f : ℕ) → lows k f * 2 < 2 ^ (2 * k)
unfolding word chars_of
lows_lt zero f = pow_pos 0
lows_lt (suc k) f = omega (arith, lows_lt k (f / 2 ^ 1), pow_step 2 k)

-- a number below 4 is one of four
four : (P : ℕ → Type 0) → P 0 → P 1 → P 2 → P 3 → (c : ℕ) → c < 4 → P c
four P p0 p1 p2 p3 zero h = p0
four P p0 p1 p2 p3 (suc zero) h = p1
four P p0 p1 p2 p3 (suc (suc zero)) h = p2
four P p0 p1 p2 p3 (suc (suc (suc zero))) h = p3
four P p0 p1 p2 p3 (suc (suc (suc (suc c)))) h = absurd (omega (arith, h))

-- an operation that acts on each pair and its flag, leaves a pair with a clear flag and makes v of one with a set flag
module _ (op : ℕ → ℕ → ℕ) (v : ℕ) (block : (x l c b : ℕ) → c < 2 ^ 2 → b < 2 → op (x * 2 ^ 2 + c) (l * 2 ^ 2 + b) ≡ op x l * 2 ^ 2 + op c b)
    (clear : (x : ℕ) → op x 0 ≡ x) (set : (c : ℕ) → c < 4 → op c 1 ≡ v) where
  -- one pair
  under_one : (c b : ℕ) → c < 4 → b < 2 → op c b ≡ pick (eqb b 0) c v
  under_one c zero l h = clear c
  under_one c (suc zero) l h = set c l
  under_one c (suc (suc b)) l h = absurd (omega (arith, h))

  -- each of k pairs
  under : (k x f : ℕ) → x < 2 ^ (2 * k) → op x (lows k f) ≡ word 2 (tab k (λ i. pick (eqb (f / 2 ^ i % 2) 0) (x / 2 ^ (2 * i) % 4) v))
  unfolding word chars_of tab
  under zero x f h = clear x ∙ (let e : x ≡ 0 = omega (arith, h) in e)
  under (suc k) x f h =
      ap (λ (y : ℕ). op y (lows k (f / 2 ^ 1) * 2 ^ 2 + f % 2 ^ 1)) (sym (split x 2))
      ∙ block (x / 2 ^ 2) (lows k (f / 2 ^ 1)) (x % 2 ^ 2) (f % 2 ^ 1) (mod-lt x (pow_pos 2)) (mod-lt f (pow_pos 1))
      ∙ ap₂ (λ (p q : ℕ). p * 2 ^ 2 + q)
      (under k (x / 2 ^ 2) (f / 2 ^ 1) (shr_lt (2 * k) 2 (subst (λ (e : ℕ). x < 2 ^ e) (mul-suc 2 k) h))
      ∙ ap (word 2)
      (tab-ext k (λ i. pick (eqb (f / 2 ^ 1 / 2 ^ i % 2) 0) (x / 2 ^ 2 / 2 ^ (2 * i) % 4) v) (λ i. pick (eqb (f / 2 ^ suc i % 2) 0) (x / 2 ^ (2 * suc i) % 4) v)
      (λ i l. ap₂ (λ (a b : ℕ). pick (eqb (a % 2) 0) (b % 4) v) (shr-shr f 1 i ∙ ap (λ (e : ℕ). f / 2 ^ e) (add_comm 1 i ∙ add-one i)) (shr_step 2 i x))))
      (under_one (x % 4) (f % 2) (mod-lt x (pow_pos 2)) (mod-lt f (pow_pos 1)) ∙ ap₂ (λ (a b : ℕ). pick (eqb (a % 2) 0) (b % 4) v) (sym (div-one f)) (sym (div-one x)))

-- both bits of a pair set under its flag
abbrev pub three : ℕ → ℕ → ℕ
three x l = bit_or (bit_or x l) (l * 2)

-- and then the low one cleared
abbrev pub two : ℕ → ℕ → ℕ
two x l = bit_xor (three x l) l

-- a pair stays a pair
three_lt : (c b : ℕ) → c < 2 ^ 2 → b < 2 → three c b < 2 ^ 2
three_lt c b h l = or_lt 2 (bit_or c b) (b * 2) (or_lt 2 c b h (omega (arith, l))) (omega (arith, l))

-- the lowest pair by itself
three_block : (x l c b : ℕ) → c < 2 ^ 2 → b < 2 → three (x * 2 ^ 2 + c) (l * 2 ^ 2 + b) ≡ three x l * 2 ^ 2 + three c b
three_block x l c b h m =
    ap₂ bit_or (or_block 2 x l c b h b4) (let e : (l * 2 ^ 2 + b) * 2 ≡ l * 2 * 2 ^ 2 + b * 2 = omega arith in e)
    ∙ or_block 2 (bit_or x l) (l * 2) (bit_or c b) (b * 2) (or_lt 2 c b h b4) (omega (arith, m))
  where
    b4 : b < 2 ^ 2
    b4 = omega (arith, m)

-- no flag, no change
pub three_clear : (x : ℕ) → three x 0 ≡ x
three_clear x = or_zero_r (bit_or x 0) ∙ or_zero_r x

-- code 3 under each of k flags
pub three_under : (k x f : ℕ) → x < 2 ^ (2 * k) → three x (lows k f) ≡ word 2 (tab k (λ i. pick (eqb (f / 2 ^ i % 2) 0) (x / 2 ^ (2 * i) % 4) 3))
three_under = under three 3 three_block three_clear (four (λ (c : ℕ). three c 1 ≡ 3) refl refl refl refl)

-- the lowest pair by itself
two_block : (x l c b : ℕ) → c < 2 ^ 2 → b < 2 → two (x * 2 ^ 2 + c) (l * 2 ^ 2 + b) ≡ two x l * 2 ^ 2 + two c b
two_block x l c b h m =
    ap (λ (y : ℕ). bit_xor y (l * 2 ^ 2 + b)) (three_block x l c b h m) ∙ xor_block 2 (three x l) l (three c b) b (three_lt c b h m) (omega (arith, m))

-- no flag, no change
pub two_clear : (x : ℕ) → two x 0 ≡ x
two_clear x = xor_zero_r (three x 0) ∙ three_clear x

-- code 2 under each of k flags
pub two_under : (k x f : ℕ) → x < 2 ^ (2 * k) → two x (lows k f) ≡ word 2 (tab k (λ i. pick (eqb (f / 2 ^ i % 2) 0) (x / 2 ^ (2 * i) % 4) 2))
two_under = under two 2 two_block two_clear (four (λ (c : ℕ). two c 1 ≡ 2) refl refl refl refl)

-- each pair xor twice its bit under the mask m, xor n
abbrev pub crossed : ℕ → ℕ → ℕ → ℕ
crossed y m n = bit_xor (bit_xor y (bit_and y m * 2)) n

-- the lowest pair by itself
crossed_block : (y m n c : ℕ) → c < 2 ^ 2 → crossed (y * 2 ^ 2 + c) (m * 2 ^ 2 + 1) (n * 2 ^ 2 + 2) ≡ crossed y m n * 2 ^ 2 + crossed c 1 2
crossed_block y m n c h =
    ap (λ (z : ℕ). bit_xor (bit_xor (y * 2 ^ 2 + c) z) (n * 2 ^ 2 + 2))
    (ap (λ (z : ℕ). z * 2) (and_block 2 y m c 1 h (lit< tt))
    ∙ (let e : (bit_and y m * 2 ^ 2 + bit_and c 1) * 2 ≡ bit_and y m * 2 * 2 ^ 2 + bit_and c 1 * 2 = omega arith in e))
    ∙ ap (λ (z : ℕ). bit_xor z (n * 2 ^ 2 + 2)) (xor_block 2 y (bit_and y m * 2) c (bit_and c 1 * 2) h a4)
    ∙ xor_block 2 (bit_xor y (bit_and y m * 2)) n (bit_xor c (bit_and c 1 * 2)) 2 (xor_lt 2 c (bit_and c 1 * 2) h a4) (lit< tt)
  where
    a4 : bit_and c 1 * 2 < 2 ^ 2
    a4 = omega (arith, and_le_r c 1)

-- each of n pairs exchanged
pub crossed_flip : (n x : ℕ) → crossed (flip 2 same n x) (rep 2 1 n) (rep 2 2 n) ≡ flip 2 exchanged n x
unfolding rep
crossed_flip zero x = ap (λ (y : ℕ). crossed y 0 0) (flip-none 2 same x) ∙ sym (flip-none 2 exchanged x)
crossed_flip (suc n) x =
    ap (λ (y : ℕ). crossed y (rep 2 1 n * 2 ^ 2 + 1) (rep 2 2 n * 2 ^ 2 + 2)) (flip-step 2 same n x)
    ∙ crossed_block (flip 2 same n x) (rep 2 1 n) (rep 2 2 n) c l
    ∙ ap₂ (λ (p q : ℕ). p * 2 ^ 2 + q) (crossed_flip n x) (four (λ (k : ℕ). crossed k 1 2 ≡ exchanged k) refl refl refl refl c l)
    ∙ sym (flip-step 2 exchanged n x)
  where
    c : ℕ
    c = x / 2 ^ (2 * n) % 2 ^ 2

    l : c < 2 ^ 2
    l = mod-lt (x / 2 ^ (2 * n)) (pow_pos 2)

-- what is reversed twice is as it was
pub flip_twice : (w n x : ℕ) → x < 2 ^ (w * n) → x ≡ flip w same n (flip w same n x)
unfolding flip
flip_twice w n x h =
    sym
    (ap (λ (l : List ℕ). flip w same n (word w (reverse l))) (map-id cs)
    ∙ subst (λ (k : ℕ). flip w same k (word w (reverse cs)) ≡ word w (reverse (map same (reverse cs)))) (length-reverse cs ∙ length-chars_of w n x)
    (flip-word w same (reverse cs) (Below-reverse w cs (chars_of-fit w n x)))
    ∙ ap (λ (l : List ℕ). word w (reverse l)) (map-id (reverse cs))
    ∙ ap (word w) (reverse-reverse cs)
    ∙ word-chars_of w n x
    ∙ mod-eq_of_lt h)
  where
    cs : List ℕ
    cs = chars_of w n x

-- bytes in reverse, and then the pairs of all: the pairs of each byte
pub flip-bytes : (f : ℕ → ℕ) (n x : ℕ) → flip 2 f (4 * n) (flip 8 same n x) ≡ word 8 (map (flip 2 f 4) (chars_of 8 n x))
unfolding word chars_of
flip-bytes f zero x = flip-none 2 f (flip 8 same 0 x)
flip-bytes f (suc n) x =
    ap₂ (flip 2 f) (mul-suc 4 n ∙ add_comm (4 * n) 4) (flip-step 8 same n x)
    ∙ flip-add 2 f 4 (4 * n) (h * 2 ^ 8 + e)
    ∙ ap₂ (λ (p q : ℕ). p * 2 ^ (2 * (4 * n)) + q) (sym (flip-mod 2 f 4 (h * 2 ^ 8 + e)) ∙ ap (flip 2 f 4) (low h 8 l)) (ap (flip 2 f (4 * n)) (high h 8 l) ∙ flip-bytes f n x)
    ∙ sym (ap (λ (k : ℕ). word 8 (map (flip 2 f 4) (chars_of 8 k x))) (sym (add-one n))
    ∙ ap (λ (s : List ℕ). word 8 (map (flip 2 f 4) s)) (chars_of-snoc 8 n x)
    ∙ ap (word 8) (map-append (flip 2 f 4) (chars_of 8 n x) (e ∷ []))
    ∙ word-append 8 bs (flip 2 f 4 e ∷ [])
    ∙ ap₂ (λ (p q : ℕ). p * 2 ^ q + word 8 bs) (simp (zero-mul, zero-add)) (ap (λ (k : ℕ). 8 * k) (length-map (chars_of 8 n x) (flip 2 f 4) ∙ length-chars_of 8 n x) ∙ eight))
  where
    h : ℕ
    h = flip 8 same n x

    e : ℕ
    e = x / 2 ^ (8 * n) % 2 ^ 8

    l : e < 2 ^ 8
    l = mod-lt (x / 2 ^ (8 * n)) (pow_pos 8)

    bs : List ℕ
    bs = map (flip 2 f 4) (chars_of 8 n x)

    eight : 8 * n ≡ 2 * (4 * n)
    eight = omega arith
