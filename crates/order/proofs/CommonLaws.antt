-- The common length of two views by words of 56 bits: equal words hold equal characters, and the lowest bit that differs stands in
-- the first character that does.
-- Assumes nothing.
use mathlib.Core.List.{List}
use mathlib.Core.Path.{◌≡◌, refl, sym, ap, ap₂, ◌∙◌, subst}
use Prim.Native.Nat.{ℕ, zero, suc, ◌+◌, ◌-◌, ◌*◌, ◌/◌, ◌%◌, ◌^◌, ◌≤◌, ◌<◌, min}
use native.Mathlib.Nat.{add_comm, add_assoc, add-sub_of_le, mul-add, mul-suc, mul_assoc, mul_comm, mul-le-mul_left, mul-le-mul_right, div-one, mod-one, zero-div, zero-mod, mul-div-le, lt-div-mul-add}
use native.Mathlib.Nat.{le_of_suc-le-suc, lt_of_lt_of_le, lt_of_le_of_lt, lt_trans, le_of_lt, le_trans, lt_of_mul-lt-mul_left, min-le_left, min-le_right, le-min, min-eq_left, min-eq_right}
use native.Mathlib.Numerals.{add-one}
use native.Mathlib.Omega.{arith}
use lib.Bits.{bit_xor, xor_add_and, and_le_l, and_le_r, xor_shr, xor_mod, xor_self}
use lib.Count.{count_trailing_zeros, under}
use lib.Dec.{lit<}
use lib.ListN.{length}
use lib.Pow.{shr-shr, mod-pow-add}
use Rattle.codes.specs.Codes.{IsWidth, char_at, chars}
use Rattle.codes.specs.Words.{word}
use Rattle.codes.proofs.CharLaws.{length-chars, get_or-chars}
use Rattle.codes.proofs.FieldLaws.{field_of, mod_low, char_at-is}
use Rattle.codes.proofs.WidthLaws.{below_or, width_pos, whole}
use Rattle.codes.proofs.WordLaws.{Below}
use Rattle.order.specs.Order.{common}
use Rattle.fields.proofs.LoadLaws.{Bits, view_word}
use Rattle.order.proofs.OrderLaws.{common-is}

-- below the lowest set bit all is 0, and it is set
zeros_step : (d n t : ℕ) → n % 2 ≡ d → n / 2 % 2 ^ t ≡ 0 → n % 2 ^ under d t ≡ 0
zeros_step zero n t e h = ap (λ (k : ℕ). n % 2 ^ k) (sym (add-one t)) ∙ mod-pow-add n t 1 ∙ ap₂ (λ (p q : ℕ). p * 2 + q) h e
zeros_step (suc d) n t e h = mod-one n

zeros_below : (k n : ℕ) → n % 2 ^ count_trailing_zeros k n ≡ 0
unfolding count_trailing_zeros
zeros_below zero n = mod-one n
zeros_below (suc k) n = zeros_step (n % 2) n (count_trailing_zeros k (n / 2)) refl (zeros_below k (n / 2))

set-step : (d n t k : ℕ) → n % 2 ≡ d → (t < k → n / 2 / 2 ^ t % 2 ≡ 1) → under d t < suc k → n / 2 ^ under d t % 2 ≡ 1
set-step zero n t k e h l = ap (λ (x : ℕ). x % 2) (ap (λ (j : ℕ). n / 2 ^ j) (sym (add-one t) ∙ add_comm t 1) ∙ sym (shr-shr n 1 t)) ∙ h (le_of_suc-le-suc l)
set-step (suc d) n t k e h l = ap (λ (x : ℕ). x % 2) (div-one n) ∙ omega arith

set_at-zeros : (k n : ℕ) → count_trailing_zeros k n < k → n / 2 ^ count_trailing_zeros k n % 2 ≡ 1
unfolding count_trailing_zeros
set_at-zeros zero n l = absurd (omega arith)
set_at-zeros (suc k) n l = set-step (n % 2) n (count_trailing_zeros k (n / 2)) k refl (set_at-zeros k (n / 2)) l

-- where 56 bits are not all 0, the lowest set bit is one of them
pub differ_low : (n : ℕ) → (n % 2 ^ 56 ≡ 0 → ⊥) → count_trailing_zeros 64 n < 56
differ_low n z = below_or (count_trailing_zeros 64 n) 56 (λ l. l) (λ l. absurd (z (sym (mod_low n 56 (count_trailing_zeros 64 n) l) ∙ ap (λ (k : ℕ). k % 2 ^ 56) (zeros_below 64 n))))

-- and so is the whole character that it stands in
pub char_within : {w : ℕ} → IsWidth w → (m : ℕ) → m < 56 → w * (m / w) + w ≤ 56
char_within {w} W m small =
    let l : m / w < 56 / w = lt_of_mul-lt-mul_left w (lt_of_le_of_lt (mul-div-le m w) (subst (λ (k : ℕ). m < k) (sym (whole W 7)) small)) in
    le_trans (subst (λ (k : ℕ). k ≤ w * (56 / w)) (mul-suc w (m / w)) (mul-le-mul_left w l)) (mul-div-le 56 w)

xor_same : (a b : ℕ) → bit_xor a b ≡ 0 → a ≡ b
xor_same a b e = omega (arith, xor_add_and a b, and_le_l a b, and_le_r a b)

-- where the words of two views differ, and where they do not
record Peeked (w : ℕ) (s : List ℕ) (o p x : ℕ) : Type 0 where
  place : p ≡ w * o
  bits : x % 2 ^ 56 ≡ word 8 s / 2 ^ p % 2 ^ 56

zero_bits : (m n : ℕ) → 0 / 2 ^ m % 2 ^ n ≡ 0
zero_bits m n = rw (zero-div, zero-mod)

module _ {w : ℕ} (W : IsWidth w) where
  -- the bits of a number that are character j
  abbrev field : ℕ → ℕ → ℕ
  field x j = x / 2 ^ (w * j) % 2 ^ w

  -- a character within the 56 bits
  peeked_char : (s : List ℕ) → Below 8 s → (o p x : ℕ) → Peeked w s o p x → (j : ℕ) → w * j + w ≤ 56 → char_at w s (o + j) ≡ field x j
  peeked_char s b o p x h j l =
      char_at-is W s b (o + j)
      ∙ ap (λ (y : ℕ). y % 2 ^ w) (ap (λ (e : ℕ). word 8 s / 2 ^ e) (mul-add w o j ∙ ap (λ (e : ℕ). e + w * j) (sym h.place)) ∙ sym (shr-shr (word 8 s) p (w * j)))
      ∙ sym (field_of (word 8 s / 2 ^ p) (w * j) w 56 l)
      ∙ ap (λ (y : ℕ). field y j) (sym h.bits)
      ∙ field_of x (w * j) w 56 l

  xor_field : (x y j : ℕ) → field (bit_xor x y) j ≡ bit_xor (field x j) (field y j)
  xor_field x y j = ap (λ (z : ℕ). z % 2 ^ w) (xor_shr x y (w * j)) ∙ xor_mod (x / 2 ^ (w * j)) (y / 2 ^ (w * j)) w

  module _ (s t : List ℕ) (bs : Below 8 s) (bt : Below 8 t) (o o' p q x y : ℕ) (hx : Peeked w s o p x) (hy : Peeked w t o' q y) where
    -- below m bits that are all the same, the characters are
    same_below : (m j : ℕ) → m ≤ 56 → bit_xor x y % 2 ^ m ≡ 0 → w * j + w ≤ m → char_at w s (o + j) ≡ char_at w t (o' + j)
    same_below m j hm z l =
        peeked_char s bs o p x hx j (omega arith)
        ∙ xor_same (field x j) (field y j) (sym (xor_field x y j) ∙ sym (field_of (bit_xor x y) (w * j) w m l) ∙ ap (λ (n : ℕ). field n j) z ∙ zero_bits (w * j) w)
        ∙ sym (peeked_char t bt o' q y hy j (omega arith))

    -- at the first bit that differs, the character does
    differ_at : (m j : ℕ) → bit_xor x y / 2 ^ m % 2 ≡ 1 → w * j ≤ m → m < w * j + w → w * j + w ≤ 56 → char_at w s (o + j) ≡ char_at w t (o' + j) → ⊥
    differ_at m j one lo hi l e =
        let k : ℕ = m - w * j in
        let d : k + 1 ≤ w = omega arith in
        let same = sym (peeked_char s bs o p x hx j l) ∙ e ∙ peeked_char t bt o' q y hy j l in
        let z : field (bit_xor x y) j ≡ 0 = xor_field x y j ∙ ap (λ (n : ℕ). bit_xor n (field y j)) same ∙ xor_self (field y j) in
        let bit = shr-shr (bit_xor x y) (w * j) k ∙ ap (λ (n : ℕ). bit_xor x y / 2 ^ n) (add-sub_of_le lo) in
        let f : 0 ≡ bit_xor x y / 2 ^ m % 2 = sym (zero_bits k 1) ∙ ap (λ (n : ℕ). n / 2 ^ k % 2 ^ 1) (sym z) ∙ field_of (bit_xor x y / 2 ^ (w * j)) k 1 w d ∙ ap (λ (n : ℕ). n % 2) bit in
        omega (arith, f, one)

-- the common length of two views, by the places of their characters
pub common-chars : (w : ℕ) (s : List ℕ) (o al : ℕ) (t : List ℕ) (o' bl r : ℕ) → r ≤ al → r ≤ bl → ((j : ℕ) → j < r → char_at w s (o + j) ≡ char_at w t (o' + j))
    → (r < al → r < bl → char_at w s (o + r) ≡ char_at w t (o' + r) → ⊥) → r ≡ common (chars w s o al) (chars w t o' bl)
common-chars w s o al t o' bl r h l e d =
    common-is (chars w s o al) (chars w t o' bl) r (rw (length-chars w s o al) h) (rw (length-chars w t o' bl) l)
    (λ j m. get_or-chars w s o al j (lt_of_lt_of_le m h) ∙ e j m ∙ sym (get_or-chars w t o' bl j (lt_of_lt_of_le m l)))
    (λ p q z.
    let p' : r < al = subst (λ (n : ℕ). r < n) (length-chars w s o al) p in
    let q' : r < bl = subst (λ (n : ℕ). r < n) (length-chars w t o' bl) q in
    d p' q' (sym (get_or-chars w s o al r p') ∙ z ∙ get_or-chars w t o' bl r q'))

-- equal characters, so far
abbrev pub SameBelow : ℕ → List ℕ → ℕ → List ℕ → ℕ → ℕ → Type 0
SameBelow w s o t o' i = (j : ℕ) → j < i → char_at w s (o + j) ≡ char_at w t (o' + j)

same_all : (w : ℕ) (s : List ℕ) (o al : ℕ) (t : List ℕ) (o' bl i n : ℕ) → n ≡ min al bl → n ≤ i → SameBelow w s o t o' i → n ≡ common (chars w s o al) (chars w t o' bl)
same_all w s o al t o' bl i n en l h =
    common-chars w s o al t o' bl n (omega (arith, min-le_left al bl)) (omega (arith, min-le_right al bl)) (λ j m. h j (omega arith)) (λ p q z. absurd (omega (arith, le-min p q)))

module _ {w : ℕ} (W : IsWidth w) (s t : List ℕ) (bs : Below 8 s) (bt : Below 8 t) (o o' i p q x y : ℕ) (hx : Peeked w s (o + i) p x) (hy : Peeked w t (o' + i) q y) (h : SameBelow w s o t o' i) where
  same_more : (m k : ℕ) → m ≤ 56 → bit_xor x y % 2 ^ m ≡ 0 → w * k ≤ m → SameBelow w s o t o' (i + k)
  same_more m k hm z l j lj =
      below_or j i (h j)
      (λ g.
      let d : i + (j - i) ≡ j = omega arith in
      let u : w * (j - i) + w ≤ w * k = subst (λ (n : ℕ). n ≤ w * k) (mul-suc w (j - i)) (mul-le-mul_left w (omega arith)) in
      let e = same_below W s t bs bt (o + i) (o' + i) p q x y hx hy m (j - i) hm z (omega arith) in
      ap (char_at w s) (sym (add_assoc o i (j - i) ∙ ap (λ (n : ℕ). o + n) d)) ∙ e ∙ ap (char_at w t) (add_assoc o' i (j - i) ∙ ap (λ (n : ℕ). o' + n) d))

  -- 56 equal bits are a turn's equal characters
  common-turn : bit_xor x y % 2 ^ 56 ≡ 0 → SameBelow w s o t o' (i + 56 / w)
  common-turn z = same_more 56 (56 / w) (omega arith) z (mul-div-le 56 w)

  -- otherwise the lowest differing bit stands in the first character that differs
  common-found : (al bl n : ℕ) → n ≡ min al bl → (bit_xor x y % 2 ^ 56 ≡ 0 → ⊥) → min (i + count_trailing_zeros 64 (bit_xor x y) / w) n ≡ common (chars w s o al) (chars w t o' bl)
  common-found al bl n en z =
      below_or (i + m / w) n
      (λ l. min-eq_left (le_of_lt l) ∙ common-chars w s o al t o' bl (i + m / w) (omega (arith, min-le_left al bl)) (omega (arith, min-le_right al bl)) same (λ _ _ e. other e))
      (λ l. min-eq_right l ∙ same_all w s o al t o' bl (i + m / w) n en l same)
    where
      m : ℕ
      m = count_trailing_zeros 64 (bit_xor x y)

      zeros : bit_xor x y % 2 ^ m ≡ 0
      zeros = zeros_below 64 (bit_xor x y)

      small : m < 56
      small = differ_low (bit_xor x y) z

      lo : w * (m / w) ≤ m
      lo = mul-div-le m w

      same : SameBelow w s o t o' (i + m / w)
      same = same_more m (m / w) (le_of_lt small) zeros lo

      hi : m < w * (m / w) + w
      hi = subst (λ (k : ℕ). m < k + w) (mul_comm (m / w) w) (lt-div-mul-add (width_pos W))

      other : char_at w s (o + (i + m / w)) ≡ char_at w t (o' + (i + m / w)) → ⊥
      other e =
          differ_at W s t bs bt (o + i) (o' + i) p q x y hx hy m (m / w) (set_at-zeros 64 (bit_xor x y) (lt_trans small (lit< tt))) lo hi (char_within W m small)
          (ap (char_at w s) (add_assoc o i (m / w)) ∙ e ∙ ap (char_at w t) (sym (add_assoc o' i (m / w))))

-- n characters, k of them a turn: a turn that is taken begins within them, and all turns together pass them
module _ {n k t : ℕ} (some : 0 < k) where
  pub turn_begins : t < (n + (k - 1)) / k → k * t < n
  turn_begins l =
      let up : k * t + k ≤ k * ((n + (k - 1)) / k) = subst (λ (m : ℕ). m ≤ k * ((n + (k - 1)) / k)) (mul-suc k t) (mul-le-mul_left k l) in
      omega (arith, up, mul-div-le (n + (k - 1)) k, some)

  pub turns_pass : (n + (k - 1)) / k ≤ t → n ≤ k * t
  turns_pass l =
      let over : n + (k - 1) < (n + (k - 1)) / k * k + k = lt-div-mul-add some in
      omega (arith, over, mul-le-mul_right k l, mul_comm t k, some)

-- the bits of t turns are those of their characters
pub turn_bits : {w k : ℕ} → IsWidth w → k ≡ 56 / w → (o t : ℕ) → w * o + 56 * t ≡ w * (o + k * t)
turn_bits {w} {k} W e o t =
    let turn : w * k ≡ 56 = ap (λ (n : ℕ). w * n) e ∙ whole W 7 in
    ap (λ (n : ℕ). w * o + n * t) (sym turn) ∙ ap (λ (n : ℕ). w * o + n) (mul_assoc w k t) ∙ sym (mul-add w o (k * t))

-- two views, and the n places that both have
pub record Two (w : ℕ) (s : List ℕ) (o al : ℕ) (t : List ℕ) (o' bl n : ℕ) : Type 0 where
  pub width : IsWidth w
  pub bytes : Below 8 s × Below 8 t
  pub bits : Bits w (length s) o al × Bits w (length t) o' bl
  pub least : n ≡ min al bl

module _ {w : ℕ} {s : List ℕ} {o al : ℕ} {t : List ℕ} {o' bl n : ℕ} (v : Two w s o al t o' bl n) where
  -- where the two words of a turn stand
  pub turn_left : {i : ℕ} → i < n → (w * (o + i) / 8 + 40 ≤ length s) × (w * (o + i) < 2 ^ 31)
  turn_left {i} l = view_word w (length s) o al i _ v.bits.0 (omega (arith, v.least, min-le_left al bl)) refl

  pub turn_right : {i : ℕ} → i < n → (w * (o' + i) / 8 + 40 ≤ length t) × (w * (o' + i) < 2 ^ 31)
  turn_right {i} l = view_word w (length t) o' bl i _ v.bits.1 (omega (arith, v.least, min-le_right al bl)) refl

  -- a loop over them that has passed i equal characters
  module _ {i : ℕ} (h : SameBelow w s o t o' i) where
    -- past the end, all is equal
    pub passed_all : n ≤ i → n ≡ common (chars w s o al) (chars w t o' bl)
    passed_all l = same_all w s o al t o' bl i n v.least l h

    module _ (x y : ℕ) (ex : x % 2 ^ 56 ≡ word 8 s / 2 ^ (w * (o + i)) % 2 ^ 56) (ey : y % 2 ^ 56 ≡ word 8 t / 2 ^ (w * (o' + i)) % 2 ^ 56) where
      left_peeked : Peeked w s (o + i) (w * (o + i)) x
      left_peeked = record { place = refl; bits = ex }

      right_peeked : Peeked w t (o' + i) (w * (o' + i)) y
      right_peeked = record { place = refl; bits = ey }

      -- 56 equal bits are passed
      pub passed_turn : bit_xor x y % 2 ^ 56 ≡ 0 → SameBelow w s o t o' (i + 56 / w)
      passed_turn z = common-turn v.width s t v.bytes.0 v.bytes.1 o o' i _ _ x y left_peeked right_peeked h z

      -- 56 bits that differ show where
      pub passed_found : (bit_xor x y % 2 ^ 56 ≡ 0 → ⊥) → min (i + count_trailing_zeros 64 (bit_xor x y) / w) n ≡ common (chars w s o al) (chars w t o' bl)
      passed_found z = common-found v.width s t v.bytes.0 v.bytes.1 o o' i _ _ x y left_peeked right_peeked h al bl n v.least z

      -- and the character of each view there
      pub passed_chars : (bit_xor x y % 2 ^ 56 ≡ 0 → ⊥)
          → let k : ℕ = count_trailing_zeros 64 (bit_xor x y) / w in
          (x / 2 ^ (w * k) % 2 ^ w ≡ char_at w s (o + (i + k))) × (y / 2 ^ (w * k) % 2 ^ w ≡ char_at w t (o' + (i + k)))
      passed_chars z =
          let k : ℕ = count_trailing_zeros 64 (bit_xor x y) / w in
          let h = char_within v.width (count_trailing_zeros 64 (bit_xor x y)) (differ_low (bit_xor x y) z) in (
            sym (peeked_char v.width s v.bytes.0 (o + i) _ x left_peeked k h) ∙ ap (char_at w s) (add_assoc o i k),
            sym (peeked_char v.width t v.bytes.1 (o' + i) _ y right_peeked k h) ∙ ap (char_at w t) (add_assoc o' i k),
          )
