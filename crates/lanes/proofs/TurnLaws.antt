-- The laws of turns: a field of a byte string holds the characters of a view, and zeros from its end on.
-- Assumes nothing.
use mathlib.Core.List.{List}
use mathlib.Core.Path.{◌≡◌, sym, ap, ap₂, ◌∙◌, subst}
use Prim.Native.Nat.{ℕ, ◌+◌, ◌-◌, ◌*◌, ◌/◌, ◌%◌, ◌^◌, ◌≤◌, ◌<◌}
use native.Mathlib.Nat.{mul-add, mul-suc, add_assoc, mul-le-mul_left, mod-lt, lt_of_lt_of_le, le_trans, div-eq_of_lt, zero-div, zero-mod}
use native.Mathlib.Omega.{arith}
use lib.ListN.{get_or}
use lib.Pow.{pow_pos, pow_mono, shr-shr}
use Rattle.codes.specs.Codes.{IsWidth, chars}
use Rattle.codes.specs.Made.{Made}
use Rattle.codes.specs.Words.{word}
use Rattle.codes.proofs.FieldLaws.{field_of}
use Rattle.codes.proofs.MadeLaws.{made-join, made_as, made-to}
use Rattle.codes.proofs.WidthLaws.{below_or, whole}
use Rattle.codes.proofs.WordLaws.{Below}
use Rattle.lanes.specs.Lanes.{lane_entry}
use Rattle.lanes.specs.Turns.{Holds, turned}
use Rattle.lanes.proofs.LaneLaws.{char_past, char_within, lane_char-early, lane_char-late}

module _ {w : ℕ} (W : IsWidth w) (bs : List ℕ) (bytes : Below 8 bs) (o len i : ℕ) where
  pub holds_none : len ≤ i → Holds w (chars w bs o len) i 0
  holds_none h t l = rw (zero-div, zero-mod) (char_past W bs bytes o len (i + t) (omega arith))

  -- a character within a field of k
  field-char : (k t : ℕ) → i + k ≤ len → t < k → word 8 bs / 2 ^ (w * (o + i)) % 2 ^ (w * k) / 2 ^ (w * t) % 2 ^ w ≡ get_or (chars w bs o len) (i + t) 0
  field-char k t h l =
      field_of (word 8 bs / 2 ^ (w * (o + i))) (w * t) w (w * k) (subst (λ (n : ℕ). n ≤ w * k) (mul-suc w t) (mul-le-mul_left w l))
      ∙ ap (λ (x : ℕ). x % 2 ^ w) (shr-shr (word 8 bs) (w * (o + i)) (w * t) ∙ ap (λ (e : ℕ). word 8 bs / 2 ^ e) (sym (mul-add w (o + i) t) ∙ ap (λ (n : ℕ). w * n) (add_assoc o i t)))
      ∙ char_within W bs bytes o len (i + t) (omega arith)

  -- and none above it
  field-above : (x k t : ℕ) → k ≤ t → x % 2 ^ (w * k) / 2 ^ (w * t) % 2 ^ w ≡ 0
  field-above x k t h = rw (div-eq_of_lt (lt_of_lt_of_le (mod-lt x (pow_pos (w * k))) (pow_mono (mul-le-mul_left w h))), zero-mod)

  -- the last characters
  pub holds_last : (k : ℕ) → i + k ≡ len → Holds w (chars w bs o len) i (word 8 bs / 2 ^ (w * (o + i)) % 2 ^ (w * k))
  holds_last k h t l =
      below_or t k (λ g. field-char k t (omega arith) g)
      (λ g. field-above (word 8 bs / 2 ^ (w * (o + i))) k t g ∙ char_past W bs bytes o len (i + t) (omega arith))

  -- a whole turn
  pub holds_turn : i + 64 / w ≤ len → Holds w (chars w bs o len) i (word 8 bs / 2 ^ (w * (o + i)) % 2 ^ 64)
  holds_turn h t l = ap (λ (e : ℕ). word 8 bs / 2 ^ (w * (o + i)) % 2 ^ e / 2 ^ (w * t) % 2 ^ w) (sym (whole W 8)) ∙ field-char (64 / w) t h l

-- each character of a turn stands within its n bits
pub turn_shift : {w : ℕ} → IsWidth w → (t count n : ℕ) → t < count → w * count ≤ n → w * t + w ≤ n
turn_shift {w} W t count n h l = subst (λ (k : ℕ). k ≤ n) (mul-suc w t) (le_trans (mul-le-mul_left w h) l)

-- a turn is written a step at a time
pub turned_more : (w : ℕ) (words : List ℕ) {e : ℕ} (t : ℕ) {x y z : List ℕ} → Made (turned w words e) e (e + 8 * t) x y
    → Made (λ q. get_or words (q - (e + 8 * t)) 0 / 2 ^ (w * t) % 2 ^ w) (e + 8 * t) (e + 8 * t + 8) y z → Made (turned w words e) e (e + 8 * (t + 1)) x z
turned_more w words {e} t p q =
    made-to (made-join p q (omega arith) (omega arith) (λ i h l _. ap₂ (λ (m s : ℕ). get_or words m 0 / 2 ^ (w * s) % 2 ^ w) (lane_of i h l) (step_of i h l))) (omega arith)
  where
    lane_of : (i : ℕ) → e + 8 * t ≤ i → i < e + 8 * t + 8 → i - (e + 8 * t) ≡ (i - e) % 8
    lane_of i h l = omega arith

    step_of : (i : ℕ) → e + 8 * t ≤ i → i < e + 8 * t + 8 → t ≡ (i - e) / 8
    step_of i h l = omega arith

-- 32 bits of each word, from its character k on, give what the words give from there on
module _ {w : ℕ} (W : IsWidth w) (words part : List ℕ) (k count e s from : ℕ) (few : w * count ≤ 32) (shift : s ≡ w * k) (place : from ≡ e + 8 * k)
    (is : (l : ℕ) → l < 8 → get_or part l 0 ≡ get_or words l 0 / 2 ^ s % 2 ^ 32) where
  pub turned-part : (q : ℕ) → from ≤ q → q < from + 8 * count → turned w part from q ≡ turned w words e q
  turned-part q h l =
      let t : ℕ = (q - from) / 8 in
      let x : ℕ = get_or words ((q - from) % 8) 0 in
      let m : (q - from) % 8 ≡ (q - e) % 8 = omega arith in
      let n : k + t ≡ (q - e) / 8 = omega arith in
      ap (λ (y : ℕ). y / 2 ^ (w * t) % 2 ^ w) (is ((q - from) % 8) (omega arith))
      ∙ field_of (x / 2 ^ s) (w * t) w 32 (turn_shift W t count 32 (omega arith) few)
      ∙ ap (λ (y : ℕ). y % 2 ^ w) (shr-shr x s (w * t) ∙ ap (λ (b : ℕ). x / 2 ^ b) (ap (λ (b : ℕ). b + w * t) shift ∙ sym (mul-add w k t)))
      ∙ ap₂ (λ (i j : ℕ). get_or words i 0 / 2 ^ (w * j) % 2 ^ w) m n

-- zeros before the delay
pub filled-early : (cs : List ℕ) (n d s : ℕ) {x y : List ℕ} → s ≤ d → Made (λ j. 0) 0 (8 * s) x y → Made (lane_entry cs n d) 0 (8 * s) x y
filled-early cs n d s h z = made_as z (λ q _ l. lane_char-early cs n d (q / 8) (q % 8) (omega arith))

-- and then a turn at a time
module _ (w : ℕ) (cs : List ℕ) (n d j count : ℕ) (words : List ℕ) (late : d ≤ j) (few : count ≤ 64 / w)
    (holds : (l : ℕ) → l < 8 → Holds w cs (l * n + (j - d)) (get_or words l 0)) where
  turned-is : (i : ℕ) → 8 * j ≤ i → i < 8 * j + 8 * count → turned w words (8 * j) i ≡ lane_entry cs n d i
  turned-is i g l =
      holds ((i - 8 * j) % 8) (omega arith) ((i - 8 * j) / 8) (omega arith)
      ∙ ap (λ (k : ℕ). get_or cs k 0) place
      ∙ lane_char-late cs n d (i / 8) (i % 8) (omega arith)
    where
      place : (i - 8 * j) % 8 * n + (j - d) + (i - 8 * j) / 8 ≡ i % 8 * n + (i / 8 - d)
      place =
          let a : (i - 8 * j) % 8 ≡ i % 8 = omega arith in
          let b : j - d + (i - 8 * j) / 8 ≡ i / 8 - d = omega arith in
          add_assoc ((i - 8 * j) % 8 * n) (j - d) ((i - 8 * j) / 8) ∙ ap₂ (λ (u v : ℕ). u * n + v) a b

  pub filled_more : {a : ℕ} {x y z : List ℕ} → Made (lane_entry cs n d) (8 * a) (8 * j) x y → Made (turned w words (8 * j)) (8 * j) (8 * j + 8 * count) y z → a ≤ j
      → Made (lane_entry cs n d) (8 * a) (8 * (j + count)) x z
  filled_more p q h = made-to (made-join p q (omega arith) (omega arith) (λ i g l _. turned-is i g l)) (omega arith)
