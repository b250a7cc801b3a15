-- Where a view's bits and words stand in its bytes, what its word's length may be, and the bytes of a word that was loaded.
-- Assumes nothing.
use Rattle.std.specs.Prelude.{Ok}
use mathlib.Core.List.{List, [], ◌∷◌}
use mathlib.Core.Path.{◌≡◌, sym, ap, ap₂, ◌∙◌, subst₂}
use Prim.Native.Nat.{ℕ, ◌+◌, ◌*◌, ◌/◌, ◌%◌, ◌^◌, ◌≤◌, ◌<◌, zero-le}
use native.Mathlib.Nat.{add-zero, mul-add, mul_left_comm, mul_comm, mul-le-mul_left, le_trans, mul-div-le}
use native.Mathlib.Omega.{arith}
use lib.ListN.{length, get_or}
use lib.Pow.{shr-shr}
use Rattle.codes.specs.Codes.{per, IsWidth, chars, trailing}
use Rattle.codes.specs.Refusals.{first, bad_word, view_tests}
use Rattle.codes.specs.Words.{word, chars_of}
use Rattle.codes.proofs.FieldLaws.{field_of, word-chars}
use Rattle.codes.proofs.OutcomeLaws.{first_both, passed}
use Rattle.codes.proofs.RefusalLaws.{word_in}
use Rattle.codes.proofs.TabLaws.{Below-of, get_or-tab, chars_of-tab, word_at}
use Rattle.codes.proofs.WidthLaws.{below_or, whole}
use Rattle.codes.proofs.WordLaws.{Below}
use Rattle.fields.specs.Fields.{word_tests}
use Rattle.fields.proofs.ViewLaws.{view_accepted, room_sum}

-- a view's bits
pub record Bits (w n o len : ℕ) : Type 0 where
  pub few : n ≤ 2 ^ 28
  pub room : w * o + w * len + 384 ≤ 8 * n
  pub short : o + len ≤ 2 ^ 31

pub view_bits : {w : ℕ} → IsWidth w → (n o len : ℕ) → first (view_tests w n o len) ≡ Ok tt → Bits w n o len
view_bits {w} W n o len e =
    let h = view_accepted w n o len e in
    let behind : w * (trailing * per w) ≡ 384 = mul_left_comm w trailing (per w) ∙ ap (λ (x : ℕ). trailing * x) W.whole in
    let s : w * (o + len + trailing * per w) ≡ w * o + w * len + 384 = mul-add w (o + len) (trailing * per w) ∙ ap₂ (λ (p q : ℕ). p + q) (mul-add w o len) behind in
    let t : w * (n * per w) ≡ 8 * n = mul_left_comm w n (per w) ∙ ap (λ (x : ℕ). n * x) W.whole ∙ mul_comm n 8 in
    record { few = h.small; room = subst₂ (λ (p q : ℕ). p ≤ q) s t (mul-le-mul_left w h.fits); short = room_sum W h }

-- a word from a character of a view on lies within its bytes
pub view_word : (w n o len i p : ℕ) → Bits w n o len → i ≤ len → p ≡ w * (o + i) → (p / 8 + 40 ≤ n) × (p < 2 ^ 31)
view_word w n o len i p h l e =
    let q = e ∙ mul-add w o i in
    let m = mul-le-mul_left w l in
    (omega (arith, h.room), omega (arith, h.room, h.few))

-- an accepted view's bits begin within its bytes, and are its word; the code's numbers are o' and len'
module _ {w : ℕ} (W : IsWidth w) (bs : List ℕ) (o len : ℕ) (e : first (view_tests w (length bs) o len) ≡ Ok tt) (o' : ℕ) (eo : o' ≡ o) where
  pub view_start : (w * o' / 8 + 17 ≤ length bs) × (w * o' < 2 ^ 31)
  view_start =
      let p = view_word w (length bs) o len 0 (w * o') (view_bits W (length bs) o len e) zero-le (ap (λ (x : ℕ). w * x) (eo ∙ sym (add-zero o))) in
      (omega (arith, p.0), p.1)

  pub view_field : ((i : ℕ) → get_or bs i 0 < 2 ^ 8) → (len' : ℕ) → len' ≡ len → word 8 bs / 2 ^ (w * o') % 2 ^ (w * len') ≡ word w (chars w bs o len)
  view_field b len' el = ap₂ (λ (p q : ℕ). word 8 bs / 2 ^ (w * p) % 2 ^ (w * q)) eo el ∙ sym (word-chars W bs (Below-of 8 bs b) o len)

-- 56 bits hold one character or more
pub turn_pos : {w : ℕ} → IsWidth w → 0 < 56 / w
turn_pos {w} W = below_or 0 (56 / w) (λ h. h) (λ h. let e : 56 / w ≡ 0 = omega arith in let z : 56 ≡ w * 0 = sym (whole W 7) ∙ ap (λ (x : ℕ). w * x) e in absurd (omega arith))

-- a view whose word is not refused
pub record Wordy (w n o len least bits : ℕ) : Type 0 where
  pub view : first (view_tests w n o len) ≡ Ok tt
  pub low : least ≤ len
  pub fits : w * len ≤ bits

pub word-open : (w n o len least bits : ℕ) → first (word_tests w n o len least bits) ≡ Ok tt → Wordy w n o len least bits
word-open w n o len least bits e =
    let b = first_both (view_tests w n o len) (bad_word least (bits / w) len ∷ []) e in
    let i = word_in least (bits / w) len (passed _ _ _ b.1).0 in
    record { view = b.0; low = i.0; fits = le_trans (mul-le-mul_left w i.1) (mul-div-le bits w) }

-- byte b of eight that were loaded, and the same among the characters of the word
pub loaded_byte : (s : List ℕ) → Below 8 s → (at x : ℕ) → x ≡ word 8 s / 2 ^ (8 * at) % 2 ^ 64 → (b : ℕ) → b < 8 → x / 2 ^ (8 * b) % 2 ^ 8 ≡ get_or s (at + b) 0
loaded_byte s f at x e b h =
    let p : 8 * at + 8 * b ≡ 8 * (at + b) = omega arith in
    ap (λ (y : ℕ). y / 2 ^ (8 * b) % 2 ^ 8) e
    ∙ field_of (word 8 s / 2 ^ (8 * at)) (8 * b) 8 64 (omega arith)
    ∙ ap (λ (y : ℕ). y % 2 ^ 8) (shr-shr (word 8 s) (8 * at) (8 * b) ∙ ap (λ (y : ℕ). word 8 s / 2 ^ y) p)
    ∙ word_at 8 s f (at + b)

pub loaded_char : (s : List ℕ) → Below 8 s → (at x : ℕ) → x ≡ word 8 s / 2 ^ (8 * at) % 2 ^ 64 → (b : ℕ) → b < 8 → get_or (chars_of 8 8 x) b 0 ≡ get_or s (at + b) 0
loaded_char s f at x e b h =
    ap (λ (t : List ℕ). get_or t b 0) (chars_of-tab 8 8 x) ∙ get_or-tab 8 (λ i. x / 2 ^ (8 * i) % 2 ^ 8) b h ∙ loaded_byte s f at x e b h
