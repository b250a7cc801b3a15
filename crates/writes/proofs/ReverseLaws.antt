-- A view reversed: the next bytes of output, the run of them so far, and the whole with its zeros.
-- Assumes nothing.
use mathlib.Core.List.{List, ◌++◌, map}
use mathlib.Core.Path.{◌≡◌, sym, ap, ap₂, ◌∙◌, subst, subst₂}
use Prim.Native.Nat.{ℕ, ◌+◌, ◌-◌, ◌*◌, ◌/◌, ◌%◌, ◌^◌, ◌≤◌, ◌<◌}
use native.Mathlib.Nat.{mul-add, mul-sub, mul_assoc, mul-div_cancel_left, eq_of_mul-eq-mul_left, le_of_mul-le-mul_left, le_of_eq, le_of_lt, sub-add_cancel, mod-eq_of_lt, div-one}
use native.Mathlib.Omega.{arith}
use lib.ListN.{length, get_or, take, drop, replicate, length-reverse, length-map}
use lib.Pow.{low, shr-shr}
use lib.Seq.{sets, take_at, drop-append-add, drop-drop}
use Rattle.codes.specs.Codes.{IsWidth, per, up, trailing, complement, chars, tab}
use Rattle.codes.specs.Made.{Made}
use Rattle.codes.specs.Words.{word, chars_of, flip, packed}
use Rattle.codes.proofs.CharLaws.{length-chars, chars-fit}
use Rattle.codes.proofs.CodeLaws.{complement-fits}
use Rattle.codes.proofs.FieldLaws.{mod_low, flip-field}
use Rattle.codes.proofs.FlipLaws.{flip-shr}
use Rattle.codes.proofs.MadeLaws.{made-to, made-is, made-zeros}
use Rattle.codes.proofs.PackedLaws.{up-bits, packed-is}
use Rattle.codes.proofs.TabLaws.{length-tab, get_or-tab, chars_of-tab}
use Rattle.codes.proofs.WidthLaws.{width_pos, whole, below_or}
use Rattle.codes.proofs.WordLaws.{Below, flip-add, flip-lt, flip-short, flip-fits, flip-mod, chars_of-mod, Below-reverse, Below-through}
use Rattle.fields.specs.Fields.{flipped}
use Rattle.writes.specs.Flips.{flipped_byte}
use Rattle.writes.specs.Writes.{flipped_over}
use Rattle.fields.proofs.WriteLaws.{made-sets}

-- the bytes that characters take, by their bits
pub bytes-of_bits : {w : ℕ} → IsWidth w → (n : ℕ) → (w * n + 7) / 8 ≡ up w n
bytes-of_bits W n = omega (arith, (up-bits W n).0, (up-bits W n).1)

-- only a word's low characters count in its flip
flip_low : (w : ℕ) (f : ℕ → ℕ) (k n x : ℕ) → w * k ≤ n → flip w f k (x % 2 ^ n) ≡ flip w f k x
flip_low w f k n x l = sym (flip-mod w f k (x % 2 ^ n)) ∙ ap (flip w f k) (mod_low x (w * k) n l) ∙ flip-mod w f k x

-- what is left of whole characters after whole bytes
pub rest_whole : {w : ℕ} → IsWidth w → (bits at : ℕ) → w * (bits / w) ≡ bits → 8 * at ≤ bits → (bits - 8 * at) / w + per w * at ≡ bits / w
rest_whole {w} W bits at e l =
    let b : w * (per w * at) ≡ 8 * at = sym (mul_assoc w (per w) at) ∙ ap (λ (x : ℕ). x * at) W.whole in
    let s : bits - 8 * at ≡ w * (bits / w - per w * at) = sym (mul-sub w (bits / w) (per w * at) ∙ ap₂ (λ (x y : ℕ). x - y) e b) in
    let m : per w * at ≤ bits / w = le_of_mul-le-mul_left (subst₂ (λ (x y : ℕ). x ≤ y) (sym b) (sym e) l) (width_pos W) in
    ap (λ (x : ℕ). x / w + per w * at) s ∙ ap (λ (x : ℕ). x + per w * at) (mul-div_cancel_left (bits / w - per w * at) (width_pos W)) ∙ sub-add_cancel m

pub rest_is : {w : ℕ} → IsWidth w → (bits at : ℕ) → w * (bits / w) ≡ bits → 8 * at ≤ bits → w * ((bits - 8 * at) / w) ≡ bits - 8 * at
rest_is {w} W bits at e l =
    let b : w * (per w * at) ≡ 8 * at = sym (mul_assoc w (per w) at) ∙ ap (λ (x : ℕ). x * at) W.whole in
    let s : w * ((bits - 8 * at) / w) + w * (per w * at) ≡ bits = sym (mul-add w ((bits - 8 * at) / w) (per w * at)) ∙ ap (λ (x : ℕ). w * x) (rest_whole W bits at e l) ∙ e in
    omega (arith, s, b)

-- the next k bytes of output, where `left` low bits of v are still to be reversed, from the flip r of the last 8 * k of them; where fewer
-- are left, of the first 8 * k bits, less the bits that are not of them
module _ {w : ℕ} (W : IsWidth w) (k v left x r : ℕ) (e : w * (left / w) ≡ left) (er : r ≡ flip w (complement w) (8 * k / w) x) (ex : x ≡ v / 2 ^ (left - 8 * k) % 2 ^ (8 * k)) where
  few : left ≤ 8 * k → r / 2 ^ (8 * k - left) ≡ flip w (complement w) (left / w) v % 2 ^ (8 * k)
  few l =
      ap (λ (y : ℕ). y / 2 ^ (8 * k - left)) er
      ∙ subst (λ (n : ℕ). flip w (complement w) (8 * k / w) x / 2 ^ (8 * k - n) ≡ flip w (complement w) (left / w) x) e (flip-shr W k (left / w) x fits)
      ∙ ap (flip w (complement w) (left / w)) (ex ∙ ap (λ (n : ℕ). v / 2 ^ n % 2 ^ (8 * k)) none ∙ ap (λ (y : ℕ). y % 2 ^ (8 * k)) (div-one v))
      ∙ flip_low w (complement w) (left / w) (8 * k) v fits
      ∙ sym (mod-eq_of_lt (subst (λ (n : ℕ). flip w (complement w) (left / w) v < 2 ^ n) (whole W k) (flip-fits w (complement w) (complement-fits w) (left / w) (8 * k / w) v fewer)))
    where
      none : left - 8 * k ≡ 0
      none = omega arith

      fits : w * (left / w) ≤ 8 * k
      fits = subst (λ (n : ℕ). n ≤ 8 * k) (sym e) l

      fewer : left / w ≤ 8 * k / w
      fewer = le_of_mul-le-mul_left (subst₂ (λ (a b : ℕ). a ≤ b) (sym e) (sym (whole W k)) l) (width_pos W)

  pub enough : 8 * k ≤ left → r ≡ flip w (complement w) (left / w) v % 2 ^ (8 * k)
  enough l =
      er
      ∙ ap (flip w (complement w) (8 * k / w)) (ex ∙ ap (λ (n : ℕ). v / 2 ^ n % 2 ^ (8 * k)) (sym wj))
      ∙ flip_low w (complement w) (8 * k / w) (8 * k) (v / 2 ^ (w * j)) (le_of_eq (whole W k))
      ∙ sym (ap (λ (n : ℕ). flip w (complement w) n v % 2 ^ (8 * k)) (sym jk)
      ∙ ap (λ (y : ℕ). y % 2 ^ (8 * k)) (flip-add w (complement w) j (8 * k / w) v)
      ∙ subst (λ (n : ℕ). (hi * 2 ^ (w * (8 * k / w)) + lo) % 2 ^ n ≡ lo) (whole W k)
      (low hi (w * (8 * k / w)) (flip-lt w (complement w) (complement-fits w) (8 * k / w) (v / 2 ^ (w * j)))))
    where
      j : ℕ
      j = (left - 8 * k) / w

      hi : ℕ
      hi = flip w (complement w) j v

      lo : ℕ
      lo = flip w (complement w) (8 * k / w) (v / 2 ^ (w * j))

      wj : w * j ≡ left - 8 * k
      wj = rest_is W left k e l

      jk : j + 8 * k / w ≡ left / w
      jk = eq_of_mul-eq-mul_left w (width_pos W) (j + 8 * k / w) (left / w) (mul-add w j (8 * k / w) ∙ ap₂ (λ (a b : ℕ). a + b) wj (whole W k) ∙ sub-add_cancel l ∙ sym e)

  pub flip-next : r / 2 ^ (8 * k - left) ≡ flip w (complement w) (left / w) v % 2 ^ (8 * k)
  flip-next =
      below_or left (8 * k) (λ l. few (le_of_lt l))
      (λ l. let none : 8 * k - left ≡ 0 = omega arith in ap (λ (n : ℕ). r / 2 ^ n) none ∙ div-one r ∙ enough l)

-- what is left is the whole, shifted down by the bytes that are written
pub flip-behind : {w : ℕ} → IsWidth w → (v bits at : ℕ) → w * (bits / w) ≡ bits → 8 * at ≤ bits → flip w (complement w) ((bits - 8 * at) / w) v ≡ flip w (complement w) (bits / w) v / 2 ^ (8 * at)
flip-behind {w} W v bits at e l =
    flip-short w (complement w) (complement-fits w) ((bits - 8 * at) / w) (per w * at) v
    ∙ ap₂ (λ (n k : ℕ). flip w (complement w) n v / 2 ^ k) (rest_whole W bits at e l) (sym (mul_assoc w (per w) at) ∙ ap (λ (y : ℕ). y * at) W.whole)

-- the bytes written so far, and the next eight
pub word-turn : (t at x : ℕ) {d e : List ℕ} → x ≡ t / 2 ^ (8 * at) % 2 ^ 64 → at + 8 ≤ length d → Made (λ j. t / 2 ^ (8 * j) % 2 ^ 8) 0 at d e
    → Made (λ j. t / 2 ^ (8 * j) % 2 ^ 8) 0 (at + 8) d (sets e at (chars_of 8 8 x))
word-turn t at x {d} {e} ex l z =
    subst (λ (vs : List ℕ). Made f 0 (at + 8) d (sets e at vs)) (sym bytes)
    (made-to (made-sets (tab 8 byte) z (omega arith) (omega (arith, length-tab 8 byte)) (λ i h. entry i (omega (arith, length-tab 8 byte)))) (ap (λ (n : ℕ). at + n) (length-tab 8 byte)))
  where
    f : ℕ → ℕ
    f j = t / 2 ^ (8 * j) % 2 ^ 8

    byte : ℕ → ℕ
    byte i = t / 2 ^ (8 * at) / 2 ^ (8 * i) % 2 ^ 8

    bytes : chars_of 8 8 x ≡ tab 8 byte
    bytes = ap (chars_of 8 8) ex ∙ chars_of-mod 8 8 (t / 2 ^ (8 * at)) ∙ chars_of-tab 8 8 (t / 2 ^ (8 * at))

    entry : (i : ℕ) → i < 8 → get_or (tab 8 byte) i 0 ≡ f (at + i)
    entry i h = get_or-tab 8 byte i h ∙ ap (λ (y : ℕ). y % 2 ^ 8) (shr-shr t (8 * at) (8 * i) ∙ ap (λ (n : ℕ). t / 2 ^ n) (sym (mul-add 8 at i)))

-- the reversed view's bytes, zeros behind, and the rest of the buffer
pub flipped-written : {w : ℕ} → IsWidth w → (s : List ℕ) → Below 8 s → (o len used : ℕ) {old mid new : List ℕ} → used ≡ up w len → used + trailing ≤ length old
    → Made (flipped_byte w (word 8 s / 2 ^ (w * o)) (w * len)) 0 used old mid → Made (λ j. 0) used (used + trailing) mid new → new ≡ flipped_over w s o len old
unfolding flipped_over
flipped-written {w} W s b o len used {old} {mid} eu room y z =
    made-zeros used trailing z (omega (arith, y.long))
    ∙ ap₂ (λ (p q : List ℕ). p ++ (replicate trailing 0 ++ q)) front back
  where
    cs : List ℕ
    cs = flipped w (chars w s o len)

    f : ℕ → ℕ
    f = flipped_byte w (word 8 s / 2 ^ (w * o)) (w * len)

    long : length cs ≡ len
    long = length-reverse (map (complement w) (chars w s o len)) ∙ length-map (chars w s o len) (complement w) ∙ length-chars w s o len

    em : mid ≡ tab used f ++ drop used old
    em = made-is y (omega arith)

    front : take used mid ≡ packed w cs
    front =
        ap (take used) em
        ∙ take_at (tab used f) (drop used old) used (length-tab used f)
        ∙ sym (chars_of-tab 8 used (flip w (complement w) (w * len / w) (word 8 s / 2 ^ (w * o))))
        ∙ ap₂ (chars_of 8) (eu ∙ ap (up w) (sym long))
        (ap (λ (n : ℕ). flip w (complement w) n (word 8 s / 2 ^ (w * o))) (mul-div_cancel_left len (width_pos W)) ∙ flip-field W s b (complement w) o len)
        ∙ sym (packed-is W cs (Below-reverse w (map (complement w) (chars w s o len)) (Below-through w (complement w) (complement-fits w) (chars w s o len) (chars-fit w s o len))))

    back : drop (used + trailing) mid ≡ drop (up w len + trailing) old
    back =
        ap (drop (used + trailing)) em
        ∙ ap (λ (n : ℕ). drop (n + trailing) (tab used f ++ drop used old)) (sym (length-tab used f))
        ∙ drop-append-add (tab used f) (drop used old) trailing
        ∙ drop-drop trailing used old
        ∙ ap (λ (n : ℕ). drop (n + trailing) old) eu
