-- The bytes of a track as one number: packing a view writes the bytes of a field of the view's number, and the spare bits are what that number has above
-- the track's characters.
-- Assumes nothing.
use mathlib.Core.Bool.{true}
use mathlib.Core.List.{List, [], ◌∷◌, ◌++◌}
use mathlib.Core.Path.{◌≡◌, refl, sym, ap, ap₂, ◌∙◌, subst}
use Prim.Native.Nat.{ℕ, ◌+◌, ◌-◌, ◌*◌, ◌/◌, ◌%◌, ◌^◌, ◌≤◌, ◌<◌}
use native.Mathlib.Nat.{mul-add, mul_comm, mul_left_comm, mul-zero, one-mul, add-zero, sub-add_cancel, lt_of_lt_of_le, pos_of_ne-zero, mul-pos}
use native.Mathlib.Nat.{div-one, div-eq_of_lt, mod-eq_of_lt, mod-lt, div-add-mod', div-lt_iff_lt-mul}
use native.Mathlib.Decide.{ℕ_discrete}
use native.Mathlib.Omega.{arith}
use lib.Dec.{eqb}
use lib.ListN.{length, get_or, take, drop}
use lib.Pow.{pow_pos, pow_mono, shr-shr, shr_mod, field}
use borrow.Author.Tests.{eq-eqb, ne_eqb, eqb-true}
use Rattle.codes.specs.Codes.{per, up, IsWidth, tab, chars}
use Rattle.codes.specs.Words.{word, chars_of, packed}
use Rattle.codes.proofs.CharLaws.{length-chars, length-pack, chars-fit}
use Rattle.codes.proofs.FieldLaws.{field_of, word-chars}
use Rattle.codes.proofs.PackedLaws.{up-bits, packed-is}
use Rattle.codes.proofs.TabLaws.{word_at}
use Rattle.codes.proofs.Turns.{put_on}
use Rattle.codes.proofs.WidthLaws.{below_or, per_pos, up-hi, up_above, up-whole, shift_lt}
use Rattle.codes.proofs.WordLaws.{Below, word_lt, word-chars_of, chars_of-word, chars_of-add, chars_of-fit, chars_of-mod, length-chars_of}
use Rattle.forms.specs.Reading.{all_zero, spare_clear}

-- k bytes more of x behind i
bytes_on : (i k x y : ℕ) (old out out' : List ℕ) → out ≡ chars_of 8 i x ++ drop i old → chars_of 8 k y ≡ chars_of 8 k (x / 2 ^ (8 * i)) → out' ≡ take i out ++ (chars_of 8 k y ++ drop (i + k) out)
    → out' ≡ chars_of 8 (i + k) x ++ drop (i + k) old
bytes_on i k x y old out out' e ey e' =
    put_on i k (chars_of 8 i x) (chars_of 8 k y) old out out' (length-chars_of 8 i x) e e'
    ∙ ap (λ (l : List ℕ). l ++ drop (i + k) old) (ap (λ (l : List ℕ). chars_of 8 i x ++ l) ey ∙ sym (chars_of-add 8 i k x))

-- a word is zero where all its characters are
pub all_zero-word : (w : ℕ) (cs : List ℕ) → all_zero cs ≡ eqb (word w cs) 0
unfolding word
all_zero-word w [] = refl
all_zero-word w (c ∷ cs) =
    elim (ℕ_discrete c 0) [
      | yes e ↦ elim (ℕ_discrete (word w cs) 0) [
        | yes z ↦ rw (eq-eqb c 0 e, all_zero-word w cs, eq-eqb (word w cs) 0 z) (sym (eq-eqb (word w cs * 2 ^ w + c) 0 (ap₂ (λ (p q : ℕ). p * 2 ^ w + q) z e ∙ omega arith)))
        | no n ↦ rw (eq-eqb c 0 e, all_zero-word w cs, ne_eqb (word w cs) 0 n) (sym (ne_eqb (word w cs * 2 ^ w + c) 0 (λ q. omega (arith, mul-pos (pos_of_ne-zero n) (pow_pos w)))))
      ]
      | no n ↦ rw (ne_eqb c 0 n) (sym (ne_eqb (word w cs * 2 ^ w + c) 0 (λ q. omega arith)))
    ]

module _ {w : ℕ} (W : IsWidth w) where
  pub length-packed : (cs : List ℕ) → length (packed w cs) ≡ up w (length cs)
  unfolding packed
  length-packed cs = length-pack w (up w (length cs)) (λ i. get_or cs i 0)

  -- and their number is the characters' number
  pub word-packed : (cs : List ℕ) → Below w cs → word 8 (packed w cs) ≡ word w cs
  word-packed cs h =
      ap (word 8) (packed-is W cs h) ∙ word-chars_of 8 (up w (length cs)) (word w cs) ∙ mod-eq_of_lt (lt_of_lt_of_le (word_lt w cs h) (pow_mono (up-bits W (length cs)).0))

  -- the packed bytes of a view
  pub packed-chars : (s : List ℕ) → Below 8 s → (o n : ℕ) → packed w (chars w s o n) ≡ chars_of 8 (up w n) (word 8 s / 2 ^ (w * o) % 2 ^ (w * n))
  packed-chars s bytes o n = packed-is W (chars w s o n) (chars-fit w s o n) ∙ ap₂ (λ (m x : ℕ). chars_of 8 (up w m) x) (length-chars w s o n) (word-chars W s bytes o n)

  -- ---- spare bits

  -- none where the last byte is full
  pub spare_none : (n : ℕ) (bs : List ℕ) → n % per w ≡ 0 → spare_clear w n bs ≡ true
  unfolding chars tab
  spare_none n bs e = ap (λ (m : ℕ). all_zero (chars w bs n m)) none
    where
      q : n ≡ n / per w * per w
      q = sym (div-add-mod' n (per w)) ∙ ap (λ (x : ℕ). n / per w * per w + x) e ∙ add-zero (n / per w * per w)

      full : up w n * per w ≡ n
      full = ap (λ (x : ℕ). up w x * per w) q ∙ ap (λ (x : ℕ). x * per w) (up-whole W (n / per w)) ∙ sym q

      none : up w n * per w - n ≡ 0
      none = omega (arith, full)

  -- else the last byte is there
  pub spare_place : (n m : ℕ) → m ≡ up w n → (n % per w ≡ 0 → ⊥) → n / per w < m
  spare_place n m long h =
      below_or (n / per w) (m) (λ l. l)
      (λ l. absurd (omega (arith, up_above W n (n / per w) (subst (λ (x : ℕ). x ≤ n / per w) long l), div-add-mod' n (per w), pos_of_ne-zero h)))

  module _ (n : ℕ) (bs : List ℕ) (bytes : Below 8 bs) (long : length bs ≡ up w n) where
    -- they are what the number of the bytes has above n characters
    pub spare_word : spare_clear w n bs ≡ eqb (word 8 bs / 2 ^ (w * n)) 0
    spare_word =
        all_zero-word w (chars w bs n (up w n * per w - n))
        ∙ ap (λ (x : ℕ). eqb x 0) (word-chars W bs bytes n (up w n * per w - n) ∙ shr_mod (w * (up w n * per w - n)) (w * n) (subst (λ (e : ℕ). word 8 bs < 2 ^ e) bits (word_lt 8 bs bytes)))
      where
        bits : 8 * length bs ≡ w * (up w n * per w - n) + w * n
        bits =
            ap (λ (x : ℕ). 8 * x) long
            ∙ mul_comm 8 (up w n)
            ∙ ap (λ (x : ℕ). up w n * x) (sym W.whole)
            ∙ mul_left_comm (up w n) w (per w)
            ∙ ap (λ (x : ℕ). w * x) (sym (sub-add_cancel (up-hi W n)))
            ∙ mul-add w (up w n * per w - n) n

    -- those of the last byte, where it is not full
    pub spare_last : (n % per w ≡ 0 → ⊥) → spare_clear w n bs ≡ eqb (get_or bs (n / per w) 0 / 2 ^ (w * (n % per w))) 0
    spare_last h =
        spare_word
        ∙ ap (λ (x : ℕ). eqb x 0)
        (ap (λ (e : ℕ). word 8 bs / 2 ^ e) (sym place) ∙ sym (shr-shr (word 8 bs) (8 * b) (w * k)) ∙ ap (λ (x : ℕ). x / 2 ^ (w * k)) (sym (shr_mod 8 (8 * b) small) ∙ word_at 8 bs bytes b))
      where
        b : ℕ
        b = n / per w

        k : ℕ
        k = n % per w

        place : 8 * b + w * k ≡ w * n
        place =
            ap (λ (x : ℕ). x + w * k) (mul_comm 8 b ∙ ap (λ (x : ℕ). b * x) (sym W.whole) ∙ mul_left_comm b w (per w))
            ∙ sym (mul-add w (b * per w) k)
            ∙ ap (λ (x : ℕ). w * x) (div-add-mod' n (per w))

        bits : 8 * length bs ≤ 8 + 8 * b
        bits = omega (arith, long, place, (up-bits W n).1, shift_lt W k (mod-lt n (per_pos W)))

        small : word 8 bs < 2 ^ (8 + 8 * b)
        small = lt_of_lt_of_le (word_lt 8 bs bytes) (pow_mono bits)

    -- bytes without spare bits are the packing of their characters
    pub packed-spare : spare_clear w n bs ≡ true → packed w (chars w bs 0 n) ≡ bs
    packed-spare e =
        packed-chars bs bytes 0 n
        ∙ ap₂ (chars_of 8) (sym long) (ap (λ (x : ℕ). word 8 bs / 2 ^ x % 2 ^ (w * n)) (mul-zero w) ∙ ap (λ (x : ℕ). x % 2 ^ (w * n)) (div-one (word 8 bs)) ∙ mod-eq_of_lt small)
        ∙ chars_of-word 8 bs bytes
      where
        none_above : word 8 bs / 2 ^ (w * n) ≡ 0
        none_above = eqb-true (word 8 bs / 2 ^ (w * n)) 0 (sym spare_word ∙ e)

        small : word 8 bs < 2 ^ (w * n)
        small = subst (λ (x : ℕ). word 8 bs < x) (one-mul (2 ^ (w * n))) ((div-lt_iff_lt-mul (pow_pos (w * n))).0 (omega (arith, none_above)))

  -- packed characters leave no spare bits
  pub spare_packed : (cs : List ℕ) → Below w cs → spare_clear w (length cs) (packed w cs) ≡ true
  spare_packed cs h =
      spare_word (length cs) (packed w cs) (subst (Below 8) (sym (packed-is W cs h)) (chars_of-fit 8 (up w (length cs)) (word w cs))) (length-packed cs)
      ∙ eq-eqb (word 8 (packed w cs) / 2 ^ (w * length cs)) 0 (ap (λ (x : ℕ). x / 2 ^ (w * length cs)) (word-packed cs h) ∙ div-eq_of_lt (word_lt w cs h))

-- ---- the loop that packs a view

-- i words are written
abbrev pub Packing : ℕ → List ℕ → ℕ → ℕ → List ℕ → ℕ → List ℕ → Type 0
Packing w s o n old i out = out ≡ chars_of 8 (8 * i) (word 8 s / 2 ^ (w * o) % 2 ^ (w * n)) ++ drop (8 * i) old

module _ (w : ℕ) (s : List ℕ) (o n : ℕ) (old out : List ℕ) (i : ℕ) (t : Packing w s o n old i out) where
  -- the bytes from the view's first bit on, as one number
  abbrev v : ℕ
  v = word 8 s / 2 ^ (w * o)

  -- what is read behind i words
  here : (k : ℕ) → word 8 s / 2 ^ (w * o + 64 * i) % 2 ^ k ≡ v / 2 ^ (8 * (8 * i)) % 2 ^ k
  here k =
      let p : w * o + 64 * i ≡ w * o + 8 * (8 * i) = omega arith in
      ap (λ (x : ℕ). x % 2 ^ k) (ap (λ (e : ℕ). word 8 s / 2 ^ e) p ∙ sym (shr-shr (word 8 s) (w * o) (8 * (8 * i))))

  pub packing_turn : (x : ℕ) (out' : List ℕ) → i < w * n / 64 → x ≡ word 8 s / 2 ^ (w * o + 64 * i) % 2 ^ 64 → out' ≡ take (8 * i) out ++ (chars_of 8 8 x ++ drop (8 * i + 8) out)
      → Packing w s o n old (i + 1) out'
  packing_turn x out' h ex e =
      bytes_on (8 * i) 8 (v % 2 ^ (w * n)) x old out out' t (ap (chars_of 8 8) (ex ∙ here 64 ∙ sym within) ∙ chars_of-mod 8 8 (v % 2 ^ (w * n) / 2 ^ (8 * (8 * i)))) e
      ∙ ap (λ (m : ℕ). chars_of 8 m (v % 2 ^ (w * n)) ++ drop m old) next
    where
      within : v % 2 ^ (w * n) / 2 ^ (8 * (8 * i)) % 2 ^ 64 ≡ v / 2 ^ (8 * (8 * i)) % 2 ^ 64
      within = field_of v (8 * (8 * i)) 64 (w * n) (omega arith)

      next : 8 * i + 8 ≡ 8 * (i + 1)
      next = omega arith

  pub packing_end : IsWidth w → Below 8 s → i ≡ w * n / 64 → (x k : ℕ) (out' : List ℕ) → x ≡ word 8 s / 2 ^ (w * o + 64 * i) % 2 ^ (w * n % 64) → k ≡ (w * n % 64 + 7) / 8
      → out' ≡ take (8 * i) out ++ (chars_of 8 k x ++ drop (8 * i + k) out) → out' ≡ packed w (chars w s o n) ++ drop (up w n) old
  packing_end W bytes ei x k out' ex ek e =
      bytes_on (8 * i) k (v % 2 ^ (w * n)) x old out out' t
      (ap (chars_of 8 k) (ex ∙ here (w * n % 64) ∙ sym (field v (w * n % 64) (8 * (8 * i))) ∙ ap (λ (m : ℕ). v % 2 ^ m / 2 ^ (8 * (8 * i))) bits)) e
      ∙ ap (λ (m : ℕ). chars_of 8 m (v % 2 ^ (w * n)) ++ drop m old) all
      ∙ ap (λ (l : List ℕ). l ++ drop (up w n) old) (sym (packed-chars W s bytes o n))
    where
      bits : w * n % 64 + 8 * (8 * i) ≡ w * n
      bits = omega (arith, ei)

      all : 8 * i + k ≡ up w n
      all = omega (arith, ek, ei, up-bits W n)
