-- The flags of up to 64 letters: one letter's by arithmetic; a byte each, stacked to eight bytes of up to eight; and the stack turned.
-- Assumes nothing.
use mathlib.Core.List.{List, map}
use mathlib.Core.Path.{◌≡◌, sym, ap, ap₂, ◌∙◌, subst}
use Prim.Native.Nat.{ℕ, ◌+◌, ◌-◌, ◌*◌, ◌/◌, ◌%◌, ◌^◌, ◌≤◌, ◌<◌, max}
use native.Mathlib.Nat.{add_assoc, one-mul, div-one, mod-eq_of_lt, div-eq_of_lt, lt_of_lt_of_le, zero-max, max-zero}
use native.Mathlib.Omega.{arith}
use borrow.Author.Tests.{eq-eqb, ne_eqb}
use lib.Bits.{bit_and, bit_or, bit_xor}
use lib.Dec.{eqb}
use lib.ListN.{get_or}
use lib.Pow.{pow_mono}
use Rattle.codes.specs.Codes.{pick, char_at, tab, code}
use Rattle.codes.specs.Words.{word, chars_of}
use Rattle.codes.proofs.CodeLaws.{code_lt}
use Rattle.codes.proofs.FieldLaws.{char_at-is}
use Rattle.codes.proofs.TabLaws.{get_or-tab, Below-tab, Below-of, tab-at}
use Rattle.codes.specs.Widths.{width_1}
use Rattle.codes.proofs.WidthLaws.{below_or}
use Rattle.codes.proofs.WordLaws.{Below, length-chars_of}
use Rattle.fields.proofs.LoadLaws.{loaded_char}
use Rattle.runs.specs.Bytes.{letters_word}
use Rattle.runs.proofs.BitLaws.{bit, bit_or_lem, bit_shr, bit_shl, bit_shl_low, bit_mod, bits_word, bits_lt}
use Rattle.runs.proofs.SpliceLaws.{get_or-codes, codes_lt}

-- 1 where bit 2 is set and bit 1 is clear, as in T and U
abbrev tee : ℕ → ℕ
tee x = bit_and (bit_and (x / 2 ^ 2) (bit_xor (x / 2 ^ 1) 0xff)) 1

-- 0 for the ten letters alone, by the right mask
abbrev other : ℕ → ℕ → ℕ
other mask x = bit_xor (bit_xor (bit_or (bit_and x mask) (tee x)) 0x41) (tee x * 2 ^ 4 % 2 ^ 8)

-- a mask is right, which is tested at all 256 bytes
abbrev pub Right : ℕ → Type 0
Right mask = tab 256 (λ x. pick (eqb (other mask x) 0) 0 1) ≡ tab 256 (code 1)

module _ (mask x : ℕ) where
  flag_is : Right mask → x < 256 → pick (eqb (other mask x) 0) 0 1 ≡ code 1 x
  flag_is t h = tab-at 256 (λ x. pick (eqb (other mask x) 0) 0 1) (code 1) t x h

  pub flag-clear : other mask x ≡ 0 → Right mask → x < 256 → 0 ≡ code 1 x
  flag-clear e t h = rw (eq-eqb (other mask x) 0 e) at (flag_is t h)

  pub flag-set : (other mask x ≡ 0 → ⊥) → Right mask → x < 256 → 1 ≡ code 1 x
  flag-set n t h = rw (ne_eqb (other mask x) 0 n) at (flag_is t h)

-- bit j of a string of bytes
bit_byte : (s : List ℕ) → Below 8 s → (j : ℕ) → bit (word 8 s) j ≡ bit (get_or s (j / 8) 0) (j % 8)
unfolding char_at
bit_byte s h j =
    ap (λ (e : ℕ). word 8 s / 2 ^ e % 2) (sym (one-mul j)) ∙ sym (char_at-is width_1 s h j) ∙ ap (bit (get_or s (j / 8) 0)) (one-mul (j % 8))

module _ (ls : List ℕ) where
  abbrev flag : ℕ → ℕ
  flag i = code 1 (get_or ls i 0)

  flag-lt : (i : ℕ) → flag i < 2
  flag-lt i = code_lt width_1 (get_or ls i 0)

  -- a flag is its byte's bit 0
  flag-low : (i : ℕ) → bit (flag i) 0 ≡ flag i
  flag-low i = ap (λ (y : ℕ). y % 2) (div-one (flag i)) ∙ mod-eq_of_lt (flag-lt i)

  flag-high : (i b : ℕ) → 0 < b → bit (flag i) b ≡ 0
  flag-high i b h = ap (λ (y : ℕ). y % 2) (div-eq_of_lt (lt_of_lt_of_le (flag-lt i) (pow_mono {i = 1} h)))

  -- v holds the flags of eight letters from letter p on, a byte each
  abbrev pub Spread : ℕ → ℕ → Type 0
  Spread p v = (j : ℕ) → j < 64 → bit v j ≡ bit (flag (p + j / 8)) (j % 8)

  -- loaded from the flags of n letters
  pub spread_load : (n p a v : ℕ) → a + 8 ≤ n → v ≡ word 8 (tab n (λ m. flag (p + m))) / 2 ^ (8 * a) % 2 ^ 64 → Spread (p + a) v
  spread_load n p a v l e j h =
      let f : ℕ → ℕ = λ m. flag (p + m) in
      let x : ℕ = word 8 (tab n f) in
      let at : (8 * a + j) / 8 ≡ a + j / 8 = omega arith in
      let b : (8 * a + j) % 8 ≡ j % 8 = omega arith in
      ap (λ (y : ℕ). bit y j) e
      ∙ bit_mod (x / 2 ^ (8 * a)) 64 j h
      ∙ bit_shr x (8 * a) j
      ∙ bit_byte (tab n f) (Below-tab 8 n f (λ m. omega (arith, flag-lt (p + m)))) (8 * a + j)
      ∙ ap₂ (λ (a b : ℕ). bit (get_or (tab n f) a 0) b) at b
      ∙ ap (λ (y : ℕ). bit y (j % 8)) (get_or-tab n f (a + j / 8) (omega arith) ∙ ap flag (sym (add_assoc p a (j / 8))))

  -- made of eight letters that were loaded
  pub spread_made : (p x v : ℕ) → Below 8 ls → x ≡ word 8 ls / 2 ^ (8 * p) % 2 ^ 64 → v ≡ word 8 (map (code 1) (chars_of 8 8 x)) → Spread p v
  spread_made p x v bytes e q j h =
      let s : List ℕ = chars_of 8 8 x in
      let m : j / 8 < 8 = omega arith in
      ap (λ (y : ℕ). bit y j) q
      ∙ bit_byte (map (code 1) s) (Below-of 8 (map (code 1) s) (λ i. omega (arith, codes_lt width_1 s i))) j
      ∙ ap (λ (y : ℕ). bit y (j % 8))
      (get_or-codes 1 s (j / 8) (subst (λ (n : ℕ). j / 8 < n) (sym (length-chars_of 8 8 x)) m) ∙ ap (code 1) (loaded_char ls bytes p x e (j / 8) m))

  -- up to eight words of eight flags from letter i on are stacked: word k gives bit k of each byte
  module _ (i : ℕ) where
    -- bit j of the stack
    abbrev flag_at : ℕ → ℕ
    flag_at j = flag (i + (8 * (j % 8) + j / 8))

    -- y is the stack of the first k words
    abbrev pub Stacked : ℕ → ℕ → Type 0
    Stacked k y = (j : ℕ) → j < 64 → (j % 8 < k → bit y j ≡ flag_at j) × (k ≤ j % 8 → bit y j ≡ 0)

    module _ (k : ℕ) (l : k < 8) (v : ℕ) (e : Spread (i + 8 * k) v) where
      -- word k, shifted up by k
      shifted : (j : ℕ) → k ≤ j → j < 64 → bit (v * 2 ^ k % 2 ^ 64) j ≡ bit (flag (i + 8 * k + (j - k) / 8)) ((j - k) % 8)
      shifted j m h = bit_mod (v * 2 ^ k) 64 j h ∙ bit_shl v k j m ∙ e (j - k) (omega arith)

      level : (j : ℕ) → j < 64 → j % 8 ≡ k → bit (v * 2 ^ k % 2 ^ 64) j ≡ flag_at j
      level j h q =
          let at : i + 8 * k + (j - k) / 8 ≡ i + (8 * (j % 8) + j / 8) = omega arith in
          let b : (j - k) % 8 ≡ 0 = omega arith in
          shifted j (omega arith) h
          ∙ ap₂ (λ (a b : ℕ). bit (flag a) b) at b
          ∙ flag-low (i + (8 * (j % 8) + j / 8))

      beside : (j : ℕ) → j < 64 → (j % 8 ≡ k → ⊥) → bit (v * 2 ^ k % 2 ^ 64) j ≡ 0
      beside j h q =
          below_or j k (λ b. bit_mod (v * 2 ^ k) 64 j h ∙ bit_shl_low v k j b)
          (λ b. shifted j b h ∙ flag-high (i + 8 * k + (j - k) / 8) ((j - k) % 8) (omega arith))

      pub stacked_more : (y : ℕ) → Stacked k y → Stacked (k + 1) (bit_or y (v * 2 ^ k % 2 ^ 64))
      stacked_more y z j h = (
        λ m. bit_or_lem y x j ∙ below_or (j % 8) k (λ b. ap₂ max ((z j h).0 b) (beside j h (λ q. omega arith)) ∙ max-zero (flag_at j))
            (λ b. ap₂ max ((z j h).1 b) (level j h (omega arith)) ∙ zero-max (flag_at j)),
        λ m. bit_or_lem y x j ∙ ap₂ max ((z j h).1 (omega arith)) (beside j h (λ q. omega arith)),
      )
        where
          x : ℕ
          x = v * 2 ^ k % 2 ^ 64

    -- the stack, turned, is the word of the flags
    pub stacked_turned : (n y r : ℕ) → n ≤ 8 → Stacked n y → r < 2 ^ 64 → ((j : ℕ) → j < 64 → bit r j ≡ bit y (8 * (j % 8) + j / 8)) → r ≡ letters_word 1 (8 * n) ls i
    unfolding letters_word
    stacked_turned n y r m z l t =
        bits_word (8 * n) r (λ j. flag (i + j))
        (bits_lt (8 * n) 64 r l
        (λ j a h.
        let p : ℕ = 8 * (j % 8) + j / 8 in
        let row : p % 8 ≡ j / 8 = omega arith in
        t j h ∙ (z p (omega arith)).1 (omega arith)))
        (λ j h.
        let p : ℕ = 8 * (j % 8) + j / 8 in
        let back : 8 * (p % 8) + p / 8 ≡ j = omega arith in
        t j (omega arith) ∙ (z p (omega arith)).0 (omega arith) ∙ ap (λ (q : ℕ). flag (i + q)) back)
