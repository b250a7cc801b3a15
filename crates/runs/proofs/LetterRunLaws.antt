-- Bytes of letters alone, by words of letters: a byte of such a word, and a run that grows by eight bytes stored at once.
-- Assumes nothing.
use mathlib.Core.List.{List}
use mathlib.Core.Path.{◌≡◌, sym, ap, ap₂, ◌∙◌, subst}
use Prim.Native.Nat.{ℕ, suc, ◌+◌, ◌-◌, ◌*◌, ◌/◌, ◌%◌, ◌^◌, ◌≤◌, ◌<◌}
use native.Mathlib.Nat.{add_assoc, add-mul, mul-add, mul_assoc, mul_comm, mul-le-mul_left, suc-mul}
use native.Mathlib.Omega.{arith}
use lib.ListN.{length, get_or}
use lib.Pow.{shr-shr}
use lib.Seq.{sets}
use Rattle.codes.specs.Codes.{IsWidth, per, tab, code}
use Rattle.codes.specs.Made.{Made}
use Rattle.codes.specs.Words.{word, chars_of}
use Rattle.codes.proofs.CodeLaws.{code_lt}
use Rattle.codes.proofs.MadeLaws.{made-to}
use Rattle.codes.proofs.TabLaws.{get_or-tab, tab-ext, Below-tab, word_at, chars_of-tab}
use Rattle.codes.proofs.WordLaws.{word-chars_of, length-chars_of}
use Rattle.fields.proofs.WriteLaws.{made-sets}
use Rattle.runs.specs.Bytes.{letters_word}

module _ {w : ℕ} (W : IsWidth w) (ls : List ℕ) where
  -- m letters of n, from letter a of them on
  letters_part : (n i a m : ℕ) → a + m ≤ n → letters_word w n ls i / 2 ^ (w * a) % 2 ^ (w * m) ≡ letters_word w m ls (i + a)
  unfolding letters_word
  letters_part n i a m l =
      let f : ℕ → ℕ = λ k. code w (get_or ls (i + k) 0) in
      let x : ℕ = word w (tab n f) in
      sym (word-chars_of w m (x / 2 ^ (w * a)))
      ∙ ap (word w)
      (chars_of-tab w m (x / 2 ^ (w * a))
      ∙ tab-ext m (λ k. x / 2 ^ (w * a) / 2 ^ (w * k) % 2 ^ w) (λ k. code w (get_or ls (i + a + k) 0))
      (λ k h.
      ap (λ (y : ℕ). y % 2 ^ w) (shr-shr x (w * a) (w * k) ∙ ap (λ (e : ℕ). x / 2 ^ e) (sym (mul-add w a k)))
      ∙ word_at w (tab n f) (Below-tab w n f (λ k. code_lt W (get_or ls (i + k) 0))) (a + k)
      ∙ get_or-tab n f (a + k) (omega arith)
      ∙ ap (λ (p : ℕ). code w (get_or ls p 0)) (sym (add_assoc i a k))))

  -- byte q of n
  pub letters_byte : (n i q : ℕ) → q < n → letters_word w (per w * n) ls i / 2 ^ (8 * q) % 2 ^ 8 ≡ letters_word w (per w) ls (i + q * per w)
  letters_byte n i q h =
      let x : ℕ = letters_word w (per w * n) ls i in
      let e : 8 * q ≡ w * (q * per w) = ap (λ (b : ℕ). b * q) (sym W.whole) ∙ mul_assoc w (per w) q ∙ ap (λ (n : ℕ). w * n) (mul_comm (per w) q) in
      ap₂ (λ (a b : ℕ). x / 2 ^ a % 2 ^ b) e (sym W.whole)
      ∙ letters_part (per w * n) i (q * per w) (per w) (subst (λ (m : ℕ). m ≤ per w * n) (mul_comm (per w) (suc q) ∙ suc-mul q (per w)) (mul-le-mul_left (per w) h))

  -- a run grows by eight bytes of letters stored behind it
  module _ (from first : ℕ) where
    abbrev byte : ℕ → ℕ
    byte b = letters_word w (per w) ls (first + (b - from) * per w)

    pub letters_more : {a j x : ℕ} {d e g : List ℕ} → Made byte a j d e → a ≤ j → from ≤ j → j + 8 ≤ length d → x ≡ letters_word w (per w * 8) ls (first + (j - from) * per w)
        → g ≡ sets e j (chars_of 8 8 x) → Made byte a (j + 8) d g
    letters_more {a} {j} {x} {d} z m l room q s =
        subst (Made byte a (j + 8) d) (sym s)
        (made-to
        (made-sets (chars_of 8 8 x) z m (omega (arith, length-chars_of 8 8 x))
        (λ i h.
        let k : i < 8 = subst (λ (n : ℕ). i < n) (length-chars_of 8 8 x) h in
        let n : j + i - from ≡ j - from + i = omega arith in
        ap (λ (l : List ℕ). get_or l i 0) (chars_of-tab 8 8 x)
        ∙ get_or-tab 8 (λ i. x / 2 ^ (8 * i) % 2 ^ 8) i k
        ∙ ap (λ (y : ℕ). y / 2 ^ (8 * i) % 2 ^ 8) q
        ∙ letters_byte 8 (first + (j - from) * per w) i k
        ∙ ap (letters_word w (per w) ls) (add_assoc first ((j - from) * per w) (i * per w) ∙ ap (λ (p : ℕ). first + p) (sym (ap (λ (p : ℕ). p * per w) n ∙ add-mul (j - from) i (per w))))))
        (ap (λ (n : ℕ). j + n) (length-chars_of 8 8 x)))
