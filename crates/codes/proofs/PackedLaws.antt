-- Packed bytes as one number: they are the bytes of the characters' word.
-- Assumes nothing.
use mathlib.Core.List.{List}
use mathlib.Core.Path.{◌≡◌, sym, ap, ap₂, ◌∙◌}
use Prim.Native.Nat.{ℕ, ◌+◌, ◌-◌, ◌*◌, ◌/◌, ◌%◌, ◌^◌, ◌≤◌, ◌<◌}
use native.Mathlib.Nat.{mul-add, mul-sub, mul_left_comm, mul_comm, mul-one, mul-le-mul_left}
use native.Mathlib.Omega.{arith}
use lib.ListN.{length, get_or}
use lib.Pow.{shr-shr}
use Rattle.codes.specs.Codes.{IsWidth, per, up, tab}
use Rattle.codes.specs.Words.{word, chars_of, pack, packed}
use Rattle.codes.proofs.TabLaws.{tab-ext, word_at, chars_of-tab}
use Rattle.codes.proofs.WidthLaws.{width_pos, up-hi, up-lo}
use Rattle.codes.proofs.WordLaws.{Below, word-chars_of}

module _ {w : ℕ} (W : IsWidth w) where
  -- where byte b starts, in bits
  bits_of : (b : ℕ) → w * (b * per w) ≡ 8 * b
  bits_of b = mul_left_comm w b (per w) ∙ ap (λ (x : ℕ). b * x) W.whole ∙ mul_comm b 8

  -- the bytes that n characters take, in bits
  pub up-bits : (n : ℕ) → (w * n ≤ 8 * up w n) × (8 * up w n < w * n + 8)
  up-bits n =
      let h = mul-le-mul_left w (up-hi W n) in
      let l = mul-le-mul_left w (up-lo W n) in
      let r : w * (n + (per w - 1)) ≡ w * n + (8 - w) = mul-add w n (per w - 1) ∙ ap (λ (x : ℕ). w * n + x) (mul-sub w (per w) 1 ∙ ap₂ (λ (x y : ℕ). x - y) W.whole (mul-one w)) in
      (omega (arith, bits_of (up w n)), omega (arith, bits_of (up w n), width_pos W, W.small))

  -- packed bytes are those of the characters' word
  pub packed-is : (cs : List ℕ) → Below w cs → packed w cs ≡ chars_of 8 (up w (length cs)) (word w cs)
  unfolding packed pack
  packed-is cs h =
      tab-ext (up w (length cs)) (λ b. word w (tab (per w) (λ k. get_or cs (b * per w + k) 0))) (λ b. word w cs / 2 ^ (8 * b) % 2 ^ 8) (λ b l. byte b)
      ∙ sym (chars_of-tab 8 (up w (length cs)) (word w cs))
    where
      char : (b k : ℕ) → get_or cs (b * per w + k) 0 ≡ word w cs / 2 ^ (8 * b) / 2 ^ (w * k) % 2 ^ w
      char b k =
          sym (word_at w cs h (b * per w + k))
          ∙ ap (λ (e : ℕ). word w cs / 2 ^ e % 2 ^ w) (mul-add w (b * per w) k ∙ ap (λ (x : ℕ). x + w * k) (bits_of b))
          ∙ ap (λ (y : ℕ). y % 2 ^ w) (sym (shr-shr (word w cs) (8 * b) (w * k)))

      byte : (b : ℕ) → word w (tab (per w) (λ k. get_or cs (b * per w + k) 0)) ≡ word w cs / 2 ^ (8 * b) % 2 ^ 8
      byte b =
          let x : ℕ = word w cs / 2 ^ (8 * b) in
          ap (word w) (tab-ext (per w) (λ k. get_or cs (b * per w + k) 0) (λ k. x / 2 ^ (w * k) % 2 ^ w) (λ k m. char b k) ∙ sym (chars_of-tab w (per w) x))
          ∙ word-chars_of w (per w) x
          ∙ ap (λ (e : ℕ). x % 2 ^ e) W.whole
