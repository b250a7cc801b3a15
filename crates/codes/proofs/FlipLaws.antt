-- The low characters of a word in reverse, by a shift of the whole word's flip, over the width: within one machine word and across two.
-- Assumes nothing.
use mathlib.Core.Bool.{false}
use mathlib.Core.Path.{◌≡◌, sym, ap, ◌∙◌, subst}
use Prim.Native.Nat.{ℕ, ◌+◌, ◌-◌, ◌*◌, ◌/◌, ◌^◌, ◌≤◌, ◌<◌}
use native.Mathlib.Nat.{mul-add, mul-sub, mul-le-mul_left, le_of_mul-le-mul_left, eq_of_mul-eq-mul_left}
use Rattle.codes.specs.Codes.{IsWidth, complement}
use Rattle.codes.specs.Refusals.{bad_word}
use Rattle.codes.specs.Words.{flip}
use Rattle.codes.proofs.CodeLaws.{complement-fits}
use Rattle.codes.proofs.RefusalLaws.{word_in}
use Rattle.codes.proofs.WidthLaws.{width_pos, whole}
use Rattle.codes.proofs.WordLaws.{flip-from, flip-pair}

module _ {w : ℕ} (W : IsWidth w) where
  -- n characters of m bytes
  pub flip-shr : (m n x : ℕ) → w * n ≤ 8 * m → flip w (complement w) (8 * m / w) x / 2 ^ (8 * m - w * n) ≡ flip w (complement w) n x
  flip-shr m n x l =
      flip-from w (complement w) (complement-fits w) (8 * m / w) n (8 * m - w * n) x
      (le_of_mul-le-mul_left (subst (λ (b : ℕ). w * n ≤ b) (sym (whole W m)) l) (width_pos W))
      (sym (mul-sub w (8 * m / w) n ∙ ap (λ (b : ℕ). b - w * n) (whole W m)))

  twice : 64 / w + 64 / w ≡ 128 / w
  twice =
      eq_of_mul-eq-mul_left w (width_pos W) (64 / w + 64 / w) (128 / w)
      (mul-add w (64 / w) (64 / w) ∙ ap (λ (b : ℕ). b + b) (whole W 8) ∙ sym (whole W 16))

  -- n characters of two halves: each half is flipped, and they change places
  pub flip-shr_pair : (n lo hi : ℕ) → lo < 2 ^ 64 → w * n ≤ 128
      → (flip w (complement w) (64 / w) lo * 2 ^ 64 + flip w (complement w) (64 / w) hi) / 2 ^ (128 - w * n) ≡ flip w (complement w) n (hi * 2 ^ 64 + lo)
  flip-shr_pair n lo hi h l = ap (λ (y : ℕ). y / 2 ^ (128 - w * n)) (sym both) ∙ flip-shr 16 n (hi * 2 ^ 64 + lo) l
    where
      both : flip w (complement w) (128 / w) (hi * 2 ^ 64 + lo) ≡ flip w (complement w) (64 / w) lo * 2 ^ 64 + flip w (complement w) (64 / w) hi
      both =
          ap (λ (k : ℕ). flip w (complement w) k (hi * 2 ^ 64 + lo)) (sym twice)
          ∙ subst (λ (b : ℕ). flip w (complement w) (64 / w + 64 / w) (hi * 2 ^ b + lo) ≡ flip w (complement w) (64 / w) lo * 2 ^ b + flip w (complement w) (64 / w) hi) (whole W 8)
          (flip-pair w (complement w) (64 / w) lo hi (subst (λ (b : ℕ). lo < 2 ^ b) (sym (whole W 8)) h))

  -- a length n that is not refused has its bits among those of m bytes
  pub low_in : (m : ℕ) {len n : ℕ} → (bad_word 1 (8 * m / w) len).0 ≡ false → n ≡ len → (1 ≤ n) × (w * n ≤ 8 * m)
  low_in m {len} {n} e en =
      let i : (1 ≤ n) × (n ≤ 8 * m / w) = word_in 1 (8 * m / w) n (ap (λ (k : ℕ). (bad_word 1 (8 * m / w) k).0) en ∙ e) in
      (i.0, subst (λ (b : ℕ). w * n ≤ b) (whole W m) (mul-le-mul_left w i.1))
