-- The laws of a byte of letters, of which the first and the last byte of a run of letters are made.
-- Assumes nothing.
use mathlib.Core.List.{List, map}
use mathlib.Core.Path.{◌≡◌, sym, ap, ◌∙◌}
use Prim.Native.Nat.{ℕ, ◌+◌, ◌-◌, ◌*◌, ◌/◌, ◌%◌, ◌^◌, ◌≤◌, ◌<◌}
use native.Mathlib.Nat.{mul-add, suc-mul, div-add-mod', div-mul-le_self, le-div_iff_mul-le, lt-div-mul-add, mod-lt}
use native.Mathlib.Omega.{arith}
use lib.ListN.{length, get_or, get_or-eq_default}
use lib.Pow.{shl-shr, shr-shr}
use Rattle.codes.specs.Codes.{IsWidth, per, tab, code}
use Rattle.codes.specs.Made.{Made}
use Rattle.codes.proofs.CodeLaws.{code_lt}
use Rattle.codes.proofs.FieldLaws.{field_of}
use Rattle.codes.proofs.TabLaws.{length-tab, get_or-tab, Below-tab, word_at}
use Rattle.codes.proofs.WidthLaws.{below_or, per_pos, per-le, shift_fits}
use Rattle.codes.proofs.WordLaws.{Below}
use Rattle.runs.specs.Bytes.{anew, letters_word}
use Rattle.runs.specs.Runs.{splice}
use Rattle.runs.proofs.JoinLaws.{nth, both, byte_fresh, below_new, below_own, above_new, above_own}
use Rattle.runs.proofs.SpliceLaws.{splice-old, splice-new, splice-far, get_or-codes, get_or-codes_out}

module _ {w : ℕ} (W : IsWidth w) where
  -- eight letters fill the byte of the first
  pub first_next : (at n : ℕ) → 8 ≤ n → at / per w + 1 ≤ (at + n) / per w
  first_next at n h = (le-div_iff_mul-le (per_pos W)).1 (omega (arith, suc-mul (at / per w) (per w), div-mul-le_self at (per w), per-le W))

  pub first_behind : (at : ℕ) → at ≤ (at / per w + 1) * per w
  first_behind at = omega (arith, suc-mul (at / per w) (per w), lt-div-mul-add {a = at} (per_pos W))

  -- a character of letters as one number
  module _ (m : ℕ) (ls : List ℕ) (i : ℕ) where
    abbrev f : ℕ → ℕ
    f k = code w (get_or ls (i + k) 0)

    fit : Below w (tab m f)
    fit = Below-tab w m f (λ k. code_lt W (get_or ls (i + k) 0))

    letters_nth : (j : ℕ) → j < m → nth w (letters_word w m ls i) j ≡ code w (get_or ls (i + j) 0)
    unfolding letters_word
    letters_nth j h = word_at w (tab m f) fit j ∙ get_or-tab m f j h

    letters_out : (j : ℕ) → m ≤ j → nth w (letters_word w m ls i) j ≡ 0
    unfolding letters_word
    letters_out j h = word_at w (tab m f) fit j ∙ get_or-eq_default (tab m f) 0 (omega (arith, length-tab m f))

  -- a character of a number that was shifted up, and down, and cut to a byte
  shl_nth : (x k i : ℕ) → k ≤ i → i < per w → nth w (x * 2 ^ (w * k) % 2 ^ 8) i ≡ nth w x (i - k)
  shl_nth x k i h l =
      let e : w * i ≡ w * k + w * (i - k) = ap (λ (n : ℕ). w * n) (omega arith) ∙ mul-add w k (i - k) in
      field_of (x * 2 ^ (w * k)) (w * i) w 8 (shift_fits W i l)
      ∙ ap (λ (n : ℕ). n % 2 ^ w)
      (ap (λ (n : ℕ). x * 2 ^ (w * k) / 2 ^ n) e ∙ sym (shr-shr (x * 2 ^ (w * k)) (w * k) (w * (i - k))) ∙ ap (λ (n : ℕ). n / 2 ^ (w * (i - k))) (shl-shr x (w * k)))

  shr_nth : (x k i : ℕ) → i < per w → nth w (x / 2 ^ (w * k) % 2 ^ 8) i ≡ nth w x (k + i)
  shr_nth x k i l =
      field_of (x / 2 ^ (w * k)) (w * i) w 8 (shift_fits W i l)
      ∙ ap (λ (n : ℕ). n % 2 ^ w) (shr-shr x (w * k) (w * i) ∙ ap (λ (n : ℕ). x / 2 ^ n) (sym (mul-add w k i)))

  module _ (at : ℕ) (ls : List ℕ) (stop : ℕ) (eight : 8 ≤ length ls) where
    abbrev cs : List ℕ
    cs = map (code w) ls

    abbrev end : ℕ
    end = at + length ls

    abbrev p : ℕ
    p = per w

    -- the byte of `at`: the characters below it stay
    pub made-first : {k v b : ℕ} {d e : List ℕ} → k ≡ at % p → v ≡ letters_word w p ls 0 * 2 ^ (w * k) % 2 ^ 8 → b ≡ at / p → b * p + p ≤ stop
        → ((j : ℕ) → get_or e j 0 < 256) → Made (λ j. both w k (get_or d j 0) v) b (b + 1) d e → Made (anew w d at cs stop) b (b + 1) d e
    made-first {k} {v} {b} {d} {e} ks vs bs top bytes z = record {
      long = z.long;
      below = z.below;
      new = λ j h l. byte_fresh W (get_or d j 0) at cs stop j (get_or e j 0) (bytes j) (char j (omega arith));
      above = z.above;
    }
      where
        char : (j : ℕ) → j ≡ b → (i : ℕ) → i < p → nth w (get_or e j 0) i ≡ splice (λ x. nth w (get_or d j 0) i) at cs stop (j * p + i)
        char j q i m =
            let s : j * p + k ≡ at = ap (λ (x : ℕ). x * p + k) (q ∙ bs) ∙ omega (arith, div-add-mod' at p) in
            let t : j * p ≡ b * p = ap (λ (x : ℕ). x * p) q in
            below_or i k
            (λ h. above_own w k v z j i (λ r. h) ∙ sym (splice-old _ at cs stop (j * p + i) (omega arith)))
            (λ h.
            above_new w k v z j i q h
            ∙ ap (λ (x : ℕ). nth w x i) vs
            ∙ shl_nth (letters_word w p ls 0) k i h m
            ∙ letters_nth p ls 0 (i - k) (omega arith)
            ∙ sym (splice-new _ at cs stop (j * p + i) (omega arith) (omega arith) ∙ get_or-codes w ls (j * p + i - at) (omega (arith, per-le W))
            ∙ ap (λ (x : ℕ). code w (get_or ls x 0)) (omega arith)))

    -- the byte of the end, where letters stand in it: zeros up to `stop`, and the characters from there on stay
    pub made-last : {n k v b : ℕ} {d e : List ℕ} → n ≡ end % p → 0 < n → v ≡ letters_word w p ls (length ls - p) / 2 ^ (w * (p - n)) % 2 ^ 8 → b ≡ end / p → at ≤ b * p
        → end ≤ stop → k ≡ stop - b * p → ((j : ℕ) → get_or e j 0 < 256) → Made (λ j. both w k v (get_or d j 0)) b (b + 1) d e → Made (anew w d at cs stop) b (b + 1) d e
    made-last {n} {k} {v} {b} {d} {e} ns some vs bs low stops ks bytes z = record {
      long = z.long;
      below = z.below;
      new = λ j h l. byte_fresh W (get_or d j 0) at cs stop j (get_or e j 0) (bytes j) (char j (omega arith));
      above = z.above;
    }
      where
        x : ℕ
        x = letters_word w p ls (length ls - p)

        char : (j : ℕ) → j ≡ b → (i : ℕ) → i < p → nth w (get_or e j 0) i ≡ splice (λ x. nth w (get_or d j 0) i) at cs stop (j * p + i)
        char j q i m =
            let s : j * p + n ≡ end = ap (λ (x : ℕ). x * p + n) (q ∙ bs) ∙ omega (arith, div-add-mod' end p) in
            let t : j * p ≡ b * p = ap (λ (x : ℕ). x * p) q in
            let few : n ≤ p = omega (arith, mod-lt end (per_pos W)) in
            let long : p ≤ length ls = omega (arith, per-le W) in
            below_or i k
            (λ h.
            below_new w k v z j i q h
            ∙ ap (λ (y : ℕ). nth w y i) vs
            ∙ shr_nth x (p - n) i m
            ∙ below_or i n
            (λ l.
            letters_nth p ls (length ls - p) (p - n + i) (omega arith)
            ∙ sym (get_or-codes w ls (j * p + i - at) (omega arith) ∙ ap (λ (y : ℕ). code w (get_or ls y 0)) (omega arith)))
            (λ l. letters_out p ls (length ls - p) (p - n + i) (omega arith) ∙ sym (get_or-codes_out w ls (j * p + i - at) (omega arith)))
            ∙ sym (splice-new _ at cs stop (j * p + i) (omega arith) (omega arith)))
            (λ h. below_own w k v z j i (λ r. h) ∙ sym (splice-far _ at cs stop (j * p + i) (omega arith)))
