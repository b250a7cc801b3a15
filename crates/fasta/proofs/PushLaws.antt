-- What a push leaves in a store, read as characters: the old ones, then the new.
-- Assumes nothing.
use Rattle.std.specs.Prelude.{Ok}
use Rattle.std.proofs.Common.{◌≡◌, ℕ, ◌+◌, ◌-◌, ◌*◌, ◌^◌, ◌<◌, ◌≤◌, List, [], ◌∷◌, ◌++◌, map, length, get_or, sym, ap, ◌∙◌, subst, ap₂, append-nil, add-zero, mul-le-mul_right, add-mul, arith, ext_get_or}
use lib.ListN.{length-map}
use Rattle.codes.specs.Codes.{IsWidth, per, up, trailing, char_at, chars, code}
use Rattle.codes.proofs.CharLaws.{length-chars, get_or-chars, chars-append, chars-ext, char_at-lt, char_at-pack}
use Rattle.codes.proofs.CodeLaws.{code_lt}
use Rattle.codes.proofs.TabLaws.{Below-get_or}
use Rattle.codes.proofs.WidthLaws.{up-hi}
use Rattle.codes.proofs.WordLaws.{Below, Below-map}
use Rattle.stores.specs.Stores.{push_ascii, outcome, after}
use Rattle.runs.specs.Runs.{splice, written}
use Rattle.runs.proofs.SpliceLaws.{splice-old, splice-new, splice-lt}

module _ {w : ℕ} (W : IsWidth w) (bs : List ℕ) (at : ℕ) (cs : List ℕ) (fits : Below w cs) (room : up w (at + length cs) ≤ length bs) where
  abbrev stop : ℕ
  stop = (up w (at + length cs) + trailing) * per w

  inside : (i : ℕ) → i < at + length cs → (i < length bs * per w) × (i < stop)
  inside i h =
      let a : at + length cs ≤ up w (at + length cs) * per w = up-hi W (at + length cs) in
      let b : up w (at + length cs) * per w ≤ length bs * per w = mul-le-mul_right (per w) room in
      (omega arith, omega (arith, add-mul (up w (at + length cs)) trailing (per w)))

  char_at-written : (i : ℕ) → i < at + length cs → char_at w (written w bs at cs) i ≡ splice (char_at w bs) at cs stop i
  unfolding written
  char_at-written i h =
      char_at-pack W (length bs) (splice (char_at w bs) at cs stop) (splice-lt (char_at w bs) at cs stop (2 ^ w) (char_at-lt w bs) (Below-get_or w cs fits)) i (inside i h).0

  pub chars-written : chars w (written w bs at cs) 0 (at + length cs) ≡ chars w bs 0 at ++ cs
  chars-written =
      chars-append w (written w bs at cs) 0 at (length cs)
      ∙ ap₂ (λ (x y : List ℕ). x ++ y)
      (chars-ext w (written w bs at cs) bs 0 0 at (λ i h. char_at-written (0 + i) (omega arith) ∙ splice-old (char_at w bs) at cs stop (0 + i) (omega arith)))
      (ext_get_or 0 (chars w (written w bs at cs) (0 + at) (length cs)) cs (length-chars w (written w bs at cs) (0 + at) (length cs))
      (λ i h.
      let l : i < length cs = omega (arith, length-chars w (written w bs at cs) (0 + at) (length cs)) in
      let e : 0 + at + i - at ≡ i = omega arith in
      get_or-chars w (written w bs at cs) (0 + at) (length cs) i l
      ∙ char_at-written (0 + at + i) (omega arith)
      ∙ splice-new (char_at w bs) at cs stop (0 + at + i) (omega arith) (inside (0 + at + i) (omega arith)).1
      ∙ ap (λ (k : ℕ). get_or cs k 0) e))

module _ {w : ℕ} (W : IsWidth w) (bs : List ℕ) (at : ℕ) where
  pub push_chars : (ls : List ℕ) → outcome w (length bs) at (push_ascii ls) ≡ Ok tt → up w (at + length ls) ≤ length bs
      → chars w (after w bs at (push_ascii ls)) 0 (at + length ls) ≡ chars w bs 0 at ++ map (code w) ls
  unfolding after
  push_chars [] e h = rw e (ap (chars w bs 0) (add-zero at) ∙ sym (append-nil (chars w bs 0 at)))
  push_chars (l ∷ ls) e h =
      let n : length (map (code w) (l ∷ ls)) ≡ length (l ∷ ls) = length-map (l ∷ ls) (code w) in
      rw e
      (ap (λ (k : ℕ). chars w (written w bs at (map (code w) (l ∷ ls))) 0 (at + k)) (sym n)
      ∙ chars-written W bs at (map (code w) (l ∷ ls)) (Below-map w (code w) (code_lt W) (l ∷ ls)) (subst (λ (k : ℕ). up w (at + k) ≤ length bs) (sym n) h))
