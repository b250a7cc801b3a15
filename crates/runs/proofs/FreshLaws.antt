-- The laws of bytes made anew: each is the byte of the splice of the whole buffer's characters.
-- Assumes nothing.
use mathlib.Core.List.{List, map}
use mathlib.Core.Path.{◌≡◌, sym, ap, ◌∙◌, subst}
use Prim.Native.Nat.{ℕ, ◌+◌, ◌-◌, ◌*◌, ◌/◌, ◌%◌, ◌^◌, ◌≤◌, ◌<◌}
use native.Mathlib.Nat.{mod-lt, mul-le-mul_right, suc-mul, add-mul, div-mul-le_self, le_trans}
use native.Mathlib.Omega.{arith}
use lib.ListN.{length, get_or}
use lib.Pow.{pow_pos}
use lib.Seq.{ext_get_or}
use Rattle.codes.specs.Codes.{IsWidth, per, char_at, tab, code}
use Rattle.codes.specs.Made.{Made}
use Rattle.codes.specs.Words.{word}
use Rattle.codes.proofs.CharLaws.{char_at-at, byte_char_at, get_or-pack, length-pack}
use Rattle.codes.proofs.MadeLaws.{made-join, made_as}
use Rattle.codes.proofs.TabLaws.{length-tab, tab-ext, Below-tab}
use Rattle.codes.proofs.WidthLaws.{below_or}
use Rattle.codes.proofs.WordLaws.{word_lt}
use Rattle.runs.specs.Bytes.{fresh_char, fresh_byte, anew, letters_word}
use Rattle.runs.specs.Runs.{splice, spliced}
use Rattle.runs.proofs.SpliceLaws.{splice-old, splice-new, splice-far, splice-lt, get_or-codes}

pub fresh_lt : (w old at : ℕ) (cs : List ℕ) (stop : ℕ) → ((i : ℕ) → get_or cs i 0 < 2 ^ w) → (i k : ℕ) → fresh_char w old at cs stop i k < 2 ^ w
unfolding fresh_char
fresh_lt w old at cs stop h i k = splice-lt (λ j. old / 2 ^ (w * k) % 2 ^ w) at cs stop (2 ^ w) (λ j. mod-lt (old / 2 ^ (w * k)) (pow_pos w)) h i

-- the first n characters of a word
pub word-tab_lt : (w n : ℕ) (f : ℕ → ℕ) → ((i : ℕ) → f i < 2 ^ w) → word w (tab n f) < 2 ^ (w * n)
word-tab_lt w n f h = subst (λ (e : ℕ). word w (tab n f) < 2 ^ (w * e)) (length-tab n f) (word_lt w (tab n f) (Below-tab w n f h))

-- a byte made anew of the same byte
module _ (w at : ℕ) (cs : List ℕ) (stop : ℕ) where
  anew-same : (d e : List ℕ) (j : ℕ) → get_or e j 0 ≡ get_or d j 0 → anew w e at cs stop j ≡ anew w d at cs stop j
  anew-same d e j q = ap (λ (x : ℕ). fresh_byte w x at cs stop j) q

module _ {w : ℕ} (W : IsWidth w) (d : List ℕ) (at : ℕ) (cs : List ℕ) (stop : ℕ) where
  -- character i of the new buffer, and byte b
  abbrev char : ℕ → ℕ
  char = splice (char_at w d) at cs stop

  abbrev byte : ℕ → ℕ
  byte b = word w (tab (per w) (λ k. char (b * per w + k)))

  -- a byte made anew of the old one
  pub fresh_is : (b : ℕ) → anew w d at cs stop b ≡ byte b
  unfolding fresh_byte fresh_char
  fresh_is b =
      ap (word w) (tab-ext (per w) (λ k. fresh_char w (get_or d b 0) at cs stop (b * per w + k) k) (λ k. char (b * per w + k))
      (λ k h.
      let f : ℕ → ℕ = λ j. get_or d b 0 / 2 ^ (w * k) % 2 ^ w in
      let i : ℕ = b * per w + k in
      below_or i at
      (λ l. splice-old f at cs stop i l ∙ sym (char_at-at W d b k h) ∙ sym (splice-old (char_at w d) at cs stop i l))
      (λ l. below_or i stop
      (λ m. splice-new f at cs stop i l m ∙ sym (splice-new (char_at w d) at cs stop i l m))
      (λ m. splice-far f at cs stop i m ∙ sym (char_at-at W d b k h) ∙ sym (splice-far (char_at w d) at cs stop i m)))))

  -- a byte before the run, and one behind it
  module _ (bytes : (b : ℕ) → get_or d b 0 < 256) where
    kept : (b : ℕ) → ((k : ℕ) → k < per w → char (b * per w + k) ≡ char_at w d (b * per w + k)) → byte b ≡ get_or d b 0
    kept b h = ap (word w) (tab-ext (per w) (λ k. char (b * per w + k)) (λ k. char_at w d (b * per w + k)) h) ∙ byte_char_at W d b (bytes b)

    pub kept_below : (b : ℕ) → b < at / per w → byte b ≡ get_or d b 0
    kept_below b h =
        kept b (λ k l. splice-old (char_at w d) at cs stop (b * per w + k) (omega (arith, mul-le-mul_right (per w) h, suc-mul b (per w), div-mul-le_self at (per w))))

    pub kept_above : (b : ℕ) → stop ≤ b * per w → byte b ≡ get_or d b 0
    kept_above b h = kept b (λ k l. splice-far (char_at w d) at cs stop (b * per w + k) (omega arith))

    -- the run from the byte of `at` to the end of the byte where it stops is all that changes
    pub made-splice : {first u : ℕ} {e : List ℕ} → Made (anew w d at cs stop) first u d e → first ≡ at / per w → stop ≤ u * per w → e ≡ spliced w d at cs stop
    made-splice {first} {u} {e} z q s =
        ext_get_or 0 e (spliced w d at cs stop) (z.long ∙ sym (length-pack w (length d) char))
        (λ j l.
        below_or j first
        (λ m. z.below j m ∙ sym (kept_below j (subst (λ (x : ℕ). j < x) q m)))
        (λ m. below_or j u (λ n. z.new j m n ∙ fresh_is j) (λ n. z.above j n ∙ sym (kept_above j (le_trans s (mul-le-mul_right (per w) n)))))
        ∙ sym (get_or-pack w (length d) char j (omega (arith, z.long))))

    -- three runs up to there, each made of the buffer as it is
    pub made-three : {first mid to last : ℕ} {e f x : List ℕ}
        → Made (anew w d at cs stop) first mid d e → Made (anew w e at cs stop) mid to e f → Made (anew w f at cs stop) to last f x
        → first ≡ at / per w → first ≤ mid → mid ≤ to → to ≤ last → stop ≤ last * per w → x ≡ spliced w d at cs stop
    made-three {e = e} {f} p q r i a b c s =
        let same = anew-same w at cs stop d in
        made-splice (made-join (made-join p q a b (λ j l m o. same e j o)) r (le_trans a b) c (λ j l m o. same f j o)) i s

-- a byte of new letters alone
pub whole_fresh : (w old at : ℕ) (ls : List ℕ) (stop b : ℕ) → at ≤ b * per w → b * per w + per w ≤ stop → b * per w - at + per w ≤ length ls
    → fresh_byte w old at (map (code w) ls) stop b ≡ letters_word w (per w) ls (b * per w - at)
unfolding fresh_byte fresh_char letters_word
whole_fresh w old at ls stop b h s l =
    ap (word w) (tab-ext (per w) (λ k. fresh_char w old at (map (code w) ls) stop (b * per w + k) k) (λ k. code w (get_or ls (b * per w - at + k) 0))
    (λ k m.
    splice-new (λ j. old / 2 ^ (w * k) % 2 ^ w) at (map (code w) ls) stop (b * per w + k) (omega arith) (omega arith)
    ∙ get_or-codes w ls (b * per w + k - at) (omega arith)
    ∙ ap (λ (x : ℕ). code w (get_or ls x 0)) (omega arith)))

-- a run of new letters alone
module _ (w : ℕ) {at from to : ℕ} (ls : List ℕ) (h : at ≤ from * per w) (l : to * per w ≤ at + length ls) where
  pub whole_room : from ≤ to → from * per w - at + (to - from) * per w ≤ length ls
  whole_room o =
      let m : to * per w ≡ from * per w + (to - from) * per w = ap (λ (x : ℕ). x * per w) (omega arith) ∙ add-mul from (to - from) (per w) in
      omega arith

  pub made-whole : {stop : ℕ} {d e : List ℕ} → Made (λ j. letters_word w (per w) ls (from * per w - at + (j - from) * per w)) from to d e
      → to * per w ≤ stop → Made (anew w d at (map (code w) ls) stop) from to d e
  made-whole {stop} {d} z s =
      made_as z
      (λ j a b.
      let p : ℕ = per w in
      let m : j * p ≡ from * p + (j - from) * p = ap (λ (x : ℕ). x * p) (omega arith) ∙ add-mul from (j - from) p in
      let n : j * p + p ≤ to * p = subst (λ (x : ℕ). x ≤ to * p) (suc-mul j p) (mul-le-mul_right p b) in
      ap (letters_word w p ls) (omega arith) ∙ sym (whole_fresh w (get_or d j 0) at ls stop j (omega arith) (omega arith) (omega arith)))
