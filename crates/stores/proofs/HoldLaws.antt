-- What a store holds, and that each edit which has the room keeps it.
-- Assumes nothing.
use mathlib.Core.List.{List, ◌++◌}
use mathlib.Core.Path.{◌≡◌, refl, sym, ap, ◌∙◌, subst}
use Prim.Native.Nat.{ℕ, ◌+◌, ◌-◌, ◌*◌, ◌^◌, ◌≤◌, ◌<◌}
use native.Mathlib.Nat.{le_refl, le_trans, lt_of_lt_of_le, mul-le-mul_right, add-mul, zero-add}
use native.Mathlib.Omega.{arith}
use lib.Arith.{digits_lt}
use lib.ListN.{length, get_or, take, drop, replicate, length-append, length-drop, length-replicate, get_or-replicate, get_or-append, get_or-eq_default}
use lib.Pow.{pow_pos}
use lib.Seq.{ext_get_or, get_or-take, get_or-drop, length-take-le}
use Rattle.codes.specs.Codes.{IsWidth, per, up, trailing, char_at, chars, tab}
use Rattle.codes.specs.Words.{word, pack, packed}
use Rattle.codes.proofs.CharLaws.{char_at-lt, char_at-pack, get_or-pack, length-pack, byte_lt, byte_char_at, length-chars, get_or-chars}
use Rattle.codes.proofs.TabLaws.{tab-ext}
use Rattle.codes.proofs.WidthLaws.{below_or, up-hi, up_above}
use Rattle.stores.specs.History.{chars_after}
use Rattle.stores.specs.Stores.{Edit, still, from, over, buffer_after, length_after}
use Rattle.runs.specs.Runs.{splice, written, overwritten}
use Rattle.runs.proofs.SeqLaws.{get_or-right}
use Rattle.runs.proofs.SpliceLaws.{splice-old, splice-new, splice-far, splice-lt}
use Rattle.runs.proofs.WrittenLaws.{word-zeros}

-- packed bytes are bytes
pub pack-bytes : {w : ℕ} → IsWidth w → (n : ℕ) (f : ℕ → ℕ) → ((i : ℕ) → f i < 2 ^ w) → (j : ℕ) → get_or (pack w n f) j 0 < 256
pack-bytes {w} W n f b j =
    below_or j n
    (λ h. rw (get_or-pack w n f j h) (byte_lt W (λ k. f (j * per w + k)) (λ k. b (j * per w + k))))
    (λ h. rw (get_or-eq_default (pack w n f) 0 {n = j} (omega (arith, length-pack w n f))) (pow_pos 8))

-- a buffer that holds the characters h, zeros to the end of the 48th byte behind them, and room for these
pub record Holds (w : ℕ) (bs h : List ℕ) : Type 0 where
  pub bytes : (b : ℕ) → get_or bs b 0 < 256
  pub small : length bs ≤ 2 ^ 28
  pub room : up w (length h) + trailing ≤ length bs
  pub same : (i : ℕ) → i < (up w (length h) + trailing) * per w → char_at w bs i ≡ get_or h i 0

module _ {w : ℕ} (W : IsWidth w) (bs h : List ℕ) (at : ℕ) (cs : List ℕ) (fit : (i : ℕ) → get_or cs i 0 < 2 ^ w) where
  splice-fit : (stop i : ℕ) → splice (char_at w bs) at cs stop i < 2 ^ w
  splice-fit stop = splice-lt (char_at w bs) at cs stop (2 ^ w) (char_at-lt w bs) fit

  pub from-holds : length bs ≤ 2 ^ 28 → at ≤ length h → up w (at + length cs) + trailing ≤ length bs → ((i : ℕ) → i < at → char_at w bs i ≡ get_or h i 0)
      → Holds w (written w bs at cs) (take at h ++ cs)
  unfolding written
  from-holds m k r s =
      let stop : ℕ = (up w (at + length cs) + trailing) * per w in
      let f : ℕ → ℕ = splice (char_at w bs) at cs stop in
      let t : length (take at h) ≡ at = length-take-le at h k in
      let n : length (take at h ++ cs) ≡ at + length cs = length-append (take at h) cs ∙ ap (λ (x : ℕ). x + length cs) t in
      record {
        bytes = pack-bytes W (length bs) f (splice-fit stop);
        small = rw (length-pack w (length bs) f) m;
        room = rw (n, length-pack w (length bs) f) r;
        same = λ i l.
            let l' : i < stop = subst (λ (x : ℕ). i < (up w x + trailing) * per w) n l in
            char_at-pack W (length bs) f (splice-fit stop) i (lt_of_lt_of_le l' (mul-le-mul_right (per w) r))
            ∙ below_or i at
            (λ a. splice-old (char_at w bs) at cs stop i a ∙ s i a ∙ sym (get_or-append (take at h) cs 0 i (omega arith) ∙ get_or-take at h i 0 a))
            (λ a. splice-new (char_at w bs) at cs stop i a l' ∙ sym (get_or-right (take at h) cs i (omega arith) ∙ ap (λ (x : ℕ). get_or cs (i - x) 0) t));
      }

  over-holds : at + length cs ≤ length h → Holds w bs h → Holds w (overwritten w bs at cs) (take at h ++ (cs ++ drop (at + length cs) h))
  unfolding overwritten
  over-holds k H =
      let e : ℕ = at + length cs in
      let f : ℕ → ℕ = splice (char_at w bs) at cs e in
      let t : length (take at h) ≡ at = length-take-le at h (omega arith) in
      let tl : List ℕ = cs ++ drop e h in
      let n : length (take at h ++ tl) ≡ length h = length-append (take at h) tl ∙ omega (arith, t, length-append cs (drop e h), length-drop e h) in
      record {
        bytes = pack-bytes W (length bs) f (splice-fit e);
        small = rw (length-pack w (length bs) f) H.small;
        room = rw (n, length-pack w (length bs) f) H.room;
        same = λ i l.
            let l' : i < (up w (length h) + trailing) * per w = subst (λ (x : ℕ). i < (up w x + trailing) * per w) n l in
            char_at-pack W (length bs) f (splice-fit e) i (lt_of_lt_of_le l' (mul-le-mul_right (per w) H.room))
            ∙ below_or i at
            (λ a. splice-old (char_at w bs) at cs e i a ∙ H.same i l' ∙ sym (get_or-append (take at h) tl 0 i (omega arith) ∙ get_or-take at h i 0 a))
            (λ a.
            let g : get_or (take at h ++ tl) i 0 ≡ get_or tl (i - at) 0 = get_or-right (take at h) tl i (omega arith) ∙ ap (λ (x : ℕ). get_or tl (i - x) 0) t in
            below_or i e
            (λ b. splice-new (char_at w bs) at cs e i a b ∙ sym (g ∙ get_or-append cs (drop e h) 0 (i - at) (omega arith)))
            (λ b.
            let far = get_or-right cs (drop e h) (i - at) (omega arith) ∙ get_or-drop e h (i - at - length cs) 0 ∙ ap (λ (x : ℕ). get_or h x 0) (omega arith) in
            splice-far (char_at w bs) at cs e i b ∙ H.same i l' ∙ sym (g ∙ far)));
      }

-- the store after an edit holds the characters after it, and its buffer is as long as it was
pub record Good (w : ℕ) (bs h : List ℕ) (e : Edit) : Type 0 where
  pub holds : Holds w (buffer_after w bs e) (chars_after h e)
  pub lengths : length_after (length h) e ≡ length (chars_after h e)
  pub size : length (buffer_after w bs e) ≡ length bs

module _ {w : ℕ} (W : IsWidth w) (bs h : List ℕ) (H : Holds w bs h) where
  pub good_still : Good w bs h still
  good_still = record { holds = H; lengths = refl; size = refl }

  module _ (at : ℕ) (cs : List ℕ) (fit : (i : ℕ) → get_or cs i 0 < 2 ^ w) where
    pub good_from : at ≤ length h → up w (at + length cs) + trailing ≤ length bs → Good w bs h (from at cs)
    unfolding written
    good_from k r = record {
      holds = from-holds W bs h at cs fit H.small k r (λ i l. H.same i (omega (arith, up-hi W (length h), add-mul (up w (length h)) trailing (per w))));
      lengths = sym (length-append (take at h) cs ∙ ap (λ (x : ℕ). x + length cs) (length-take-le at h k));
      size = length-pack w (length bs) _;
    }

    pub good_over : at + length cs ≤ length h → Good w bs h (over at cs)
    unfolding overwritten
    good_over k =
        let rest : List ℕ = drop (at + length cs) h in
        record {
          holds = over-holds W bs h at cs fit k H;
          lengths = sym (length-append (take at h) (cs ++ rest) ∙ omega (arith, length-take-le at h (omega arith), length-append cs rest, length-drop (at + length cs) h));
          size = length-pack w (length bs) _;
        }

-- what a buffer holds, byte for byte
module _ {w : ℕ} (W : IsWidth w) (bs h : List ℕ) (H : Holds w bs h) where
  abbrev full : ℕ
  full = up w (length h)

  held_byte_lem : (j : ℕ) → j < full + trailing → get_or bs j 0 ≡ word w (tab (per w) (λ k. get_or h (j * per w + k) 0))
  held_byte_lem j l =
      sym (byte_char_at W bs j (H.bytes j))
      ∙ ap (word w) (tab-ext (per w) (λ k. char_at w bs (j * per w + k)) (λ k. get_or h (j * per w + k) 0) (λ k u. H.same (j * per w + k) (digits_lt l u)))

  pub held_packed : take full bs ≡ packed w h
  unfolding packed
  held_packed =
      let n : length (take full bs) ≡ full = length-take-le full bs (omega (arith, H.room)) in
      ext_get_or 0 (take full bs) (packed w h) (n ∙ sym (length-pack w full (λ i. get_or h i 0)))
      (λ j l.
      let m : j < full = omega arith in
      get_or-take full bs j 0 m ∙ held_byte_lem j (omega arith) ∙ sym (get_or-pack w full (λ i. get_or h i 0) j m))

  held_zero : (j : ℕ) → full ≤ j → j < full + trailing → get_or bs j 0 ≡ 0
  held_zero j a l =
      held_byte_lem j l
      ∙ ap (word w) (tab-ext (per w) (λ k. get_or h (j * per w + k) 0) (λ k. 0) (λ k u. get_or-eq_default h 0 {n = j * per w + k} (le_trans (up_above W (length h) j a) (omega arith))))
      ∙ word-zeros w (per w)

  zeros_to : (z : ℕ) → z ≤ trailing → take z (drop full bs) ≡ replicate z 0
  zeros_to z a =
      let d : length (drop full bs) ≡ length bs - full = length-drop full bs in
      let n : length (take z (drop full bs)) ≡ z = length-take-le z (drop full bs) (omega (arith, H.room)) in
      ext_get_or 0 (take z (drop full bs)) (replicate z 0) (n ∙ sym (length-replicate {A = ℕ} z 0))
      (λ j l.
      let m : j < z = omega arith in
      get_or-take z (drop full bs) j 0 m ∙ get_or-drop full bs j 0 ∙ held_zero (full + j) (omega arith) (omega arith) ∙ sym (get_or-replicate z j 0 0 m))

  pub held_zeros : take trailing (drop full bs) ≡ replicate trailing 0
  held_zeros = zeros_to trailing (le_refl trailing)

  pub held_chars : chars w bs 0 (length h) ≡ h
  held_chars =
      ext_get_or 0 (chars w bs 0 (length h)) h (length-chars w bs 0 (length h))
      (λ i l.
      let m : i < length h = subst (λ (n : ℕ). i < n) (length-chars w bs 0 (length h)) l in
      get_or-chars w bs 0 (length h) i m ∙ ap (char_at w bs) (zero-add i) ∙ H.same i (omega (arith, up-hi W (length h), add-mul (up w (length h)) trailing (per w))))
