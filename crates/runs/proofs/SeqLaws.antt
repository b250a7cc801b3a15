-- The laws of a view that is pushed: its gap, its characters, and the bytes that it shares with the store.
-- Assumes nothing.
use mathlib.Core.List.{List, [], ◌++◌}
use mathlib.Core.Path.{◌≡◌, sym, ap, ◌∙◌}
use Prim.Native.Nat.{ℕ, ◌+◌, ◌-◌, ◌*◌, ◌/◌, ◌%◌, ◌^◌, ◌≤◌, ◌<◌}
use native.Mathlib.Nat.{lt_of_lt_of_le, le_of_lt, suc-mul, mul-le-mul_right, div-add-mod', mul-add-div_right, add-mul, add_assoc, mod-lt, zero-div, zero-mod}
use native.Mathlib.Omega.{arith}
use lib.Arith.{digits_lt}
use lib.Dec.{eqb, lit<}
use lib.ListN.{length, get_or, replicate, length-append, length-replicate, get_or-replicate, get_or-append, get_or-eq_default}
use lib.Pow.{pow_pos, pow_mono}
use lib.Seq.{get_or-append-add}
use Rattle.codes.specs.Codes.{IsWidth, per, up, char_at, chars, tab}
use Rattle.codes.specs.Made.{Made}
use Rattle.codes.specs.Words.{word}
use Rattle.codes.proofs.CharLaws.{length-chars, get_or-chars, chars-fit, char_at-at}
use Rattle.codes.proofs.CodeLaws.{pick-lt}
use Rattle.codes.proofs.TabLaws.{tab-ext, get_or-tab, Below-tab, Below-get_or, word_at}
use Rattle.codes.proofs.WidthLaws.{below_or, per_pos, width_pos, up-hi, up-below, up_above, up-mono, up-whole}
use Rattle.runs.specs.Bytes.{fresh_char, fresh_byte, anew}
use Rattle.runs.specs.Runs.{seq_chars, seq_start, gap_char, splice}
use Rattle.runs.proofs.JoinLaws.{nth, both, byte_fresh, below_new, below_own, above_new, above_own}
use Rattle.runs.proofs.RoomLaws.{byte_order, up-part}
use Rattle.runs.proofs.SpliceLaws.{splice-old, splice-new}

pub get_or-right : (xs ys : List ℕ) (i : ℕ) → length xs ≤ i → get_or (xs ++ ys) i 0 ≡ get_or ys (i - length xs) 0
get_or-right xs ys i h = ap (λ (x : ℕ). get_or (xs ++ ys) x 0) (omega arith) ∙ get_or-append-add xs ys (i - length xs) 0

-- the gap behind len characters, to the end of their last byte
abbrev pub near : ℕ → ℕ → List ℕ
near w len = replicate (up w len * per w - len) (gap_char w)

module _ {w : ℕ} (W : IsWidth w) where
  -- whole bytes in front
  pub up-add : (u n : ℕ) → up w (u * per w + n) ≡ u + up w n
  up-add u n = ap (λ (x : ℕ). x / per w) (add_assoc (u * per w) n (per w - 1)) ∙ mul-add-div_right (per_pos W) u (n + (per w - 1))

  gap_fits : gap_char w < 2 ^ w
  gap_fits = lt_of_lt_of_le {m = 2} (pick-lt (eqb w 1) 1 0 2 (lit< tt) (lit< tt)) (pow_mono {i = 1} (width_pos W))

  pub gap_lt : (n i : ℕ) → get_or (replicate n (gap_char w)) i 0 < 2 ^ w
  gap_lt n i =
      below_or i n
      (λ h. rw (get_or-replicate n i (gap_char w) 0 h) gap_fits)
      (λ h. rw (get_or-eq_default (replicate n (gap_char w)) 0 {n = i} (omega (arith, length-replicate n (gap_char w)))) (pow_pos w))

  -- each character of a byte of them
  pub gap_nth : {v : ℕ} → v ≡ word w (tab (per w) (λ k. gap_char w)) → (i : ℕ) → i < per w → nth w v i ≡ gap_char w
  gap_nth q i h =
      ap (λ (x : ℕ). nth w x i) q ∙ word_at w (tab (per w) (λ k. gap_char w)) (Below-tab w (per w) (λ k. gap_char w) (λ k. gap_fits)) i ∙ get_or-tab (per w) (λ k. gap_char w) i h

  -- the run of the byte in which len characters end: what stands behind them there are the first of cs
  pub made-behind : (len : ℕ) (cs : List ℕ) (v : ℕ) {k b : ℕ} {d e : List ℕ} → k ≡ len % per w → b ≡ len / per w → 0 < k
      → ((i : ℕ) → k ≤ i → i < per w → nth w v i ≡ get_or cs (i - k) 0)
      → ((j : ℕ) → get_or e j 0 < 256) → Made (λ j. both w k (get_or d j 0) v) b (b + 1) d e → Made (anew w d len cs (up w len * per w)) (len / per w) (up w len) d e
  made-behind len cs v {k} {b} {d} {e} ks bs some vs bytes z = record {
    long = z.long;
    below = λ j h. z.below j (omega arith);
    new = λ j h l. byte_fresh W (get_or d j 0) len cs (up w len * per w) j (get_or e j 0) (bytes j) (char j (omega (arith, u)));
    above = λ j h. z.above j (omega (arith, u));
  }
    where
      p : ℕ
      p = per w

      u : up w len ≡ len / p + 1
      u = up-part W len (omega arith)

      char : (j : ℕ) → j ≡ b → (i : ℕ) → i < p → nth w (get_or e j 0) i ≡ splice (λ x. nth w (get_or d j 0) i) len cs (up w len * p) (j * p + i)
      char j q i m =
          let at : j * p + k ≡ len = ap (λ (x : ℕ). x * p + k) (q ∙ bs) ∙ omega (arith, div-add-mod' len p) in
          let top : up w len * p ≡ j * p + p = ap (λ (x : ℕ). x * p) u ∙ ap (λ (x : ℕ). (x + 1) * p) (sym (q ∙ bs)) ∙ omega (arith, suc-mul j p) in
          below_or i k
          (λ h. above_own w k v z j i (λ r. h) ∙ sym (splice-old _ len cs (up w len * p) (j * p + i) (omega arith)))
          (λ h. above_new w k v z j i q h ∙ vs i h m ∙ ap (λ (x : ℕ). get_or cs x 0) (omega arith)
          ∙ sym (splice-new _ len cs (up w len * p) (j * p + i) (omega arith) (omega arith)))

  -- the gap, where the byte is not full
  pub made-gap : (len : ℕ) {k v b : ℕ} {d e : List ℕ} → k ≡ len % per w → v ≡ word w (tab (per w) (λ k. gap_char w)) → b ≡ len / per w → 0 < k
      → ((j : ℕ) → get_or e j 0 < 256) → Made (λ j. both w k (get_or d j 0) v) b (b + 1) d e → Made (anew w d len (near w len) (up w len * per w)) (len / per w) (up w len) d e
  made-gap len {k} {v} ks vs bs some =
      let top : up w len * per w ≡ len / per w * per w + per w = ap (λ (x : ℕ). x * per w) (up-part W len (omega arith)) ∙ omega (arith, suc-mul (len / per w) (per w)) in
      made-behind len (near w len) v ks bs some
      (λ i h m. gap_nth vs i m ∙ sym (get_or-replicate (up w len * per w - len) (i - k) (gap_char w) 0 (omega (arith, top, div-add-mod' len (per w)))))

  -- and zeros
  pub made-rest : (at : ℕ) {k b : ℕ} {d e : List ℕ} → k ≡ at % per w → b ≡ at / per w → 0 < k
      → ((j : ℕ) → get_or e j 0 < 256) → Made (λ j. both w k (get_or d j 0) 0) b (b + 1) d e → Made (anew w d at [] (up w at * per w)) (at / per w) (up w at) d e
  made-rest at ks bs some = made-behind at [] 0 ks bs some (λ i h m. rw (zero-div, zero-mod))

module _ {w : ℕ} (W : IsWidth w) (len : ℕ) (view : List ℕ) (o n : ℕ) where
  abbrev st : ℕ
  st = seq_start w len o

  abbrev cs : List ℕ
  cs = seq_chars w len view o n

  abbrev gap : List ℕ
  gap = replicate (st - len) (gap_char w)

  gap_long : length gap ≡ st - len
  gap_long = length-replicate (st - len) (gap_char w)

  pub start-hi : len ≤ st
  start-hi = omega (arith, up-hi W len)

  pub seq_gap : (i : ℕ) → len ≤ i → i < st → get_or cs (i - len) 0 ≡ gap_char w
  seq_gap i h l = get_or-append gap (chars w view o n) 0 (i - len) (omega (arith, gap_long)) ∙ get_or-replicate (st - len) (i - len) (gap_char w) 0 (omega arith)

  past_gap : (i : ℕ) → st ≤ i → get_or cs (i - len) 0 ≡ get_or (chars w view o n) (i - st) 0
  past_gap i h = get_or-right gap (chars w view o n) (i - len) (omega (arith, gap_long, start-hi)) ∙ ap (λ (x : ℕ). get_or (chars w view o n) x 0) (omega (arith, gap_long, start-hi))

  pub seq_char : (i : ℕ) → st ≤ i → i - st < n → get_or cs (i - len) 0 ≡ char_at w view (o + (i - st))
  seq_char i h l = past_gap i h ∙ get_or-chars w view o n (i - st) l

  pub seq_out : (i : ℕ) → st ≤ i → n ≤ i - st → get_or cs (i - len) 0 ≡ 0
  seq_out i h l = past_gap i h ∙ get_or-eq_default (chars w view o n) 0 {n = i - st} (omega (arith, length-chars w view o n))

  pub seq_lt : (i : ℕ) → get_or cs i 0 < 2 ^ w
  seq_lt i =
      below_or i (length gap)
      (λ h. rw (get_or-append gap (chars w view o n) 0 i h) (gap_lt W (st - len) i))
      (λ h. rw (get_or-right gap (chars w view o n) i h) (Below-get_or w (chars w view o n) (chars-fit w view o n) (i - length gap)))

  pub seq_end : len + length cs ≡ st + n
  seq_end = omega (arith, start-hi, length-append gap (chars w view o n), gap_long, length-chars w view o n)

  -- character k of byte b of the store is character k of a byte of the view
  pub lined_up : (b k : ℕ) → k < per w → st ≤ b * per w + k → (up w len ≤ b) × ((o / per w + (b - up w len)) * per w + k ≡ o + (b * per w + k - st))
  lined_up b k l h =
      let p : ℕ = per w in
      let u : ℕ = up w len in
      let ub : u ≤ b = below_or b u (λ m. absurd (omega (arith, mul-le-mul_right p m, suc-mul b p))) (λ m. m) in
      let e : b * p ≡ u * p + (b - u) * p = ap (λ (x : ℕ). x * p) (omega arith) ∙ add-mul u (b - u) p in
      (ub, omega (arith, e, add-mul (o / p) (b - u) p, div-add-mod' o p))

  -- the view's bytes over those of the store
  view_room : (k : ℕ) → o + n ≤ k * per w → o / per w + (up w (st + n) - up w len) ≤ k
  view_room k h =
      let p : ℕ = per w in
      let e : up w (st + n) ≡ up w len + up w (o % p + n) = ap (up w) (add_assoc (up w len * p) (o % p) n) ∙ up-add W (up w len) (o % p + n) in
      let f : up w (o + n) ≡ o / p + up w (o % p + n) =
      ap (up w) (ap (λ (x : ℕ). x + n) (sym (div-add-mod' o p)) ∙ add_assoc (o / p * p) (o % p) n) ∙ up-add W (o / p) (o % p + n) in
      omega (arith, e, f, up-mono W (o + n) (k * p) h, up-whole W k)

  module _ (start first last : ℕ) (starts : start ≡ st) (firsts : first ≡ up w len) (lasts : last ≡ up w (start + n)) where
    pub copy_room : {lead : ℕ} → lead ≡ o / per w → (k : ℕ) → o + n ≤ k * per w → lead + (last - first) ≤ k
    copy_room q k h = omega (arith, view_room k h, ap (λ (x : ℕ). up w (x + n)) starts)

    -- copied, with the gap joined below the first and zeros above the last
    module _ (some : first < last) {lead k v rest : ℕ} {d c g e : List ℕ} (leads : lead ≡ o / per w) (ks : k ≡ o % per w) (vs : v ≡ word w (tab (per w) (λ k. gap_char w)))
        (rests : rest ≡ start + n - (last - 1) * per w)
        (copy : Made (λ j. get_or view (lead + (j - first)) 0) first last d c)
        (front : Made (λ j. both w k v (get_or c j 0)) first (first + 1) c g)
        (back : Made (λ j. both w rest (get_or g j 0) 0) (last - 1) (last - 1 + 1) g e)
        (bytes : (j : ℕ) → get_or e j 0 < 256) where
      pub made-view : Made (anew w d len cs (up w (start + n) * per w)) first last d e
      made-view = record {
        long = back.long ∙ front.long ∙ copy.long;
        below = λ j h. back.below j (omega arith) ∙ front.below j h ∙ copy.below j h;
        new = λ j h l. byte_fresh W (get_or d j 0) len cs (up w (start + n) * per w) j (get_or e j 0) (bytes j) (char j h l);
        above = λ j h. back.above j (omega arith) ∙ front.above j (omega arith) ∙ copy.above j h;
      }
        where
          p : ℕ
          p = per w

          char : (j : ℕ) → first ≤ j → j < last → (i : ℕ) → i < per w
              → nth w (get_or e j 0) i ≡ splice (λ k. nth w (get_or d j 0) i) len cs (up w (start + n) * per w) (j * per w + i)
          char j h l i m =
              let at : ℕ = j * p + i in
              let above : len ≤ at = omega (arith, up_above W len j (omega arith)) in
              let kept : at < start + n → nth w (get_or e j 0) i ≡ nth w (get_or g j 0) i = λ a. above_own w rest 0 back j i (λ q. omega (arith, ap (λ (x : ℕ). x * p) q)) in
              below_or at st
              (λ a.
              let q : j ≡ up w len = omega (arith, byte_order j (up w len) p i (o % p) (le_of_lt (mod-lt o (per_pos W))) a) in
              kept (omega arith) ∙ below_new w k v front j i (q ∙ sym firsts) (omega (arith, ap (λ (x : ℕ). x * p) q)) ∙ gap_nth W vs i m ∙ sym (seq_gap at above a))
              (λ a.
              below_or at (start + n)
              (λ b.
              kept b
              ∙ below_own w k v front j i (λ q. omega (arith, ap (λ (x : ℕ). x * p) (q ∙ firsts)))
              ∙ ap (λ (x : ℕ). nth w x i) (copy.new j h l ∙ ap (λ (x : ℕ). get_or view (x + (j - first)) 0) leads)
              ∙ sym (char_at-at W view (o / p + (j - first)) i m)
              ∙ ap (char_at w view) (ap (λ (x : ℕ). (o / p + (j - x)) * p + i) firsts ∙ (lined_up j i m a).1)
              ∙ sym (seq_char at a (omega arith)))
              (λ b.
              let q : j ≡ last - 1 = omega (arith, byte_order (last - 1) j p 0 (i + 1) (omega arith) (omega (arith, up-below W (start + n) (last - 1) (omega arith)))) in
              above_new w rest 0 back j i q (omega (arith, ap (λ (x : ℕ). x * p) q)) ∙ rw (zero-div, zero-mod) (sym (seq_out at a (omega arith)))))
              ∙ sym (splice-new (λ k. nth w (get_or d j 0) i) len cs (up w (start + n) * p) at above (digits_lt (omega arith) m))

    -- the gap in the store's last byte is the first of the characters
    pub gap_fresh : (old j : ℕ) → j < up w len → fresh_byte w old len (near w len) (up w len * per w) j ≡ fresh_byte w old len cs (up w (start + n) * per w) j
    unfolding fresh_byte fresh_char
    gap_fresh old j h =
        ap (word w) (tab-ext (per w) (λ k. fresh_char w old len (near w len) (up w len * per w) (j * per w + k) k) (λ k. fresh_char w old len cs (up w (start + n) * per w) (j * per w + k) k)
        (λ k l.
        let f : ℕ → ℕ = λ i. nth w old k in
        let at : ℕ = j * per w + k in
        let m : at < up w len * per w = digits_lt h l in
        below_or at len
        (λ a. splice-old f len (near w len) _ at a ∙ sym (splice-old f len cs _ at a))
        (λ a.
        splice-new f len (near w len) _ at a m
        ∙ get_or-replicate (up w len * per w - len) (at - len) (gap_char w) 0 (omega arith)
        ∙ sym (splice-new f len cs _ at a (omega (arith, up-hi W (start + n))) ∙ seq_gap at a (omega arith)))))
