-- Round trips: a form that was written reads back, and a form that was read is written back the same; so every accepted form is one that writing makes.
-- Assumes nothing.
use Rattle.std.specs.Prelude.{Some, None}
use mathlib.Core.Bool.{Bool, true, false}
use mathlib.Core.List.{List, [], ◌∷◌, ◌++◌}
use mathlib.Core.Path.{◌≡◌, refl, sym, ap, ap₂, ◌∙◌, subst}
use Prim.Native.Nat.{ℕ, suc, ◌+◌, ◌^◌, ◌≤◌}
use native.Mathlib.Nat.{suc-add}
use native.Mathlib.Omega.{arith}
use lib.Dec.{eqb}
use lib.ListN.{length, take, drop, length-append, length-drop, take-append-drop}
use lib.Seq.{take_at, drop_at, drop-drop, length-take-le}
use borrow.Author.Tests.{eqb-true}
use Rattle.codes.specs.Codes.{up, pick, chars}
use Rattle.codes.specs.Words.{packed}
use Rattle.codes.proofs.CharLaws.{length-chars, chars-fit, unpacked}
use Rattle.codes.specs.Widths.{width_1, width_2}
use Rattle.codes.proofs.WordLaws.{Below, Below-drop}
use Rattle.forms.specs.Forms.{stored}
use Rattle.forms.specs.Reading.{head_of, body_of, is_form, form_length, base_bytes, flag_bytes, spare_clear}
use Rattle.forms.specs.Numbers.{Spelling, spelt, spelling}
use Rattle.forms.proofs.FormLaws.{is_form-tracks, form_length-is, tracks_flag}
use Rattle.forms.proofs.NumberLaws.{spelling-spelt, spelt-spelling, Below-take}
use Rattle.forms.proofs.ReadLaws.{Form, form_of, base_bytes-is, flag_bytes-is}
use Rattle.forms.proofs.TrackLaws.{length-packed, spare_packed, packed-spare}

-- ---- written, then read

-- bytes that are the form of these bases and flags
pub record Reads (cs fs bs : List ℕ) : Type 0 where
  pub accepted : is_form bs ≡ true
  pub long : form_length bs ≡ length cs
  pub base_bytes_lem : base_bytes bs ≡ packed 2 cs
  pub flag-bytes : flag_bytes bs ≡ packed 1 fs
  pub bases : chars 2 (base_bytes bs) 0 (length cs) ≡ cs
  pub flags : chars 1 (flag_bytes bs) 0 (length cs) ≡ fs

module _ (cs fs : List ℕ) (codes : Below 2 cs) (marks : Below 1 fs) (same : length fs ≡ length cs) (few : length cs ≤ 2 ^ 29) where
  n : ℕ
  n = length cs

  size : ℕ
  unfolding n
  size = length (spelt 5 n)

  head : Spelling
  unfolding n size
  head = record { value = n; size = size }

  is : head_of (stored cs fs) ≡ Some head
  unfolding stored head_of n size head
  is = spelling-spelt 4 (length cs) (packed 2 cs ++ packed 1 fs) (omega arith)

  -- behind the head stand the base bytes, and behind them the flag bytes
  behind : drop (suc size) (stored cs fs) ≡ packed 2 cs ++ packed 1 fs
  unfolding stored n size
  behind = drop_at (spelt 5 (length cs)) (packed 2 cs ++ packed 1 fs) (length (spelt 5 (length cs))) refl

  base_part : take (up 2 n) (drop (suc size) (stored cs fs)) ≡ packed 2 cs
  unfolding n
  base_part = ap (take (up 2 n)) behind ∙ take_at (packed 2 cs) (packed 1 fs) (up 2 (length cs)) (length-packed width_2 cs)

  flag-part : drop (suc size + up 2 n) (stored cs fs) ≡ packed 1 fs
  unfolding n
  flag-part =
      sym (drop-drop (up 2 n) (suc size) (stored cs fs)) ∙ ap (drop (up 2 n)) behind ∙ drop_at (packed 2 cs) (packed 1 fs) (up 2 (length cs)) (length-packed width_2 cs)

  base_clear : spare_clear 2 n (take (up 2 n) (drop (suc size) (stored cs fs))) ≡ true
  unfolding n
  base_clear = ap (spare_clear 2 n) base_part ∙ spare_packed width_2 cs codes

  flag-clear : spare_clear 1 n (packed 1 fs) ≡ true
  unfolding n
  flag-clear = subst (λ (k : ℕ). spare_clear 1 k (packed 1 fs) ≡ true) same (spare_packed width_1 fs marks)

  tracks_long : length (packed 2 cs ++ packed 1 fs) ≡ up 2 n + up 1 n
  unfolding n
  tracks_long = length-append (packed 2 cs) (packed 1 fs) ∙ ap₂ (λ (p q : ℕ). p + q) (length-packed width_2 cs) (length-packed width_1 fs ∙ ap (up 1) same)

  whole : length (stored cs fs) ≡ suc size + (up 2 n + up 1 n)
  unfolding stored n size
  whole =
      ap suc (length-append (spelt 5 (length cs)) (packed 2 cs ++ packed 1 fs) ∙ ap (λ (k : ℕ). length (spelt 5 (length cs)) + k) tracks_long)
      ∙ sym (suc-add (length (spelt 5 (length cs))) (up 2 (length cs) + up 1 (length cs)))

  pub round_trip_written : Reads cs fs (stored cs fs)
  unfolding n size head
  round_trip_written =
      let l = form_length-is (stored cs fs) head is in
      let b = ap body_of is in
      let base = sym (base_bytes-is (stored cs fs) (length cs) (suc size) (sym l) (sym b)) ∙ base_part in
      let flag = sym (flag_bytes-is (stored cs fs) (length cs) (suc size) (sym l) (sym b)) ∙ flag-part in
      record {
        accepted = is_form-tracks (stored cs fs) head is few ∙ sym (tracks_flag (stored cs fs) n (suc size) whole base_clear) ∙ ap (spare_clear 1 n) flag-part ∙ flag-clear;
        long = l;
        base_bytes_lem = base;
        flag-bytes = flag;
        bases = ap (λ (t : List ℕ). chars 2 t 0 (length cs)) base ∙ unpacked width_2 cs codes;
        flags = ap₂ (λ (t : List ℕ) (k : ℕ). chars 1 t 0 k) flag (sym same) ∙ unpacked width_1 fs marks;
      }

-- ---- read, then written

head_parts : (b : ℕ) (bs : List ℕ) (s : Spelling) → head_of (b ∷ bs) ≡ Some s → (b ≡ 1) × (spelling 5 bs ≡ Some s)
unfolding head_of
head_parts b bs s e = by (eqb b 1) refl e
  where
    by : (t : Bool) → eqb b 1 ≡ t → pick t (spelling 5 bs) None ≡ Some s → (b ≡ 1) × (spelling 5 bs ≡ Some s)
    by true q e = (eqb-true b 1 q, e)
    by false q e = let z : ◌≡◌ {A = ℕ} 0 1 = cc in absurd (omega arith)

-- the bytes of a form are its head and its two parts
form_joined : (bs : List ℕ) (s : Spelling) (u : ℕ) → Below 8 bs → head_of bs ≡ Some s → 1 ∷ (spelt 5 s.value ++ (take u (drop (suc s.size) bs) ++ drop (suc s.size + u) bs)) ≡ bs
unfolding head_of
form_joined [] s u h e = let z : ◌≡◌ {A = ℕ} 0 1 = cc in absurd (omega arith)
form_joined (b ∷ bs) s u h e =
    let p = head_parts b bs s e in
    let q = spelt-spelling 5 bs s h.1 p.1 in
    ap₂ (λ (x : ℕ) (l : List ℕ). x ∷ l) (sym p.0)
    (ap₂ (λ (x y : List ℕ). x ++ (take u (drop s.size bs) ++ y)) q.0 (ap (λ (k : ℕ). drop k (b ∷ bs)) (suc-add s.size u) ∙ sym (drop-drop u s.size bs))
    ∙ ap (λ (l : List ℕ). take s.size bs ++ l) (take-append-drop u (drop s.size bs))
    ∙ take-append-drop s.size bs)

-- a form of n characters whose parts leave no spare bit
restored : (bs : List ℕ) → Below 8 bs → (f : Form bs) (n : ℕ) (xs ys : List ℕ) → n ≡ f.read.value
    → xs ≡ take (up 2 n) (drop (suc f.read.size) bs) → ys ≡ drop (suc f.read.size + up 2 n) bs → stored (chars 2 xs 0 n) (chars 1 ys 0 n) ≡ bs
unfolding stored
restored bs h f n xs ys en ex ey =
    ap₂ (λ (k : ℕ) (l : List ℕ). 1 ∷ (spelt 5 k ++ l)) (length-chars 2 xs 0 n ∙ en)
    (ap₂ (λ (p q : List ℕ). p ++ q)
    (packed-spare width_2 n xs (subst (Below 8) (sym ex) base_fit) (ap length ex ∙ length-take-le (up 2 n) (drop (suc k) bs) room) (ap (spare_clear 2 n) ex ∙ base_clear) ∙ ex)
    (packed-spare width_1 n ys (subst (Below 8) (sym ey) (Below-drop 8 (suc k + up 2 n) bs h)) (ap length ey ∙ flag-long) (ap (spare_clear 1 n) ey ∙ flag-clear) ∙ ey))
    ∙ form_joined bs f.read (up 2 n) h f.is
  where
    k : ℕ
    k = f.read.size

    whole : length bs ≡ suc k + (up 2 n + up 1 n)
    whole = f.whole ∙ ap (λ (m : ℕ). suc k + (up 2 m + up 1 m)) (sym en)

    base_fit : Below 8 (take (up 2 n) (drop (suc k) bs))
    base_fit = Below-take 8 (up 2 n) (drop (suc k) bs) (Below-drop 8 (suc k) bs h)

    room : up 2 n ≤ length (drop (suc k) bs)
    room = omega (arith, whole, length-drop (suc k) bs)

    flag-long : length (drop (suc k + up 2 n) bs) ≡ up 1 n
    flag-long = omega (arith, whole, length-drop (suc k + up 2 n) bs)

    base_clear : spare_clear 2 n (take (up 2 n) (drop (suc k) bs)) ≡ true
    base_clear = ap (λ (m : ℕ). spare_clear 2 m (take (up 2 m) (drop (suc k) bs))) en ∙ f.base_clear

    flag-clear : spare_clear 1 n (drop (suc k + up 2 n) bs) ≡ true
    flag-clear = ap (λ (m : ℕ). spare_clear 1 m (drop (suc k + up 2 m) bs)) en ∙ f.flag-clear

pub round_trip_read : (bs : List ℕ) → Below 8 bs → is_form bs ≡ true → stored (chars 2 (base_bytes bs) 0 (form_length bs)) (chars 1 (flag_bytes bs) 0 (form_length bs)) ≡ bs
round_trip_read bs h e =
    let f = form_of bs e in
    let l = form_length-is bs f.read f.is in
    let b = sym (ap body_of f.is) in
    let n = form_length bs in
    let k = suc f.read.size in
    restored bs h f n (base_bytes bs) (flag_bytes bs) l (sym (base_bytes-is bs n k refl b)) (sym (flag_bytes-is bs n k refl b))

-- every accepted form is one that writing makes
pub record Stored (bs : List ℕ) : Type 0 where
  pub cs : List ℕ
  pub fs : List ℕ
  pub codes : Below 2 cs
  pub marks : Below 1 fs
  pub same : length fs ≡ length cs
  pub few : length cs ≤ 2 ^ 29
  pub is : stored cs fs ≡ bs

pub form_stored : (bs : List ℕ) → Below 8 bs → is_form bs ≡ true → Stored bs
form_stored bs h e =
    let f = form_of bs e in
    let n = form_length bs in
    record {
      cs = chars 2 (base_bytes bs) 0 n;
      fs = chars 1 (flag_bytes bs) 0 n;
      codes = chars-fit 2 (base_bytes bs) 0 n;
      marks = chars-fit 1 (flag_bytes bs) 0 n;
      same = length-chars 1 (flag_bytes bs) 0 n ∙ sym (length-chars 2 (base_bytes bs) 0 n);
      few = omega (arith, length-chars 2 (base_bytes bs) 0 n, form_length-is bs f.read f.is, f.few);
      is = round_trip_read bs h e;
    }
