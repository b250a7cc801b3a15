-- What holds of bytes that are a form, and where reading is not refused.
-- Assumes nothing.
use Rattle.std.specs.Prelude.{Ok, Option, Some, None}
use mathlib.Core.Bool.{true}
use mathlib.Core.List.{List}
use mathlib.Core.Path.{◌≡◌, refl, sym, ap, ap₂, ◌∙◌}
use Prim.Native.Nat.{ℕ, suc, ◌+◌, ◌-◌, ◌^◌, ◌≤◌}
use native.Mathlib.Nat.{add-sub_cancel_left, le_of_eq}
use native.Mathlib.Omega.{arith}
use lib.Dec.{leb, eqb}
use lib.ListN.{length, take, drop, length-drop}
use lib.Seq.{take_all, length-take-le}
use borrow.Author.Tests.{eqb-true, leb-true, ltb-false, not-false}
use Rattle.codes.specs.Codes.{up, trailing}
use Rattle.codes.specs.Refusals.{answer, first, Outcome}
use Rattle.codes.proofs.RefusalLaws.{answer-outcome, answer-values, both}
use Rattle.forms.specs.Reading.{head_of, body_of, is_form, form_length, base_bytes, flag_bytes, right_tracks, spare_clear, read_tests}
use Rattle.forms.specs.Numbers.{Spelling}
use Rattle.forms.proofs.FormLaws.{is_form-none, is_form-some, form_length-is}
use Rattle.codes.proofs.TestLaws.{first_none}

-- ---- a form

pub record Form (bs : List ℕ) : Type 0 where
  pub read : Spelling
  pub is : head_of bs ≡ Some read
  pub few : read.value ≤ 2 ^ 29
  pub whole : length bs ≡ suc read.size + (up 2 read.value + up 1 read.value)
  pub base_clear : spare_clear 2 read.value (take (up 2 read.value) (drop (suc read.size) bs)) ≡ true
  pub flag-clear : spare_clear 1 read.value (drop (suc read.size + up 2 read.value) bs) ≡ true

pub form_of : (bs : List ℕ) → is_form bs ≡ true → Form bs
form_of bs e = by (head_of bs) refl
  where
    by : (h : Option Spelling) → head_of bs ≡ h → Form bs
    by None q = let f = is_form-none bs q in let z : ◌≡◌ {A = ℕ} 0 1 = cc in absurd (omega arith)
    by (Some s) q =
        let p = both (leb s.value (2 ^ 29)) (right_tracks bs s.value (suc s.size)) (sym (is_form-some bs s q) ∙ e) in
        let r = both (eqb (length bs) (suc s.size + (up 2 s.value + up 1 s.value))) _ p.1 in
        let t = both (spare_clear 2 s.value (take (up 2 s.value) (drop (suc s.size) bs))) (spare_clear 1 s.value (drop (suc s.size + up 2 s.value) bs)) r.1 in
        record { read = s; is = q; few = leb-true _ _ p.0; whole = eqb-true _ _ r.0; base_clear = t.0; flag-clear = t.1 }

-- its parts, by its length and where they begin
pub base_bytes-is : (bs : List ℕ) (n body : ℕ) → n ≡ form_length bs → body ≡ body_of (head_of bs) → take (up 2 n) (drop body bs) ≡ base_bytes bs
unfolding base_bytes
base_bytes-is bs n body en eb = ap₂ (λ (m b : ℕ). take (up 2 m) (drop b bs)) en eb

pub flag_bytes-is : (bs : List ℕ) (n body : ℕ) → n ≡ form_length bs → body ≡ body_of (head_of bs) → drop (body + up 2 n) bs ≡ flag_bytes bs
unfolding flag_bytes
flag_bytes-is bs n body en eb = ap₂ (λ (m b : ℕ). drop (b + up 2 m) bs) en eb

-- a part as it is lent
part-is : (b k : ℕ) (l : List ℕ) → take (b + k - b) (drop b l) ≡ take k (drop b l)
part-is b k l = ap (λ (m : ℕ). take m (drop b l)) (add-sub_cancel_left b k)

pub length_part : (b k : ℕ) (l : List ℕ) → b + k ≤ length l → length (take (b + k - b) (drop b l)) ≡ k
length_part b k l h = ap length (part-is b k l) ∙ length-take-le k (drop b l) (omega (arith, length-drop b l))

pub rest_is : (b : ℕ) (l : List ℕ) → take (length l - b) (drop b l) ≡ drop b l
rest_is b l = take_all (length l - b) (drop b l) (le_of_eq (length-drop b l))

-- its parts as they are lent, where the base bytes are k
pub base_lent : (bs : List ℕ) (n body k : ℕ) → k ≡ up 2 n → n ≡ form_length bs → body ≡ body_of (head_of bs) → take (body + k - body) (drop body bs) ≡ base_bytes bs
base_lent bs n body k ek en eb = part-is body k bs ∙ ap (λ (m : ℕ). take m (drop body bs)) ek ∙ base_bytes-is bs n body en eb

pub flag-lent : (bs : List ℕ) (n body k : ℕ) → k ≡ up 2 n → n ≡ form_length bs → body ≡ body_of (head_of bs) → take (length bs - (body + k)) (drop (body + k) bs) ≡ flag_bytes bs
flag-lent bs n body k ek en eb = rest_is (body + k) bs ∙ ap (λ (m : ℕ). drop (body + m) bs) ek ∙ flag_bytes-is bs n body en eb

-- ---- a form that can be read into buffers of m and n bytes

pub record Readable (bs : List ℕ) (m n len body : ℕ) : Type 0 where
  pub done : first (read_tests bs m n) ≡ Ok tt
  pub len_is : len ≡ form_length bs
  pub body_is : body ≡ body_of (head_of bs)
  pub small : length bs ≤ 2 ^ 28
  pub whole : length bs ≡ body + (up 2 len + up 1 len)
  pub base_room : up 2 len + trailing ≤ m
  pub flag-room : up 1 len + trailing ≤ n

pub readable : (bs : List ℕ) (m n len body : ℕ) → answer {A = ℕ × ℕ} (Ok tt) (len, body) (0, 0) ≡ answer (first (read_tests bs m n)) (form_length bs, body_of (head_of bs)) (0, 0)
    → Readable bs m n len body
readable bs m n len body e =
    let o = answer-outcome (Ok tt) (first (read_tests bs m n)) (len, body) (form_length bs, body_of (head_of bs)) (0, 0) (0, 0) e in
    let v = answer-values (len, body) (form_length bs, body_of (head_of bs)) (0, 0) (0, 0) (e ∙ ap (λ (p : Outcome). answer p (form_length bs, body_of (head_of bs)) (0, 0)) (sym o)) in
    let h = first_none (read_tests bs m n) (sym o) in
    let f = form_of bs (not-false (is_form bs) h.1.1.1.0) in
    let l = ap (λ (p : ℕ × ℕ). p.0) v in
    let q = l ∙ form_length-is bs f.read f.is in
    let b = ap (λ (p : ℕ × ℕ). p.1) v in
    record {
      done = sym o;
      len_is = l;
      body_is = b;
      small = ltb-false (2 ^ 28) (length bs) h.0;
      whole = f.whole ∙ ap₂ (λ (x y : ℕ). x + (up 2 y + up 1 y)) (sym (b ∙ ap body_of f.is)) (sym q);
      base_room = ap_le 2 m len (form_length bs) l (ltb-false m _ h.1.1.1.1.0);
      flag-room = ap_le 1 n len (form_length bs) l (ltb-false n _ h.1.1.1.1.1.0);
    }
  where
    ap_le : (w m a b : ℕ) → a ≡ b → up w b + trailing ≤ m → up w a + trailing ≤ m
    ap_le w m a b e h = rw e h
