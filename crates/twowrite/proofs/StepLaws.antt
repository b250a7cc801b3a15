-- The tests of a file that is written, one by one.
-- Assumes nothing.
use Rattle.std.specs.Prelude.{Result, Ok, Err}
use mathlib.Core.Bool.{Bool, true, false, ◌&&◌, not}
use mathlib.Core.List.{List, [], ◌∷◌}
use mathlib.Core.Path.{◌≡◌, refl, sym, ap, ap₂, ◌∙◌, subst}
use Prim.Native.Nat.{ℕ, zero, suc, ◌+◌, ◌*◌, ◌/◌, ◌^◌, ◌≤◌, ◌<◌}
use native.Mathlib.Nat.{div-eq_of_lt, le-div_iff_mul-le, one-mul, le_of_eq}
use native.Mathlib.Omega.{arith}
use lib.Dec.{leb, ltb, eqb}
use lib.ListN.{length, take, drop}
use borrow.Author.Tests.{lt-ltb, le-ltb, le-leb, lt-leb, eq-eqb, ne_eqb, ltb-true, ltb-false, leb-true, leb-false, eqb-true, not-false}
use Rattle.codes.specs.Answers.{says}
use Rattle.codes.specs.Codes.{chars}
use Rattle.codes.specs.Refusals.{Test, answer, first, if_done, view_tests, Outcome}
use Rattle.codes.specs.declared.refusals.Refusal.{Refusal}
use Rattle.codes.specs.declared.refusals.Refusal.TheVariants.{BadRange}
use Rattle.codes.proofs.OutcomeLaws.{answer_done}
use Rattle.codes.proofs.RefusalLaws.{answer-outcome, answer-values}
use Rattle.codes.proofs.WidthLaws.{below_or}
use Rattle.codes.proofs.TestLaws.{Stops, refused_at, first_at, answer_at, None, first_past, first_none}
use Rattle.twobit.specs.Files.{header_size, entry_size, record_size}
use Rattle.twowrite.specs.Writing.{add_tests, add_outcome, added, add_answer, bad_state, unfinished, finish_answer}
use Rattle.twowrite.specs.declared.answers.Writing.{Writing}

-- k tests do not hold, nor does the next one
pub none_next : (k : ℕ) (ts : List Test) → None (take k ts) → None (take 1 (drop k ts)) → None (take (suc k) ts)
none_next zero ts h x = x
none_next (suc k) [] h x = tt
none_next (suc k) (t ∷ ts) h x = (h.0, none_next k ts h.1 x)

-- or it holds, and its refusal is the answer
pub answer-next : {A : Type 0} (k : ℕ) (ts : List Test) (r : Refusal) (v z : A) → None (take k ts) → refused_at 0 (drop k ts) ≡ Err r → Stops 0 (drop k ts)
    → answer (Err r) z z ≡ answer (first ts) v z
answer-next k ts r v z h e x = answer_at 0 (drop k ts) r v z e x ∙ ap (λ (o : Outcome). answer o v z) (first_past k ts h)

-- one of three conditions fails, or none
pub fails_1 : (a b c : Bool) → a ≡ false → true ≡ not (a && (b && c))
fails_1 true b c e = sym (ap (λ (x : Bool). not (x && (b && c))) e)
fails_1 false b c e = refl

pub fails_2 : (a b c : Bool) → b ≡ false → true ≡ not (a && (b && c))
fails_2 true b c e = sym (ap (λ (x : Bool). not (x && c)) e)
fails_2 false b c e = refl

pub fails_3 : (a b c : Bool) → c ≡ false → true ≡ not (a && (b && c))
fails_3 true true c e = sym (ap not e)
fails_3 true false c e = refl
fails_3 false b c e = refl

pub fails_last : (a b c : Bool) → a ≡ true → b ≡ true → not c ≡ not (a && (b && c))
fails_last true true c ea eb = refl
fails_last true false c ea eb = let z : ◌≡◌ {A = ℕ} 0 1 = cc in absurd (omega arith)
fails_last false b c ea eb = let z : ◌≡◌ {A = ℕ} 0 1 = cc in absurd (omega arith)

pub all_hold : (a b c : Bool) → not (a && (b && c)) ≡ false → (a ≡ true) × (b ≡ true) × (c ≡ true)
all_hold true true true e = (refl, refl, refl)
all_hold true true false e = let z : ◌≡◌ {A = ℕ} 0 1 = cc in absurd (omega arith)
all_hold true false c e = let z : ◌≡◌ {A = ℕ} 0 1 = cc in absurd (omega arith)
all_hold false b c e = let z : ◌≡◌ {A = ℕ} 0 1 = cc in absurd (omega arith)

-- below is not at least
pub not-leb : (m n : ℕ) → ltb m n ≡ not (leb n m)
not-leb m n = below_or m n (λ l. lt-ltb m n l ∙ sym (ap not (lt-leb n m l))) (λ l. le-ltb m n l ∙ sym (ap not (le-leb n m l)))

-- a number's bytes from the k-th on are not all 0 where it takes more than k bytes
pub shifted_some : (m at : ℕ) → 0 < m → ltb 0 (at / m) ≡ leb m at
shifted_some m at h =
    below_or at m (λ l. le-ltb 0 (at / m) (le_of_eq (div-eq_of_lt l)) ∙ sym (lt-leb m at l))
    (λ l. lt-ltb 0 (at / m) ((le-div_iff_mul-le h).1 (subst (λ (x : ℕ). x ≤ at) (sym (one-mul m)) l)) ∙ sym (le-leb m at l))

-- a state that has a sequence left, and whose entry fits
module _ (k : ℕ) (s : Writing) (n : ℕ) where
  pub state_place : 0 < s.left → s.entry + entry_size k n ≤ s.stop → ltb s.place s.stop ≡ (bad_state k s n).0
  state_place h l =
      not-leb s.place s.stop
      ∙ fails_last (ltb 0 s.left) (leb (s.entry + entry_size k n) s.stop) (leb s.stop s.place) (lt-ltb 0 s.left h) (le-leb (s.entry + entry_size k n) s.stop l)

-- one of two conditions fails
and_no : (a b : Bool) → b ≡ false → (a && b) ≡ false
and_no true b e = e
and_no false b e = refl

-- a file that is not finished, and one that is
module _ (s : Writing) where
  -- the index ends behind the header, and before the next record
  abbrev between : Bool
  between = leb header_size s.stop && leb s.stop s.place

  refused : true ≡ (unfinished s).0 → answer (Err BadRange) 0 0 ≡ finish_answer s
  unfolding finish_answer
  refused e = answer_at 0 (unfinished s ∷ []) BadRange s.place 0 refl (sym e)

  pub finish_left : (s.left ≡ 0 → ⊥) → answer (Err BadRange) 0 0 ≡ finish_answer s
  finish_left h = refused (fails_1 (eqb s.left 0) (eqb s.entry s.stop) between (ne_eqb s.left 0 h))

  pub finish_entry : (s.entry ≡ s.stop → ⊥) → answer (Err BadRange) 0 0 ≡ finish_answer s
  finish_entry h = refused (fails_2 (eqb s.left 0) (eqb s.entry s.stop) between (ne_eqb s.entry s.stop h))

  pub finish_header : s.stop < header_size → answer (Err BadRange) 0 0 ≡ finish_answer s
  finish_header h =
      refused
      (fails_3 (eqb s.left 0) (eqb s.entry s.stop) between (ap (λ (b : Bool). b && leb s.stop s.place) (lt-leb header_size s.stop h)))

  pub finish_place : s.place < s.stop → answer (Err BadRange) 0 0 ≡ finish_answer s
  finish_place h =
      refused
      (fails_3 (eqb s.left 0) (eqb s.entry s.stop) between (and_no (leb header_size s.stop) (leb s.stop s.place) (lt-leb s.stop s.place h)))

  pub finish_done : s.left ≡ 0 → s.entry ≡ s.stop → header_size ≤ s.stop → s.stop ≤ s.place → answer (Ok tt) s.place 0 ≡ finish_answer s
  unfolding finish_answer
  finish_done l e k h =
      answer_done (first (unfinished s ∷ [])) s.place s.place 0
      (sym
      (first_at 1 (unfinished s ∷ []) (
        sym (fails_last (eqb s.left 0) (eqb s.entry s.stop) between (eq-eqb s.left 0 l) (eq-eqb s.entry s.stop e))
            ∙ ap₂ (λ (a b : Bool). not (a && b)) (le-leb header_size s.stop k) (le-leb s.stop s.place h),
        tt,
      )))
      refl

-- ---- adding a sequence

-- what a count says of the tests
pub sized_refused : (x : Result ℕ Refusal) (r : Refusal) (o : Outcome) (v : ℕ) → x ≡ Err r → says x ≡ answer o v 0 → o ≡ Err r
sized_refused x r o v e h = sym (answer-outcome (Err r) o 0 v 0 0 (sym (ap says e) ∙ h))

pub sized_is : (x : Result ℕ Refusal) (n : ℕ) (o : Outcome) (v : ℕ) → x ≡ Ok n → says x ≡ answer o v 0 → (o ≡ Ok tt) × (n ≡ v)
sized_is x n o v e h =
    let d : answer (Ok tt) n 0 ≡ answer o v 0 = sym (ap says e) ∙ h in
    let p : o ≡ Ok tt = sym (answer-outcome (Ok tt) o n v 0 0 d) in
    (p, answer-values n v 0 0 (d ∙ ap (λ (q : Outcome). answer q v 0) p))

-- what holds where adding is not refused
pub record Addable (k : ℕ) (s : Writing) (name m ao al : ℕ) (ys : List ℕ) (bo bl room : ℕ) : Type 0 where
  pub base_view : first (view_tests 2 m ao al) ≡ Ok tt
  pub flag-view : first (view_tests 1 (length ys) bo bl) ≡ Ok tt
  pub same : al ≡ bl
  pub short : name ≤ 255
  pub some : 0 < s.left
  pub index : s.entry + entry_size k name ≤ s.stop
  pub behind : s.stop ≤ s.place
  pub near : s.place < 2 ^ (8 * k)
  pub fits : s.place + record_size (chars 1 ys bo bl) ≤ room

pub add_done : (k : ℕ) (s : Writing) (name m ao al : ℕ) (ys : List ℕ) (bo bl room : ℕ) → first (add_tests k s name m ao al ys bo bl room) ≡ Ok tt
    → Addable k s name m ao al ys bo bl room
add_done k s name m ao al ys bo bl room e =
    let h = first_none (add_tests k s name m ao al ys bo bl room) e in
    let g = h.1.1.1.1 in
    let t = all_hold (ltb 0 s.left) (leb (s.entry + entry_size k name) s.stop) (leb s.stop s.place) g.1.1.0 in
    record {
      base_view = sym (first_at 2 (view_tests 2 m ao al) (h.0, (h.1.1.0, tt)));
      flag-view = sym (first_at 2 (view_tests 1 (length ys) bo bl) (h.1.0, (h.1.1.1.0, tt)));
      same = eqb-true al bl (not-false (eqb al bl) g.0);
      short = ltb-false 255 name g.1.0;
      some = ltb-true 0 s.left t.0;
      index = leb-true (s.entry + entry_size k name) s.stop t.1;
      behind = leb-true s.stop s.place t.2;
      near = leb-false (2 ^ (8 * k)) s.place g.1.1.1.0;
      fits = ltb-false room (s.place + record_size (chars 1 ys bo bl)) g.1.1.1.1.0;
    }

-- ---- where the index ends

stop_kept : (o : Outcome) (a b : Writing) → a.stop ≡ b.stop → (if_done o a b).stop ≡ b.stop
stop_kept (Ok tt) a b e = e
stop_kept (Err r) a b e = refl

-- stays as it is
pub add-stop : (k : ℕ) (s : Writing) (name xs : List ℕ) (ao al : ℕ) (ys : List ℕ) (bo bl : ℕ) (out : List ℕ) → (add_answer k s name xs ao al ys bo bl out).values.stop ≡ s.stop
unfolding add_answer
add-stop k s name xs ao al ys bo bl out = stop_kept (add_outcome k s name xs ao al ys bo bl out) (added k s name xs ao al ys bo bl out) s refl
