-- The laws of windows: one position more, and the mark until which a lane's windows stay set.
-- Assumes nothing.
use mathlib.Core.Bool.{Bool, true, false, ◌||◌}
use mathlib.Core.List.{List, [], ◌∷◌, ◌++◌}
use mathlib.Core.Path.{◌≡◌, refl, sym, ap, ap₂, ◌∙◌}
use Prim.Native.Nat.{ℕ, zero, suc, ◌+◌, ◌-◌, ◌*◌, ◌/◌, ◌%◌, ◌^◌, ◌≤◌, ◌<◌, min}
use native.Mathlib.Nat.{add_assoc, add-zero, one-mul, min-eq_left, min-eq_right, le_of_lt}
use native.Mathlib.Numerals.{add-one}
use native.Mathlib.Omega.{arith}
use lib.Dec.{ltb, eqb}
use lib.ListN.{length, get_or, take, drop, replicate, get_or-eq_default}
use lib.Seq.{take-suc, take_all, get_or-drop}
use borrow.Author.Tests.{lt-ltb, le-ltb}
use Rattle.codes.specs.Codes.{pick, tab}
use Rattle.codes.specs.Made.{Made}
use Rattle.codes.specs.Windows.{any_set, window}
use Rattle.codes.proofs.MadeLaws.{made_none, made-on, made_as, made-to}
use Rattle.codes.proofs.OutcomeLaws.{or_true}
use Rattle.codes.proofs.TabLaws.{get_or-tab, tab-ext}
use Rattle.codes.proofs.WidthLaws.{below_or}
use Rattle.lanes.specs.Turns.{Holds}
use Rattle.windows.specs.Windows.{lane_window, window_entry}
use Rattle.windows.specs.Marks.{until_at, shown, marked, TurnsMarks}

pub or_false : (b : Bool) → (b || false) ≡ b
or_false true = refl
or_false false = refl

or_assoc : (a b c : Bool) → (a || (b || c)) ≡ (a || b || c)
or_assoc true b c = refl
or_assoc false b c = refl

any_set-snoc : (xs : List ℕ) (x : ℕ) → any_set (xs ++ x ∷ []) ≡ (any_set xs || eqb x 1)
unfolding any_set
any_set-snoc [] x = or_false (eqb x 1)
any_set-snoc (y ∷ xs) x = ap (λ (b : Bool). eqb y 1 || b) (any_set-snoc xs x) ∙ or_assoc (eqb y 1) (any_set xs) (eqb x 1)

pub window-none : (flags : List ℕ) (p : ℕ) → window flags p 0 ≡ false
unfolding window any_set
window-none flags p = refl

-- one position more
pub window-snoc : (flags : List ℕ) (p k : ℕ) → window flags p (suc k) ≡ (window flags p k || eqb (get_or flags (p + k) 0) 1)
unfolding window any_set
window-snoc flags p k =
    below_or k (length (drop p flags))
    (λ h.
    ap any_set (take-suc (drop p flags) k 0 h)
    ∙ any_set-snoc (take k (drop p flags)) (get_or (drop p flags) k 0)
    ∙ ap (λ (x : ℕ). any_set (take k (drop p flags)) || eqb x 1) (get_or-drop p flags k 0))
    (λ h.
    let z : get_or flags (p + k) 0 ≡ 0 = sym (get_or-drop p flags k 0) ∙ get_or-eq_default (drop p flags) 0 h in
    ap any_set (take_all (suc k) (drop p flags) (omega arith) ∙ sym (take_all k (drop p flags) h))
    ∙ sym (ap (λ (x : ℕ). any_set (take k (drop p flags)) || eqb x 1) z ∙ or_false (any_set (take k (drop p flags)))))

module _ (flags : List ℕ) (n k l : ℕ) where
  -- the mark shows whether a position from k back, and before step j, is set
  pub until_window : (j i : ℕ) → j ≤ suc i → ltb i (until_at flags n k j l) ≡ window flags (l * n + (suc i - k)) (j - (suc i - k))
  unfolding until_at
  until_window zero i h = le-ltb i 0 (omega arith) ∙ sym (ap (window flags (l * n + (suc i - k))) none ∙ window-none flags (l * n + (suc i - k)))
    where
      none : 0 - (suc i - k) ≡ 0
      none = omega arith
  until_window (suc j) i h =
      below_or j a
      (λ g. let e : suc j - a ≡ 0 = omega arith in let d : j - a ≡ 0 = omega arith in
      early (eqb (get_or flags (l * n + j) 0) 1) (le-ltb i (j + k) (omega arith)) (until_window j i (omega arith) ∙ ap (window flags p) d ∙ window-none flags p)
      ∙ sym (ap (window flags p) e ∙ window-none flags p))
      (λ g. let e : suc j - a ≡ suc (j - a) = omega arith in let d : a + (j - a) ≡ j = omega arith in
      late (eqb (get_or flags (l * n + j) 0) 1) (lt-ltb i (j + k) (omega arith)) (until_window j i (omega arith))
      ∙ sym (ap (window flags p) e ∙ window-snoc flags p (j - a) ∙ ap (λ (x : ℕ). window flags p (j - a) || eqb (get_or flags x 0) 1) (add_assoc (l * n) a (j - a) ∙ ap (λ (x : ℕ). l * n + x) d)))
    where
      a : ℕ
      a = suc i - k

      p : ℕ
      p = l * n + a

      until : ℕ
      until = until_at flags n k j l

      early : (b : Bool) → ltb i (j + k) ≡ false → ltb i until ≡ false → ltb i (pick b (j + k) until) ≡ false
      early true p q = p
      early false p q = q

      late : (b : Bool) → ltb i (j + k) ≡ true → ltb i until ≡ window flags p (j - a) → ltb i (pick b (j + k) until) ≡ (window flags p (j - a) || b)
      late true e q = e ∙ sym (or_true (window flags p (j - a)))
      late false e q = q ∙ sym (or_false (window flags p (j - a)))

  pub window-length : (j : ℕ) → suc j - (suc j - k) ≡ min k (suc j)
  window-length j =
      below_or k (suc j)
      (λ h. let e : suc j - (suc j - k) ≡ k = omega arith in e ∙ sym (min-eq_left (le_of_lt h)))
      (λ h. let e : suc j - (suc j - k) ≡ suc j = omega arith in e ∙ sym (min-eq_right h))

  -- a lane's answer at step j
  pub until_shown : (j : ℕ) → shown j (until_at flags n k (suc j) l) ≡ lane_window flags n k j l
  until_shown j =
      ap (λ (b : Bool). pick b 0xffff_ffff 0) (until_window (suc j) j (omega arith) ∙ ap (window flags (l * n + (suc j - k))) (window-length j))

-- ---- marks, a step at a time

module _ (flags : List ℕ) (n k skip j t : ℕ) (words marks : List ℕ) (few : t < 64) (holds : (l : ℕ) → l < 8 → Holds 1 flags (l * n + j) (get_or words l 0))
    (marked : marks ≡ tab 8 (until_at flags n k (j + t))) where
  mark_one : (l : ℕ) → l < 8 → pick (eqb (get_or words l 0 / 2 ^ t % 2) 1) (j + t + k) (get_or marks l 0) ≡ until_at flags n k (j + t + 1) l
  unfolding until_at
  mark_one l h =
      ap₂ (λ (x y : ℕ). pick (eqb x 1) (j + t + k) y)
      (ap (λ (e : ℕ). get_or words l 0 / 2 ^ e % 2) (sym (one-mul t)) ∙ holds l h t few ∙ ap (λ (p : ℕ). get_or flags p 0) (add_assoc (l * n) j t))
      (ap (λ (m : List ℕ). get_or m l 0) marked ∙ get_or-tab 8 (until_at flags n k (j + t)) l h)
      ∙ sym (ap (λ (m : ℕ). until_at flags n k m l) (add-one (j + t)))

  pub mark_more : tab 8 (λ l. pick (eqb (get_or words l 0 / 2 ^ t % 2) 1) (j + t + k) (get_or marks l 0)) ≡ tab 8 (until_at flags n k (j + t + 1))
  mark_more = tab-ext 8 (λ l. pick (eqb (get_or words l 0 / 2 ^ t % 2) 1) (j + t + k) (get_or marks l 0)) (until_at flags n k (j + t + 1)) mark_one

-- what marks after step j show are the windows of step j
pub marks_show : (flags : List ℕ) (n k skip j : ℕ) (marks : List ℕ) {x y : List ℕ} → marks ≡ tab 8 (until_at flags n k (j + 1))
    → Made (marked j marks) (8 * (j - skip)) (8 * (j + 1 - skip)) x y → Made (window_entry flags n k skip) (8 * (j - skip)) (8 * (j + 1 - skip)) x y
marks_show flags n k skip j marks e z =
    made_as z
    (λ q h l.
    let s : skip + q / 8 ≡ j = omega arith in
    ap (shown j) (ap (λ (m : List ℕ). get_or m (q % 8) 0) e ∙ get_or-tab 8 (until_at flags n k (j + 1)) (q % 8) (omega arith) ∙ ap (λ (m : ℕ). until_at flags n k m (q % 8)) (add-one j))
    ∙ until_shown flags n k (q % 8) j
    ∙ ap (λ (m : ℕ). lane_window flags n k m (q % 8)) (sym s))

-- a turn grows by a step
pub turns_more : (k skip j t : ℕ) (words : List ℕ) {marks now next x y z : List ℕ} → TurnsMarks k skip j t words marks now x y → t < 64
    → next ≡ tab 8 (λ l. pick (eqb (get_or words l 0 / 2 ^ t % 2) 1) (j + t + k) (get_or now l 0))
    → Made (marked (j + t) next) (8 * (j + t - skip)) (8 * (j + t + 1 - skip)) y z → TurnsMarks k skip j (t + 1) words marks next x z
turns_more k skip j t words {now = now} {next} h few e w flags n holds m =
    let p = h flags n holds m in
    let q = e ∙ mark_more flags n k skip j t words now few holds p.0 in
    let s : j + t + 1 ≡ j + (t + 1) = add_assoc j t 1 in (
      q ∙ ap (λ (i : ℕ). tab 8 (until_at flags n k i)) s,
      made-to (made-on p.1 (marks_show flags n k skip (j + t) next q w) (omega arith) (omega arith)) (ap (λ (i : ℕ). 8 * (i - skip)) s),
    )

pub turns_none : (k skip j : ℕ) (words marks x : List ℕ) → TurnsMarks k skip j 0 words marks marks x x
turns_none k skip j words marks x flags n holds m = (m ∙ ap (λ (i : ℕ). tab 8 (until_at flags n k i)) (sym (add-zero j)), made_none (omega arith))

-- the eight entries of step j
pub marks_place : (j skip : ℕ) (marks : List ℕ) {x y : List ℕ} → Made (λ q. shown j (get_or marks (q - 8 * (j - skip)) 0)) (8 * (j - skip)) (8 * (j - skip) + 8) x y → skip ≤ j
    → Made (marked j marks) (8 * (j - skip)) (8 * (j + 1 - skip)) x y
marks_place j skip marks z h =
    made_as (made-to z (omega arith)) (λ q m l. let s : q - 8 * (j - skip) ≡ q % 8 = omega arith in ap (λ (i : ℕ). shown j (get_or marks i 0)) s)

pub marks_none : (flags : List ℕ) (n k : ℕ) → replicate 8 0 ≡ tab 8 (until_at flags n k 0)
unfolding until_at tab
marks_none flags n k = refl
