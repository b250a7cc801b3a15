-- The laws of running counts: at step j a lane's count is the number of set flags among the k − 1 positions before it.
-- Assumes nothing.
use mathlib.Core.Bool.{Bool, false, ◌||◌}
use mathlib.Core.List.{List}
use mathlib.Core.Path.{◌≡◌, refl, sym, ap, ap₂, ◌∙◌}
use Prim.Native.Nat.{ℕ, zero, suc, ◌+◌, ◌-◌, ◌*◌, ◌≤◌, ◌<◌}
use native.Mathlib.Nat.{add_assoc, add-suc, add-zero, zero-add, suc-add, sub-zero, suc-sub-suc}
use native.Mathlib.Numerals.{add-one}
use native.Mathlib.Omega.{arith}
use lib.Dec.{ltb, eqb}
use lib.ListN.{get_or}
use borrow.Author.Tests.{lt-ltb, le-ltb, eq-eqb}
use Rattle.codes.specs.Codes.{pick, tab}
use Rattle.codes.specs.Windows.{window}
use Rattle.codes.proofs.OutcomeLaws.{or_true}
use Rattle.codes.proofs.TabLaws.{get_or-tab, tab-ext}
use Rattle.codes.proofs.WidthLaws.{below_or}
use Rattle.windows.specs.Windows.{lane_window, Running, at_zero, summed, leaving, any_lane, bad_state, step_answers, step_state}
use Rattle.windows.proofs.WindowLaws.{window-none, window-snoc, window-length, or_false}

-- the sum of m elements from place p on
unfoldable pub total : List ℕ → ℕ → ℕ → ℕ
total cs p zero = 0
total cs p (suc m) = total cs p m + get_or cs (p + m) 0

-- a run less its first element
pub total_cons : (cs : List ℕ) (p m : ℕ) → total cs p (suc m) ≡ get_or cs p 0 + total cs (suc p) m
unfolding total
total_cons cs p zero = zero-add (get_or cs (p + 0) 0) ∙ ap (λ (i : ℕ). get_or cs i 0) (add-zero p) ∙ sym (add-zero (get_or cs p 0))
total_cons cs p (suc m) =
    ap₂ (λ (x y : ℕ). x + y) (total_cons cs p m) (ap (λ (i : ℕ). get_or cs i 0) (add-suc p m ∙ sym (suc-add p m)))
    ∙ add_assoc (get_or cs p 0) (total cs (suc p) m) (get_or cs (suc p + m) 0)

none_lane : (n : ℕ) (f : ℕ → Bool) → ((l : ℕ) → l < n → f l ≡ false) → any_lane n f ≡ false
none_lane zero f h = refl
none_lane (suc n) f h = ap₂ (λ (a b : Bool). a || b) (none_lane n f (λ l m. h l (omega arith))) (h n (omega arith))

module _ (cs : List ℕ) (flags : (i : ℕ) → get_or cs i 0 < 2) where
  -- a sum is above 0 where a flag of its run is set
  pub total_window : (p m : ℕ) → ltb 0 (total cs p m) ≡ window cs p m
  unfolding total
  total_window p zero = sym (window-none cs p)
  total_window p (suc m) =
      below_or 0 (get_or cs (p + m) 0)
      (λ h.
      let e : get_or cs (p + m) 0 ≡ 1 = omega (arith, flags (p + m)) in
      lt-ltb 0 (total cs p m + get_or cs (p + m) 0) (omega arith)
      ∙ sym (window-snoc cs p m ∙ ap (λ (b : Bool). window cs p m || b) (eq-eqb (get_or cs (p + m) 0) 1 e) ∙ or_true (window cs p m)))
      (λ h.
      let e : get_or cs (p + m) 0 ≡ 0 = omega arith in
      ap (λ (x : ℕ). ltb 0 (total cs p m + x)) e
      ∙ ap (ltb 0) (add-zero (total cs p m))
      ∙ total_window p m
      ∙ sym (window-snoc cs p m ∙ ap (λ (x : ℕ). window cs p m || eqb x 1) e ∙ or_false (window cs p m)))

  pub total_le : (p m : ℕ) → total cs p m ≤ m
  unfolding total
  total_le p zero = omega arith
  total_le p (suc m) = omega (arith, total_le p m, flags (p + m))

  module _ (n k : ℕ) (low : 1 ≤ k) where
    -- the count before step j
    abbrev count_at : ℕ → ℕ → ℕ
    count_at j l = total cs (l * n + (suc j - k)) (j - (suc j - k))

    unfoldable pub state_at : ℕ → Running
    state_at j = record { counts = tab 8 (count_at j); at = j }

    module _ (j l : ℕ) (h : l < 8) where
      count_at_lem : get_or (state_at j).counts l 0 ≡ count_at j l
      unfolding state_at
      count_at_lem = get_or-tab 8 (count_at j) l h

      -- a sum is that of the window's flags
      sum-at : summed cs n (state_at j) l ≡ total cs (l * n + (suc j - k)) (suc j - (suc j - k))
      unfolding state_at total
      sum-at =
          let d : suc j - (suc j - k) ≡ suc (j - (suc j - k)) = omega arith in
          let e : suc j - k + (j - (suc j - k)) ≡ j = omega arith in
          let enters = ap (λ (b : Bool). pick b 0 (get_or cs (l * n + (j - 0)) 0)) (le-ltb j 0 (omega arith)) in
          let place : l * n + (j - 0) ≡ l * n + (suc j - k) + (j - (suc j - k)) = ap (λ (i : ℕ). l * n + i) (sub-zero j ∙ sym e) ∙ sym (add_assoc (l * n) (suc j - k) (j - (suc j - k))) in
          ap₂ (λ (x y : ℕ). x + y) count_at_lem (enters ∙ ap (λ (i : ℕ). get_or cs i 0) place)
          ∙ sym (ap (total cs (l * n + (suc j - k))) d)

      -- what leaves, and the next count
      left_at : total cs (l * n + (suc j - k)) (suc j - (suc j - k)) ≡ leaving cs n k (state_at j) l + count_at (suc j) l
      unfolding state_at
      left_at =
          below_or j (k - 1)
          (λ g.
          let a : suc j - k ≡ 0 = omega arith in
          let b : suc (suc j) - k ≡ 0 = omega arith in
          ap (λ (x : ℕ). total cs (l * n + x) (suc j - x)) (a ∙ sym b)
          ∙ sym (ap (λ (t : Bool). pick t 0 (get_or cs (l * n + (j - (k - 1))) 0) + count_at (suc j) l) (lt-ltb j (k - 1) g) ∙ zero-add (count_at (suc j) l)))
          (λ g.
          let a : suc j - (suc j - k) ≡ suc (j - (suc j - k)) = omega arith in
          let b : suc (suc j) - k ≡ suc (suc j - k) = omega arith in
          let d : j - (k - 1) ≡ suc j - k = omega arith in
          let e : suc j - suc (suc j - k) ≡ j - (suc j - k) = suc-sub-suc j (suc j - k) in
          ap (total cs (l * n + (suc j - k))) a
          ∙ total_cons cs (l * n + (suc j - k)) (j - (suc j - k))
          ∙ sym (ap₂ (λ (t : Bool) (i : ℕ). pick t 0 (get_or cs (l * n + i) 0) + count_at (suc j) l) (le-ltb j (k - 1) g) d
          ∙ ap (λ (x : ℕ). get_or cs (l * n + (suc j - k)) 0 + x)
          (ap (λ (x : ℕ). total cs (l * n + x) (suc j - x)) b ∙ ap₂ (λ (p m : ℕ). total cs p m) (add-suc (l * n) (suc j - k)) e)))

    pub state_next : (j : ℕ) → step_state cs n k (state_at j) ≡ state_at (suc j)
    unfolding state_at step_state
    state_next j =
        ap₂ (λ (c : List ℕ) (i : ℕ). record { counts = c; at = i })
        (tab-ext 8 (λ l. summed cs n (state_at j) l - leaving cs n k (state_at j) l) (count_at (suc j))
        (λ l h. let e = sum-at j l h ∙ left_at j l h in ap (λ (x : ℕ). x - leaving cs n k (state_at j) l) e ∙ omega arith))
        (add-one j)

    pub state_good : (j : ℕ) → (bad_state cs n k (state_at j)).0 ≡ false
    unfolding state_at
    state_good j =
        none_lane 8 (λ l. ltb (k - 1) (get_or (state_at j).counts l 0) || ltb (summed cs n (state_at j) l) (leaving cs n k (state_at j) l))
        (λ l h.
        ap₂ (λ (a b : Bool). a || b) (le-ltb (k - 1) (get_or (state_at j).counts l 0) (omega (arith, count_at_lem j l h, total_le (l * n + (suc j - k)) (j - (suc j - k)))))
        (le-ltb (summed cs n (state_at j) l) (leaving cs n k (state_at j) l) (omega (arith, sum-at j l h, left_at j l h))))

    pub answers_at : (j : ℕ) → step_answers cs n (state_at j) ≡ tab 8 (lane_window cs n k j)
    unfolding state_at step_answers
    answers_at j =
        tab-ext 8 (λ l. pick (ltb 0 (summed cs n (state_at j) l)) 0xffff_ffff 0) (lane_window cs n k j)
        (λ l h.
        ap (λ (b : Bool). pick b 0xffff_ffff 0)
        (ap (ltb 0) (sum-at j l h) ∙ total_window (l * n + (suc j - k)) (suc j - (suc j - k)) ∙ ap (window cs (l * n + (suc j - k))) (window-length cs n k l j)))

    pub state_first : state_at 0 ≡ at_zero
    unfolding state_at tab total
    state_first =
        ap (λ (c : List ℕ). record { counts = c; at = 0 })
        (tab-ext 8 (count_at 0) (λ _. 0) (λ l h. let e : 0 - (1 - k) ≡ 0 = omega arith in ap (total cs (l * n + (1 - k))) e))
