-- Every window that filling writes is whole: it has k positions, those past the view clear. None that starts in a lane is left out, and no k is
-- shut out.
-- Assumes nothing.
use Rattle.std.specs.Prelude.{Ok}
use mathlib.Core.Bool.{Bool, false, ◌&&◌, ◌||◌}
use mathlib.Core.List.{List}
use mathlib.Core.Path.{◌≡◌, sym, ap, ◌∙◌}
use Prim.Native.Nat.{ℕ, suc, ◌+◌, ◌-◌, ◌*◌, ◌/◌, ◌%◌, ◌≤◌, ◌<◌, min}
use native.Mathlib.Omega.{arith}
use lib.Dec.{ltb}
use lib.ListN.{length, get_or, drop, get_or-append}
use borrow.Author.Tests.{ltb-false, lt-ltb, le-ltb}
use Rattle.codes.specs.Codes.{pick, tab, chars}
use Rattle.codes.specs.Refusals.{answer, first, if_done, Outcome}
use Rattle.codes.specs.Windows.{window}
use Rattle.codes.specs.declared.units.Chars.{Chars}
use Rattle.codes.proofs.RefusalLaws.{neither, answer-values}
use Rattle.codes.proofs.TabLaws.{length-tab, get_or-tab}
use Rattle.codes.proofs.TestLaws.{first_behind}
use Rattle.codes.proofs.WidthLaws.{below_or}
use Rattle.lanes.specs.Lanes.{lane, padding, steps}
use Rattle.lanes.proofs.ShapeLaws.{shape_ranges, steps-none, steps-some}
use Rattle.streams.proofs.Stepping.{at_step, at_lane}
use Rattle.windows.specs.Windows.{partial, lane_window, window_tests, windows_filled, windows_outcome, windows_answer, windows_after}
use Rattle.windows.proofs.RunLaws.{window-open}
use Rattle.windows.proofs.WindowFillLaws.{fills_own, windows_open, windows_is_done}
use Rattle.windows.proofs.flags.fill_windows.Reads as fill-windows

-- where windows are not partial, and there are steps
not-partial : (n c k skip : ℕ) → (partial n c k skip).0 ≡ false → 0 < n → (k - 1 ≤ skip) × (k ≤ c)
not-partial n c k skip e h =
    let t = neither (ltb skip (k - 1)) (ltb c k) (sym (ap (λ (b : Bool). b && (ltb skip (k - 1) || ltb c k)) (lt-ltb 0 n h)) ∙ e) in
    (ltb-false skip (k - 1) t.0, ltb-false c k t.1)

-- an entry of a buffer that was filled
filled-entry : (flags : List ℕ) (n k skip count : ℕ) (out : List ℕ) (j l : ℕ) → skip ≤ j → j - skip < count → l < 8
    → get_or (windows_filled flags n k skip count out) (8 * (j - skip) + l) 0 ≡ lane_window flags n k j l
unfolding windows_filled
filled-entry flags n k skip count out j l a b d =
    let f : ℕ → ℕ = λ e. lane_window flags n k (skip + e / 8) (e % 8) in
    let q : ℕ = 8 * (j - skip) + l in
    let back : skip + (j - skip) ≡ j = omega arith in
    get_or-append (tab (8 * count) f) (drop (8 * count) out) 0 q (rw length-tab (omega arith))
    ∙ get_or-tab (8 * count) f q (omega arith)
    ∙ (λ i. lane_window flags n k (skip + at_step (j - skip) l d i) (at_lane (j - skip) l d i))
    ∙ ap (λ (x : ℕ). lane_window flags n k x l) back

-- a window of k positions, the last of them at step j of lane l
abbrev pub whole_window : List ℕ → ℕ → ℕ → ℕ → ℕ → ℕ
whole_window flags n k j l = pick (window flags (l * n + suc j - k) k) 0xffff_ffff 0

-- from step k − 1 on windows are whole
lane_whole : (flags : List ℕ) (n k j l : ℕ) → k - 1 ≤ j → lane_window flags n k j l ≡ whole_window flags n k j l
lane_whole flags n k j l h =
    let at : l * n + (suc j - k) ≡ l * n + suc j - k = omega arith in
    let long : min k (suc j) ≡ k = omega arith in
    λ i. pick (window flags (at i) (long i)) 0xffff_ffff 0

-- where filling is done, the entries of step j, from skip on
pub windows_whole : (bs : List ℕ) (o len c k skip : ℕ) (out : List ℕ) → windows_outcome bs o len c k skip (length out) ≡ Ok tt
    → (j l : ℕ) → skip ≤ j → j < steps 1 len c 1 → l < 8
    → (k - 1 ≤ j) × (get_or (windows_after bs o len c k skip out) (8 * (j - skip) + l) 0 ≡ whole_window (chars 1 bs o len) (lane 1 len c 1) k j l)
unfolding windows_after
windows_whole bs o len c k skip out done j l from below d =
    let n : ℕ = lane 1 len c 1 in
    let count : ℕ = steps 1 len c 1 - skip in
    let w = not-partial (steps 1 len c 1) c k skip (windows_open bs o len c k skip (length out) done).2 (omega arith) in
    let late : k - 1 ≤ j = omega (arith, w.0) in (
      late,
      ap (λ (u : Outcome). get_or (if_done u (windows_filled (chars 1 bs o len) n k skip count out) out) (8 * (j - skip) + l) 0) done
          ∙ filled-entry (chars 1 bs o len) n k skip count out j l from (omega arith) d
          ∙ lane_whole (chars 1 bs o len) n k j l late,
    )

-- with a skip of k − 1 entry 8 i + l is the window that starts at character i of lane l: none is left out
pub windows_all : (bs : List ℕ) (o len c k : ℕ) (out : List ℕ) → windows_outcome bs o len c k (k - 1) (length out) ≡ Ok tt → (i l : ℕ) → i < lane 1 len c 1 → l < 8
    → get_or (windows_after bs o len c k (k - 1) out) (8 * i + l) 0 ≡ pick (window (chars 1 bs o len) (l * lane 1 len c 1 + i) k) 0xffff_ffff 0
unfolding lane
windows_all bs o len c k out done i l below d =
    let w = windows_open bs o len c k (k - 1) (length out) done in
    let W = window-open bs o len c k w.0 in
    let n : ℕ = lane 1 len c 1 in
    let long : n + (c - 1) ≡ steps 1 len c 1 = steps-some 1 len c 1 (shape_ranges c 1 W.shape).0 (omega arith) in
    let enough : k ≤ c = (not-partial (steps 1 len c 1) c k (k - 1) w.2 (omega arith)).1 in
    let j : ℕ = i + (k - 1) in
    let back : i ≡ j - (k - 1) = omega arith in
    let start : l * n + suc j - k ≡ l * n + i = omega (arith, W.low) in
    ap (λ (q : ℕ). get_or (windows_after bs o len c k (k - 1) out) (8 * q + l) 0) back
    ∙ (windows_whole bs o len c k (k - 1) out done j l (omega arith) (omega (arith, W.low)) d).1
    ∙ ap (λ (p : ℕ). pick (window (chars 1 bs o len) p k) 0xffff_ffff 0) start

-- of the call: a is what it is given, x what its buffer holds at exit; m steps written, each entry of them a whole window's
pub fill_windows_whole : (κs : _) (a : _) (m : ℕ) (p : Chars) (s : _) → fill-windows.Post κs a (Ok (record { steps = m; padding = p })) s
    → let bs = a.0.now in let o = a.1.0.0 in let len = a.1.1.0.0 in let d = a.1.1.1 in let c = d.0.0 in let k = d.1.0.0 in let skip = d.1.1.0 in
    let x = s.1.1.1.1.1.1.0.now in
    (i l : ℕ) → i < m → l < 8 → (k - 1 ≤ skip + i) × (get_or x (8 * i + l) 0 ≡ whole_window (chars 1 bs o len) (lane 1 len c 1) k (skip + i) l)
unfolding windows_answer
fill_windows_whole κs a m p s post i l h d =
    let bs = a.0.now in
    let o = a.1.0.0 in
    let len = a.1.1.0.0 in
    let e = a.1.1.1 in
    let c = e.0.0 in
    let k = e.1.0.0 in
    let skip : ℕ = e.1.1.0 in
    let out = e.1.1.1.0.now in
    let done = windows_is_done bs o len c k skip out _ post.0 in
    let values = answer-values (m, p.0) (steps 1 len c 1 - skip, padding 1 len c 1) (0, 0) (0, 0)
    (post.0 ∙ ap (λ (u : Outcome). answer u (steps 1 len c 1 - skip, padding 1 len c 1) (0, 0)) done) in
    let many : m ≡ steps 1 len c 1 - skip = ap (λ (v : ℕ × ℕ). v.0) values in
    let back : skip + i - skip ≡ i = omega arith in
    let w = windows_whole bs o len c k skip out done (skip + i) l (omega arith) (omega arith) d in
    (w.0, ap (λ (x : List ℕ). get_or x (8 * i + l) 0) post.1 ∙ ap (λ (j : ℕ). get_or (windows_after bs o len c k skip out) (8 * j + l) 0) (sym back) ∙ w.1)

-- ---- no k is shut out

-- with a context of k or more there are k + 7 steps, if there is one
pub steps-enough : (len c k : ℕ) → 1 ≤ c → k ≤ c → 0 < steps 1 len c 1 → k + 7 ≤ steps 1 len c 1
unfolding lane
steps-enough len c k low h some =
    below_or len c
    (λ g. absurd (omega (arith, steps-none 1 len c 1 g)))
    (λ g. omega (arith, steps-some 1 len c 1 low g))

module _ (bs : List ℕ) (o len c k : ℕ) (opened : first (window_tests bs o len c k) ≡ Ok tt) (m : ℕ) where
  abbrev n : ℕ
  n = steps 1 len c 1

  -- so that a skip of k − 1 is allowed
  pub skip_allowed : k ≤ c → 0 < n → 8 * (n - (k - 1)) ≤ m → windows_outcome bs o len c k (k - 1) m ≡ Ok tt
  unfolding windows_outcome
  skip_allowed h some room =
      let w = window-open bs o len c k opened in
      let s = steps-enough len c k (shape_ranges c 1 w.shape).0 h some in
      let whole : (partial n c k (k - 1)).0 ≡ false = rw (lt-ltb 0 n some, le-ltb (k - 1) (k - 1) (omega arith), le-ltb c k h) in
      sym (first_behind (window_tests bs o len c k) (fills_own n c k (k - 1) m) opened 3 (le-ltb n (k - 1) (omega arith), (whole, (le-ltb m (8 * (n - (k - 1))) room, tt))))

  -- and with no step any k, with a skip of 0
  pub none_allowed : len < c → windows_outcome bs o len c k 0 m ≡ Ok tt
  unfolding windows_outcome
  none_allowed h =
      let e : 0 ≡ n = steps-none 1 len c 1 h in
      let whole : (partial n c k 0).0 ≡ false = rw (le-ltb 0 n (omega arith)) in
      sym (first_behind (window_tests bs o len c k) (fills_own n c k 0 m) opened 3 (le-ltb n 0 (omega arith), (whole, (le-ltb m (8 * (n - 0)) (omega arith), tt))))
