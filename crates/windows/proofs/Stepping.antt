-- Stepping and filling agree for flag windows: what a step answers is what filling writes at its eight entries.
-- Assumes nothing.
use Rattle.std.specs.Prelude.{Ok}
use mathlib.Core.List.{List}
use mathlib.Core.Path.{◌≡◌, sym, ap, ap₂, ◌∙◌}
use Prim.Native.Nat.{ℕ, zero, suc, ◌+◌, ◌-◌, ◌*◌, ◌≤◌, ◌<◌}
use native.Mathlib.Omega.{arith}
use lib.ListN.{length, get_or, take, drop}
use Rattle.codes.specs.Codes.{tab, chars}
use Rattle.codes.specs.Refusals.{first, if_done, Outcome}
use Rattle.codes.proofs.CharLaws.{chars-fit}
use Rattle.codes.proofs.TabLaws.{tab-ext, Below-get_or}
use Rattle.lanes.specs.Lanes.{lane, steps}
use Rattle.windows.specs.Windows.{lane_window, window_entry, windows_filled, Running, window_tests, windows_outcome, windows_after, run_outcome, run_answers, run_state, ran}
use Rattle.windows.proofs.RunLaws.{Windowed, window-open, run-right, run_done}
use Rattle.windows.proofs.TotalLaws.{state_at, state_first, state_next, state_good, answers_at}
use Rattle.windows.proofs.WindowFillLaws.{windows_open}
use Rattle.streams.proofs.Stepping.{eight, at_step, at_lane}

module _ (bs : List ℕ) (o len c k : ℕ) (opened : first (window_tests bs o len c k) ≡ Ok tt) where
  abbrev cs : List ℕ
  cs = chars 1 bs o len

  abbrev n : ℕ
  n = lane 1 len c 1

  module _ (W : Windowed bs o len c k) where
    flags : (i : ℕ) → get_or cs i 0 < 2
    flags = Below-get_or 1 cs (chars-fit 1 bs o len)

    abbrev state : ℕ → Running
    state = state_at cs flags n k W.low

    accepted : (j : ℕ) → j < steps 1 len c 1 → run_outcome bs o len c k (state j) ≡ Ok tt
    unfolding state_at
    accepted j h = run-right bs o len c k (state j) opened h (state_good cs flags n k W.low j)

    ran-is : (j : ℕ) → j ≤ steps 1 len c 1 → ran bs o len c k j ≡ state j
    unfolding ran
    ran-is zero h = sym (state_first cs flags n k W.low)
    ran-is (suc j) h =
        ap (run_state bs o len c k) (ran-is j (omega arith)) ∙ (run_done bs o len c k (state j) (accepted j h)).1 ∙ state_next cs flags n k W.low j

    ran-gives : (j : ℕ) → j < steps 1 len c 1 → (run_outcome bs o len c k (ran bs o len c k j) ≡ Ok tt) × (run_answers bs o len c k (ran bs o len c k j) ≡ tab 8 (lane_window cs n k j))
    ran-gives j h =
        let q = ran-is j (omega arith) in (
          ap (run_outcome bs o len c k) q ∙ accepted j h,
          ap (run_answers bs o len c k) q ∙ (run_done bs o len c k (state j) (accepted j h)).0 ∙ answers_at cs flags n k W.low j,
        )

  -- no step before the last is refused, and each gives whether its windows hold a set flag
  pub windows_stepping : (j : ℕ) → j < steps 1 len c 1
      → (run_outcome bs o len c k (ran bs o len c k j) ≡ Ok tt) × (run_answers bs o len c k (ran bs o len c k j) ≡ tab 8 (lane_window cs n k j))
  windows_stepping = ran-gives (window-open bs o len c k opened)

-- and from `skip` on that is what filling writes
pub windows_filling : (bs : List ℕ) (o len c k skip : ℕ) (out : List ℕ) → windows_outcome bs o len c k skip (length out) ≡ Ok tt → (j : ℕ) → skip ≤ j → j < steps 1 len c 1
    → run_answers bs o len c k (ran bs o len c k j) ≡ take 8 (drop (8 * (j - skip)) (windows_after bs o len c k skip out))
unfolding windows_after windows_filled
windows_filling bs o len c k skip out done j g h =
    (windows_stepping bs o len c k (windows_open bs o len c k skip (length out) done).0 j h).1
    ∙ tab-ext 8 (lane_window cs n k j) (λ l. window_entry cs n k skip (8 * (j - skip) + l)) at
    ∙ eight (window_entry cs n k skip) (steps 1 len c 1 - skip) (j - skip) (drop (8 * (steps 1 len c 1 - skip)) out) (omega arith)
    ∙ sym (ap (λ (u : Outcome). take 8 (drop (8 * (j - skip)) (if_done u (windows_filled cs n k skip (steps 1 len c 1 - skip) out) out))) done)
  where
    cs : List ℕ
    cs = chars 1 bs o len

    n : ℕ
    n = lane 1 len c 1

    back : skip + (j - skip) ≡ j
    back = omega arith

    at : (l : ℕ) → l < 8 → lane_window cs n k j l ≡ window_entry cs n k skip (8 * (j - skip) + l)
    at l m = ap₂ (lane_window cs n k) (sym (ap (λ (i : ℕ). skip + i) (at_step (j - skip) l m) ∙ back)) (sym (at_lane (j - skip) l m))
