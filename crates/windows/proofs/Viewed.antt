-- Bits outside a view count for nothing: views of equal flags, both accepted, get equal windows.
-- Assumes nothing.
use mathlib.Core.List.{List}
use mathlib.Core.Path.{◌≡◌}
use Prim.Native.Nat.{ℕ, ◌-◌}
use lib.ListN.{length, replicate}
use Rattle.codes.specs.Refusals.{answer, if_done}
use Rattle.codes.proofs.Viewed.{Same, viewed}
use Rattle.lanes.specs.Lanes.{lane, padding, steps}
use Rattle.windows.specs.Windows.{windows_filled, fill_tests, windows_outcome, windows_answer, windows_after}
use Rattle.windows.specs.Windows.{Running, at_zero, step_answers, step_state, run_tests, run_outcome, run_answers, run_state}

module _ {bs : List ℕ} {o m : ℕ} {cs : List ℕ} {p n : ℕ} (s : Same 1 bs o m cs p n) (c k : ℕ) where
  module _ (skip : ℕ) where
    pub windows_outcome-viewed : (room : ℕ) → windows_outcome bs o m c k skip room ≡ windows_outcome cs p n c k skip room
    unfolding windows_outcome
    windows_outcome-viewed room = viewed s (λ l _. fill_tests l c k skip room) (λ q l xs. q)

    pub windows_answer-viewed : (room : ℕ) → windows_answer bs o m c k skip room ≡ windows_answer cs p n c k skip room
    unfolding windows_answer windows_outcome
    windows_answer-viewed room = viewed s (λ l _. fill_tests l c k skip room) (λ q l xs. answer q (steps 1 l c 1 - skip, padding 1 l c 1) (0, 0))

    pub windows_after-viewed : (out : List ℕ) → windows_after bs o m c k skip out ≡ windows_after cs p n c k skip out
    unfolding windows_after windows_outcome
    windows_after-viewed out =
        viewed s (λ l _. fill_tests l c k skip (length out)) (λ q l xs. if_done q (windows_filled xs (lane 1 l c 1) k skip (steps 1 l c 1 - skip) out) out)

  module _ (r : Running) where
    pub run_outcome-viewed : run_outcome bs o m c k r ≡ run_outcome cs p n c k r
    unfolding run_outcome
    run_outcome-viewed = viewed s (λ l xs. run_tests xs l c k r) (λ q l xs. q)

    pub run_answers-viewed : run_answers bs o m c k r ≡ run_answers cs p n c k r
    unfolding run_answers run_outcome
    run_answers-viewed = viewed s (λ l xs. run_tests xs l c k r) (λ q l xs. if_done q (step_answers xs (lane 1 l c 1) r) (replicate 8 0))

    pub run_state-viewed : run_state bs o m c k r ≡ run_state cs p n c k r
    unfolding run_state run_outcome
    run_state-viewed = viewed s (λ l xs. run_tests xs l c k r) (λ q l xs. if_done q (step_state xs (lane 1 l c 1) k r) at_zero)
