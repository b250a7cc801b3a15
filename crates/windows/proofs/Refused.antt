-- For each public call: where its number is not 0, every other number is 0, each answer, each count and the step among them, and the lent buffer
-- is what it was.
-- Assumes nothing.
use lib.ListN.{replicate}
use Rattle.codes.proofs.Permitted.{Refuses, skip}
use Rattle.codes.proofs.RefusalLaws.{refused_keeps}
use Rattle.streams.specs.Answers.{filled_says}
use Rattle.windows.specs.Answers.{ran_says}
use Rattle.windows.specs.Windows.{windows_outcome, windows_answer, windows_after, run_outcome, run_answers, run_state}
use Rattle.windows.proofs.flags.fill_windows.Kinds as flags-fill-windows·kinds
use Rattle.windows.proofs.flags.fill_windows.Reads as flags-fill-windows
use Rattle.windows.proofs.flags.step_windows.Kinds as flags-step-windows·kinds
use Rattle.windows.proofs.flags.step_windows.Reads as flags-step-windows

pub flags_fill_windows_refused : Refuses 2 flags-fill-windows·kinds.ps flags-fill-windows·kinds.r flags-fill-windows.Post (λ κs. filled_says)
    (λ κs a. ((0, 0), skip 6 (a.1.1.1.1.1.1.0.now, tt)))
unfolding windows_answer windows_after windows_outcome
flags_fill_windows_refused κs a x v p h = let n = rw p.0 at h in let e = simp refused_keeps at p in λ i. ((e.0 i).values, skip 6 (e.1 i, tt))

pub flags_step_windows_refused : Refuses 1 flags-step-windows·kinds.ps flags-step-windows·kinds.r flags-step-windows.Post (λ κs. ran_says)
    (λ κs a. ((replicate 8 0, record { counts = replicate 8 0; at = 0 }), skip 6 tt))
unfolding run_answers run_state run_outcome
flags_step_windows_refused κs a x v p h = let n = rw p.0 at h in let e = simp refused_keeps at p.1 in λ i. ((e.0 i, e.1 i), skip 6 tt)
