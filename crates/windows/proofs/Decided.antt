-- For each public call: any two permitted outcomes coincide.
-- Assumes nothing.
use mathlib.Core.Path.{sym, ◌∙◌}
use Rattle.codes.proofs.Permitted.{Decided, Once, skip}
use Rattle.codes.proofs.RefusalLaws.{says-once, leaves_once}
use Rattle.streams.proofs.AnswerLaws.{filled_told}
use Rattle.windows.proofs.AnswerLaws.{ran_told}
use Rattle.windows.proofs.flags.fill_windows.Kinds as flags-fill-windows·kinds
use Rattle.windows.proofs.flags.fill_windows.Reads as flags-fill-windows
use Rattle.windows.proofs.flags.step_windows.Kinds as flags-step-windows·kinds
use Rattle.windows.proofs.flags.step_windows.Reads as flags-step-windows

pub flags_fill_windows_decided : Once 2 flags-fill-windows·kinds.ps flags-fill-windows·kinds.r flags-fill-windows.Post
flags_fill_windows_decided κs a x y v w p q = λ i. let e = leaves_once filled_told x y p q i in (e.0, skip 6 (e.1, tt))

pub flags_step_windows_decided : Decided 1 flags-step-windows·kinds.ps flags-step-windows·kinds.r flags-step-windows.Post
flags_step_windows_decided κs a x y s t p q =
    let l = p.1.0 ∙ sym q.1.0 in
    let r = p.1.1 ∙ sym q.1.1 in
    says-once ran_told x y (λ i. record { no = (p.0 ∙ sym q.0) i; values = (l i, r i) })
