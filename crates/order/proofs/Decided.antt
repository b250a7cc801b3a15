-- For each public call: any two permitted outcomes coincide.
-- Assumes nothing.
use mathlib.Core.Path.{◌≡◌, sym, ◌∙◌}
use seplogic.Ra.Ura.{Ura}
use base.Logic.{SProp}
use prog.Memory.{Memory}
use prog.Routine.{Routine}
use types.Logic.{Logic}
use contract.Monad.{Fun}
use denote.Param.Laws.{Laws}
use denote.RattleType.{RattleType}
use mir.Syntax.{Dict}
use Rattle.codes.specs.declared.widths.Width.{Ghosts}
use Rattle.codes.proofs.Permitted.{Decided}
use Rattle.codes.proofs.RefusalLaws.{says-once}
use Rattle.fields.specs.Spans.{span_of}
use Rattle.views.proofs.Decided.{DecidedBy, both, SamePart, part-decides}
use Rattle.fields.proofs.ViewLaws.{numbers_told}
use Rattle.order.proofs.AnswerLaws.{compared_told, found_told}
use Rattle.order.proofs.calls.compare.Kinds as compare·kinds
use Rattle.order.proofs.calls.compare.Reads as compare
use Rattle.order.proofs.calls.find.Kinds as find·kinds
use Rattle.order.proofs.calls.find.Reads as find
use Rattle.order.proofs.calls.least_numbers.Kinds as least-numbers·kinds
use Rattle.order.proofs.calls.least_numbers.Reads as least-numbers
use Rattle.order.proofs.calls.least.Reads as least
use Rattle.order.specs.contracts.calls.least_part as least-part

-- at every width W
module _ (T : RattleType) (L : Laws T) (W : Ghosts T.Denot) (D : Dict) where
  pub compare_decided : Decided 3 (compare·kinds.ps T L) (compare·kinds.r T L) (compare.Post T L W D)
  compare_decided κs a x y s t p q = says-once compared_told x y (p ∙ sym q)

  pub find_decided : Decided 3 (find·kinds.ps T L) (find·kinds.r T L) (find.Post T L W D)
  find_decided κs a x y s t p q = says-once found_told x y (p ∙ sym q)

  pub least_numbers_decided : Decided 3 (least-numbers·kinds.ps T L) (least-numbers·kinds.r T L) (least-numbers.Post T L W D)
  least_numbers_decided κs a x y s t p q = says-once numbers_told x y (p ∙ sym q)

  -- the part is decided by its place and its bytes
  pub least_decided : (κs : _) (a : _) (x y : _) (s t : _) → least.Post T L W D κs a x s → least.Post T L W D κs a y t → span_of x ≡ span_of y
  least_decided κs a x y s t p q = p ∙ sym q

-- `least_part`, over its clauses as the calls over a view are
module _ (T : RattleType) (W : Ghosts T.Denot) (D : Dict) {M : Type 1} {𝓤 : Ura M} (𝓛 : Logic 𝓤) (mem : Memory → SProp 𝓤) (run : Routine → Fun 𝓤) where
  pub least_part_decided : DecidedBy 𝓤 (least-part.ended T W D) (least-part.clauses T W D 𝓛 mem run) (λ κs. SamePart)
  least_part_decided κs a g x y s t = both 𝓤 part-decides
