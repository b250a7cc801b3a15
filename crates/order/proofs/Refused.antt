-- For each public call: where its number is not 0, every other number is 0, and a part that is handed back is the empty one at the front of the first
-- view's bytes.
-- Assumes nothing.
use mathlib.Core.Bool.{false}
use mathlib.Core.Path.{◌≡◌}
use native.Mathlib.Nat.{zero-add}
use lib.IntN.{pos}
use seplogic.Ra.Ura.{Ura}
use base.Logic.{SProp}
use prog.Memory.{Memory}
use prog.Routine.{Routine}
use types.Logic.{Logic}
use contract.Monad.{Fun}
use denote.Param.Laws.{Laws}
use denote.RattleType.{RattleType}
use mir.Syntax.{Dict}
use Rattle.codes.specs.declared.widths.Width.{Ghosts}
use Rattle.codes.proofs.Permitted.{Refuses, skip}
use Rattle.codes.proofs.RefusalLaws.{no_of, values_of, refused_keeps}
use Rattle.fields.specs.Spans.{span_of}
use Rattle.views.specs.Answers.{part_says}
use Rattle.views.proofs.Refused.{at_front, RefusesBy, given}
use Rattle.fields.specs.Answers.{numbers_say}
use Rattle.order.specs.Answers.{compared_says, found_says}
use Rattle.order.specs.Order.{compared, found, chosen}
use Rattle.order.specs.contracts.calls.least_part as least-part
use Rattle.order.proofs.calls.compare.Kinds as compare·kinds
use Rattle.order.proofs.calls.compare.Reads as compare
use Rattle.order.proofs.calls.find.Kinds as find·kinds
use Rattle.order.proofs.calls.find.Reads as find
use Rattle.order.proofs.calls.least_numbers.Kinds as least-numbers·kinds
use Rattle.order.proofs.calls.least_numbers.Reads as least-numbers
use Rattle.order.proofs.calls.least.Reads as least

-- at every width W
module _ (T : RattleType) (L : Laws T) (W : Ghosts T.Denot) (D : Dict) where
  pub compare_refused : Refuses 3 (compare·kinds.ps T L) (compare·kinds.r T L) (compare.Post T L W D) (λ κs. compared_says) (λ κs a. ((pos 0, 0), skip 6 tt))
  unfolding compared
  compare_refused κs a x v p h = let n = rw p at h in rw (p, refused_keeps)

  pub find_refused : Refuses 3 (find·kinds.ps T L) (find·kinds.r T L) (find.Post T L W D) (λ κs. found_says) (λ κs a. ((false, 0), skip 6 tt))
  unfolding found
  find_refused κs a x v p h = let n = rw p at h in rw (p, refused_keeps)

  pub least_numbers_refused : Refuses 3 (least-numbers·kinds.ps T L) (least-numbers·kinds.r T L) (least-numbers.Post T L W D) (λ κs. numbers_say) (λ κs a. ((0, 0), skip 6 tt))
  unfolding chosen
  least_numbers_refused κs a x v p h = let n = rw p at h in rw (p, refused_keeps)

  -- `least` gives no number: where that of its answer is not 0
  pub least_refused : (κs : _) (a : _) (x : _) (s : _) → least.Post T L W D κs a x s
      → ((chosen W.BITS (span_of a.0) a.1.0.0 a.1.1.0.0 (span_of a.1.1.1.0) a.1.1.1.1.0.0 a.1.1.1.1.1.0.0).no ≡ 0 → ⊥)
      → span_of x ≡ (at_front a.0).span
  unfolding chosen
  least_refused κs a x s p h = rw (p, refused_keeps, zero-add)

module _ (T : RattleType) (W : Ghosts T.Denot) (D : Dict) {M : Type 1} {𝓤 : Ura M} (𝓛 : Logic 𝓤) (mem : Memory → SProp 𝓤) (run : Routine → Fun 𝓤) where
  pub least_part_refused : RefusesBy 𝓤 (least-part.ended T W D) (least-part.clauses T W D 𝓛 mem run) (λ κs. part_says) (λ κs a. at_front a.0)
  unfolding chosen
  least_part_refused κs a g x s h = given 𝓤 (λ p. let n = rw (no_of p) at h in simp (refused_keeps, zero-add) at (values_of p))
