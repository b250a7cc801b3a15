-- For each public call: any two permitted outcomes coincide.
-- Assumes nothing.
use mathlib.Core.Path.{◌≡◌, sym, ap, ◌∙◌}
use seplogic.Ra.Ura.{Ura}
use base.Logic.{SProp, ent, sep, fst∗, snd∗}
use mir.Syntax.{Dict}
use prog.Memory.{Memory}
use prog.Routine.{Routine}
use types.Logic.{Logic}
use contract.Lifetimes.{Lfts}
use contract.Monad.{Fun, fact, fact_use, fact_i}
use denote.Param.Laws.{Laws}
use denote.RattleType.{RattleType}
use denote.Triple.Clauses.{Ended, Clauses, AtExit}
use denote.Triple.Entry.{Args, Res}
use Rattle.codes.specs.Refusals.{Answer}
use Rattle.codes.proofs.Permitted.{Decided}
use Rattle.codes.proofs.RefusalLaws.{says-once, outcome_at, outcome_at_number}
use Rattle.codes.proofs.AnswerLaws.{told, word128_told}
use Rattle.codes.specs.declared.widths.Width.{Ghosts}
use Rattle.fields.specs.Spans.{span_of}
use Rattle.views.specs.Answers.{part_says}
use Rattle.views.specs.Views.{Lent}
use Rattle.views.specs.declared.view.Part.{Part}
use Rattle.views.specs.contracts.view.View.new as new
use Rattle.views.specs.contracts.view.View.get as get
use Rattle.views.specs.contracts.view.View.slice as slice
use Rattle.views.specs.contracts.view.View.normalise as normalise
use Rattle.views.proofs.calls.get_sliced.Kinds as get-sliced·kinds
use Rattle.views.proofs.calls.get_sliced.Reads as get-sliced
use Rattle.views.proofs.calls.as_u64.Kinds as as-u64·kinds
use Rattle.views.proofs.calls.as_u64.Reads as as-u64
use Rattle.views.proofs.calls.as_u128.Kinds as as-u128·kinds
use Rattle.views.proofs.calls.as_u128.Reads as as-u128
use Rattle.views.proofs.calls.revcomp_as_u64.Kinds as revcomp-as-u64·kinds
use Rattle.views.proofs.calls.revcomp_as_u64.Reads as revcomp-as-u64
use Rattle.views.proofs.calls.revcomp_as_u128.Kinds as revcomp-as-u128·kinds
use Rattle.views.proofs.calls.revcomp_as_u128.Reads as revcomp-as-u128

-- at every width W
module _ (T : RattleType) (L : Laws T) (W : Ghosts T.Denot) (D : Dict) where
  pub get_sliced_decided : Decided 2 (get-sliced·kinds.ps T L) (get-sliced·kinds.r T L) (get-sliced.Post T L W D)
  get_sliced_decided κs a x y s t p q = says-once told x y (p ∙ sym q)

  pub as_u64_decided : Decided 2 (as-u64·kinds.ps T L) (as-u64·kinds.r T L) (as-u64.Post T L W D)
  as_u64_decided κs a x y s t p q = says-once told x y (p ∙ sym q)

  pub as_u128_decided : Decided 2 (as-u128·kinds.ps T L) (as-u128·kinds.r T L) (as-u128.Post T L W D)
  as_u128_decided κs a x y s t p q = says-once word128_told x y (p ∙ sym q)

  pub revcomp_as_u64_decided : Decided 2 (revcomp-as-u64·kinds.ps T L) (revcomp-as-u64·kinds.r T L) (revcomp-as-u64.Post T L W D)
  revcomp_as_u64_decided κs a x y s t p q = says-once told x y (p ∙ sym q)

  pub revcomp_as_u128_decided : Decided 2 (revcomp-as-u128·kinds.ps T L) (revcomp-as-u128·kinds.r T L) (revcomp-as-u128.Post T L W D)
  revcomp_as_u128_decided κs a x y s t p q = says-once word128_told x y (p ∙ sym q)

-- Of a call over `View` the checker reads no contract; its clauses are read in a model, and there two results of which they hold are the same.
module _ {M : Type 1} (𝓤 : Ura M) where
  abbrev pub DecidedBy : (T : Ended) → Clauses 𝓤 T → ((κs : Lfts T.signature.lifetimes) → Res T.signature κs → Res T.signature κs → Type 0) → Type 1
  DecidedBy T c same =
      (κs : Lfts T.signature.lifetimes) (a : Args T.signature κs) (g : (c κs a).ghost) (x y : Res T.signature κs) (s t : AtExit T κs)
      → ent 𝓤 (sep 𝓤 ((c κs a).ensures g x s) ((c κs a).ensures g y t)) (fact 𝓤 (same κs x y))

  pub both : {P Q R : Type 0} → (P → Q → R) → ent 𝓤 (sep 𝓤 (fact 𝓤 P) (fact 𝓤 Q)) (fact 𝓤 R)
  both {P} {Q} {R} f = fact_use 𝓤 P (fst∗ 𝓤 (fact 𝓤 P) (fact 𝓤 Q)) (λ p. fact_use 𝓤 Q (snd∗ 𝓤 (fact 𝓤 P) (fact 𝓤 Q)) (λ q. fact_i 𝓤 R _ (f p q)))

-- two parts with the same place, bytes, numbers and outcome
pub record SamePart (p q : Part) : Type 0 where
  pub span : span_of p.view.bytes ≡ span_of q.view.bytes
  pub offset : p.view.offset.0 ≡ q.view.offset.0
  pub len : p.view.len.0 ≡ q.view.len.0
  pub outcome : p.outcome ≡ q.outcome

pub part-once : (p q : Part) → part_says p ≡ part_says q → SamePart p q
part-once p q e = record {
  span = ap (λ (x : Answer Lent). x.values.span) e;
  offset = ap (λ (x : Answer Lent). x.values.offset) e;
  len = ap (λ (x : Answer Lent). x.values.len) e;
  outcome = sym (outcome_at_number p.outcome) ∙ ap (λ (x : Answer Lent). outcome_at x.no) e ∙ outcome_at_number q.outcome;
}

pub part-decides : {p q : Part} {x : Answer Lent} → part_says p ≡ x → part_says q ≡ x → SamePart p q
part-decides {p} {q} e f = part-once p q (e ∙ sym f)

module _ (T : RattleType) (W : Ghosts T.Denot) (D : Dict) {M : Type 1} {𝓤 : Ura M} (𝓛 : Logic 𝓤) (mem : Memory → SProp 𝓤) (run : Routine → Fun 𝓤) where
  pub new_decided : DecidedBy 𝓤 (new.ended T W D) (new.clauses T W D 𝓛 mem run) (λ κs. SamePart)
  new_decided κs a g x y s t = both 𝓤 part-decides

  pub get_decided : DecidedBy 𝓤 (get.ended T W D) (get.clauses T W D 𝓛 mem run) (λ κs x y. x ≡ y)
  get_decided κs a g x y s t = both 𝓤 (λ p q. says-once told x y (p ∙ sym q))

  pub slice_decided : DecidedBy 𝓤 (slice.ended T W D) (slice.clauses T W D 𝓛 mem run) (λ κs. SamePart)
  slice_decided κs a g x y s t = both 𝓤 part-decides

  pub normalise_decided : DecidedBy 𝓤 (normalise.ended T W D) (normalise.clauses T W D 𝓛 mem run) (λ κs. SamePart)
  normalise_decided κs a g x y s t = both 𝓤 part-decides
