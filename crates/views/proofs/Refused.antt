-- For each public call: where its number is not 0, every other number is 0, and a part that is handed back is the empty one at the front of what was lent.
-- Assumes nothing.
use denote.Ref.{Bor}
use mathlib.Core.List.{List, []}
use mathlib.Core.Path.{◌≡◌}
use Prim.Native.Nat.{ℕ}
use native.Mathlib.Nat.{zero-add}
use seplogic.Ra.Ura.{Ura}
use base.Logic.{SProp, ent}
use mir.Syntax.{Dict}
use prog.Memory.{Memory}
use prog.Routine.{Routine}
use types.Logic.{Logic}
use contract.Lifetimes.{Lfts}
use contract.Monad.{Fun, fact, fact_mono}
use denote.Param.Laws.{Laws}
use denote.RattleType.{RattleType}
use denote.Triple.Clauses.{Ended, Clauses, AtExit}
use denote.Triple.Entry.{Args, Res}
use Rattle.codes.specs.Answers.{says, says, word128_says}
use Rattle.codes.specs.Refusals.{Answer}
use Rattle.codes.proofs.Permitted.{Refuses, skip}
use Rattle.codes.proofs.RefusalLaws.{no_of, values_of, refused_keeps}
use Rattle.codes.specs.declared.widths.Width.{Ghosts}
use Rattle.fields.specs.Fields.{got, as_u64, as_u128, flipped_as_u64, flipped_as_u128}
use Rattle.views.specs.Answers.{part_says}
use Rattle.views.specs.Views.{Lent, made, sliced, normalised, got_sliced}
use Rattle.views.specs.contracts.view.View.new as new
use Rattle.views.specs.contracts.view.View.get as get
use Rattle.views.specs.contracts.view.View.slice as slice
use Rattle.views.specs.contracts.view.View.normalise as normalise
use Rattle.views.proofs.calls.get_sliced.Kinds as get-sliced·kinds
use Rattle.views.proofs.calls.get_sliced.Reads as get-sliced
use Rattle.views.proofs.calls.as_u64.Kinds as as-u64·kinds
use Rattle.views.proofs.calls.as_u64.Reads as as-u64
use Rattle.views.proofs.calls.as_u128.Kinds as as-u128·kinds
use Rattle.views.proofs.calls.as_u128.Reads as as-u128
use Rattle.views.proofs.calls.revcomp_as_u64.Kinds as revcomp-as-u64·kinds
use Rattle.views.proofs.calls.revcomp_as_u64.Reads as revcomp-as-u64
use Rattle.views.proofs.calls.revcomp_as_u128.Kinds as revcomp-as-u128·kinds
use Rattle.views.proofs.calls.revcomp_as_u128.Reads as revcomp-as-u128

-- the empty part at the front of what was lent
abbrev pub at_front : Bor (List ℕ) → Lent
at_front s = record { span = record { place = s.ref_ptr; bytes = [] }; offset = 0; len = 0 }

-- at every width W
module _ (T : RattleType) (L : Laws T) (W : Ghosts T.Denot) (D : Dict) where
  pub get_sliced_refused : Refuses 2 (get-sliced·kinds.ps T L) (get-sliced·kinds.r T L) (get-sliced.Post T L W D) (λ κs. says) (λ κs a. (0, skip 6 tt))
  unfolding got_sliced
  get_sliced_refused κs a x v p h = let n = rw p at h in rw (p, refused_keeps)

  pub as_u64_refused : Refuses 2 (as-u64·kinds.ps T L) (as-u64·kinds.r T L) (as-u64.Post T L W D) (λ κs. says) (λ κs a. (0, skip 3 tt))
  unfolding as_u64
  as_u64_refused κs a x v p h = let n = rw p at h in rw (p, refused_keeps)

  pub as_u128_refused : Refuses 2 (as-u128·kinds.ps T L) (as-u128·kinds.r T L) (as-u128.Post T L W D) (λ κs. word128_says) (λ κs a. ((0, 0), skip 3 tt))
  unfolding as_u128
  as_u128_refused κs a x v p h = let n = rw p at h in rw (p, refused_keeps)

  pub revcomp_as_u64_refused : Refuses 2 (revcomp-as-u64·kinds.ps T L) (revcomp-as-u64·kinds.r T L) (revcomp-as-u64.Post T L W D) (λ κs. says) (λ κs a. (0, skip 3 tt))
  unfolding flipped_as_u64
  revcomp_as_u64_refused κs a x v p h = let n = rw p at h in rw (p, refused_keeps)

  pub revcomp_as_u128_refused : Refuses 2 (revcomp-as-u128·kinds.ps T L) (revcomp-as-u128·kinds.r T L) (revcomp-as-u128.Post T L W D) (λ κs. word128_says) (λ κs a. ((0, 0), skip 3 tt))
  unfolding flipped_as_u128
  revcomp_as_u128_refused κs a x v p h = let n = rw p at h in rw (p, refused_keeps)

-- Of a call over `View` the checker reads no contract; its clauses are read in a model.
module _ {M : Type 1} (𝓤 : Ura M) where
  abbrev pub RefusesBy : {A : Type 0} (T : Ended) → Clauses 𝓤 T → ((κs : Lfts T.signature.lifetimes) → Res T.signature κs → Answer A)
      → ((κs : Lfts T.signature.lifetimes) → Args T.signature κs → A) → Type 1
  RefusesBy T c says left =
      (κs : Lfts T.signature.lifetimes) (a : Args T.signature κs) (g : (c κs a).ghost) (x : Res T.signature κs) (s : AtExit T κs)
      → ((says κs x).no ≡ 0 → ⊥) → ent 𝓤 ((c κs a).ensures g x s) (fact 𝓤 ((says κs x).values ≡ left κs a))

  pub given : {P Q : Type 0} → (P → Q) → ent 𝓤 (fact 𝓤 P) (fact 𝓤 Q)
  given {P} {Q} f = fact_mono 𝓤 P Q f

module _ (T : RattleType) (W : Ghosts T.Denot) (D : Dict) {M : Type 1} {𝓤 : Ura M} (𝓛 : Logic 𝓤) (mem : Memory → SProp 𝓤) (run : Routine → Fun 𝓤) where
  pub new_refused : RefusesBy 𝓤 (new.ended T W D) (new.clauses T W D 𝓛 mem run) (λ κs. part_says) (λ κs a. at_front a.0)
  unfolding made
  new_refused κs a g x s h = given 𝓤 (λ p. let n = rw (no_of p) at h in simp (refused_keeps, zero-add) at (values_of p))

  pub get_refused : RefusesBy 𝓤 (get.ended T W D) (get.clauses T W D 𝓛 mem run) (λ κs. says) (λ κs a. 0)
  unfolding got
  get_refused κs a g x s h = given 𝓤 (λ p. let n = rw p at h in rw (p, refused_keeps))

  pub slice_refused : RefusesBy 𝓤 (slice.ended T W D) (slice.clauses T W D 𝓛 mem run) (λ κs. part_says) (λ κs a. at_front a.0.bytes)
  unfolding sliced
  slice_refused κs a g x s h = given 𝓤 (λ p. let n = rw (no_of p) at h in simp (refused_keeps, zero-add) at (values_of p))

  pub normalise_refused : RefusesBy 𝓤 (normalise.ended T W D) (normalise.clauses T W D 𝓛 mem run) (λ κs. part_says) (λ κs a. at_front a.0.bytes)
  unfolding normalised
  normalise_refused κs a g x s h = given 𝓤 (λ p. let n = rw (no_of p) at h in simp (refused_keeps, zero-add) at (values_of p))
