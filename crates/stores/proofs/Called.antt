-- What a call of each kind leaves is a `step` of the history, by its contract as the checker reads it from the source: whatever satisfies
-- the contract, the buffer at exit and the length answered are those of the entry store after the call.
-- Assumes nothing.
use borrow.Fn.Kinds.{Out, ParamKind, ResultKind, Dens, res_t, ended_of}
use contract.Lifetimes.{Lfts}
use denote.Triple.Clauses.{AtExit}
use mathlib.Core.List.{List}
use mathlib.Core.Path.{◌≡◌}
use Prim.Native.Nat.{ℕ}
use denote.Param.Laws.{Laws}
use denote.RattleType.{RattleType}
use mir.Syntax.{Dict}
use Rattle.codes.specs.declared.widths.Width.{Ghosts}
use Rattle.codes.specs.Refusals.{Answer}
use Rattle.stores.specs.Answers.{pushed_says, kept_says}
use Rattle.stores.specs.History.{Store, step}
use Rattle.stores.specs.Stores.{Call, clear, push_ascii, push_seq, overwrite, cut, outcome, answered, after}
use Rattle.stores.proofs.calls.clear.Kinds as clear·kinds
use Rattle.stores.proofs.calls.clear.Reads as clear
use Rattle.stores.proofs.calls.push_ascii.Kinds as push-ascii·kinds
use Rattle.stores.proofs.calls.push_ascii.Reads as push-ascii
use Rattle.stores.proofs.calls.push_seq.Kinds as push-seq·kinds
use Rattle.stores.proofs.calls.push_seq.Reads as push-seq
use Rattle.stores.proofs.calls.overwrite.Kinds as overwrite·kinds
use Rattle.stores.proofs.calls.overwrite.Reads as overwrite
use Rattle.stores.proofs.calls.cut.Kinds as cut·kinds
use Rattle.stores.proofs.calls.cut.Reads as cut

abbrev store : List ℕ → ℕ → Store
store bytes len = record { bytes = bytes; len = len }

-- a contract's call on a store: what it answers, where the buffer stands at exit, the store at entry, and the call of the history
abbrev Steps : (n : ℕ) (ps : List (ParamKind n)) (r : ResultKind n) → Out n ps r → ((κs : Lfts n) → (res_t r κs).Denot → Answer (ℕ × ℕ × ℕ))
    → ((κs : Lfts n) → AtExit (ended_of n ps r) κs → List ℕ) → ℕ → ((κs : Lfts n) → Dens κs ps → Store) → ((κs : Lfts n) → Dens κs ps → Call) → Type 0
Steps n ps r Q says buffer w entry call =
    (κs : Lfts n) (a : Dens κs ps) (x : (res_t r κs).Denot) (s : AtExit (ended_of n ps r) κs) → Q κs a x s
    → store (buffer κs s) (says κs x).values.2 ≡ step w (entry κs a) (call κs a)

-- at every width W
module _ (T : RattleType) (L : Laws T) (W : Ghosts T.Denot) (D : Dict) where
  pub clear_called : (old : ℕ) → Steps 2 (clear·kinds.ps T L) (clear·kinds.r T L) (clear.Post T L W D) (λ κs. kept_says) (λ κs s. s.0.now) W.BITS (λ κs a. store a.0.now old) (λ κs a. clear)
  unfolding answered after outcome
  clear_called old κs a x s p = λ i. store (p.1 i) (p.0 i).values.2

  pub push_ascii_called : Steps 3 (push-ascii·kinds.ps T L) (push-ascii·kinds.r T L) (push-ascii.Post T L W D) (λ κs. pushed_says) (λ κs s. s.0.now) W.BITS (λ κs a. store a.0.now a.1.0.0)
      (λ κs a. push_ascii a.1.1.0.now)
  push_ascii_called κs a x s p = λ i. store (p.1 i) (p.0 i).values.2

  pub push_seq_called : Steps 3 (push-seq·kinds.ps T L) (push-seq·kinds.r T L) (push-seq.Post T L W D) (λ κs. pushed_says) (λ κs s. s.0.now) W.BITS (λ κs a. store a.0.now a.1.0.0)
      (λ κs a. push_seq a.1.1.0.now a.1.1.1.0.0 a.1.1.1.1.0.0)
  push_seq_called κs a x s p = λ i. store (p.1 i) (p.0 i).values.2

  pub overwrite_called : Steps 3 (overwrite·kinds.ps T L) (overwrite·kinds.r T L) (overwrite.Post T L W D) (λ κs. kept_says) (λ κs s. s.0.now) W.BITS (λ κs a. store a.0.now a.1.0.0)
      (λ κs a. overwrite a.1.1.0.0 a.1.1.1.0.now)
  overwrite_called κs a x s p = λ i. store (p.1 i) (p.0 i).values.2

  pub cut_called : Steps 2 (cut·kinds.ps T L) (cut·kinds.r T L) (cut.Post T L W D) (λ κs. kept_says) (λ κs s. s.0.now) W.BITS (λ κs a. store a.0.now a.1.0.0)
      (λ κs a. cut a.1.1.0.0)
  cut_called κs a x s p = λ i. store (p.1 i) (p.0 i).values.2
