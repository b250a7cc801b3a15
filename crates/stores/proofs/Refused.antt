-- For each public call: where its number is not 0, the start and the end are 0, the length is the old one, of a clear 0, and the buffer is what it was.
-- Assumes nothing.
use denote.Param.Laws.{Laws}
use denote.RattleType.{RattleType}
use mir.Syntax.{Dict}
use Rattle.codes.specs.declared.widths.Width.{Ghosts}
use Rattle.codes.proofs.Permitted.{Refuses, skip}
use Rattle.codes.proofs.RefusalLaws.{refused_keeps}
use Rattle.stores.specs.Answers.{pushed_says, kept_says}
use Rattle.stores.specs.Stores.{outcome, answered, after}
use Rattle.stores.proofs.calls.clear.Kinds as clear·kinds
use Rattle.stores.proofs.calls.clear.Reads as clear
use Rattle.stores.proofs.calls.push_ascii.Kinds as push-ascii·kinds
use Rattle.stores.proofs.calls.push_ascii.Reads as push-ascii
use Rattle.stores.proofs.calls.push_seq.Kinds as push-seq·kinds
use Rattle.stores.proofs.calls.push_seq.Reads as push-seq
use Rattle.stores.proofs.calls.overwrite.Kinds as overwrite·kinds
use Rattle.stores.proofs.calls.overwrite.Reads as overwrite
use Rattle.stores.proofs.calls.cut.Kinds as cut·kinds
use Rattle.stores.proofs.calls.cut.Reads as cut

-- at every width W
module _ (T : RattleType) (L : Laws T) (W : Ghosts T.Denot) (D : Dict) where
  pub clear_refused : Refuses 2 (clear·kinds.ps T L) (clear·kinds.r T L) (clear.Post T L W D) (λ κs. kept_says) (λ κs a. ((0, 0, 0), (a.0.now, tt)))
  unfolding answered after outcome
  clear_refused κs a x v p h = let n = rw p.0 at h in let e = simp refused_keeps at p in λ i. ((e.0 i).values, (e.1 i, tt))

  pub push_ascii_refused : Refuses 3 (push-ascii·kinds.ps T L) (push-ascii·kinds.r T L) (push-ascii.Post T L W D) (λ κs. pushed_says) (λ κs a. ((0, 0, a.1.0.0), (a.0.now, skip 2 tt)))
  unfolding answered after outcome
  push_ascii_refused κs a x v p h = let n = rw p.0 at h in let e = simp refused_keeps at p in λ i. ((e.0 i).values, (e.1 i, skip 2 tt))

  pub push_seq_refused : Refuses 3 (push-seq·kinds.ps T L) (push-seq·kinds.r T L) (push-seq.Post T L W D) (λ κs. pushed_says) (λ κs a. ((0, 0, a.1.0.0), (a.0.now, skip 4 tt)))
  unfolding answered after outcome
  push_seq_refused κs a x v p h = let n = rw p.0 at h in let e = simp refused_keeps at p in λ i. ((e.0 i).values, (e.1 i, skip 4 tt))

  pub overwrite_refused : Refuses 3 (overwrite·kinds.ps T L) (overwrite·kinds.r T L) (overwrite.Post T L W D) (λ κs. kept_says) (λ κs a. ((0, 0, a.1.0.0), (a.0.now, skip 3 tt)))
  unfolding answered after outcome
  overwrite_refused κs a x v p h = let n = rw p.0 at h in let e = simp refused_keeps at p in λ i. ((e.0 i).values, (e.1 i, skip 3 tt))

  pub cut_refused : Refuses 2 (cut·kinds.ps T L) (cut·kinds.r T L) (cut.Post T L W D) (λ κs. kept_says) (λ κs a. ((0, 0, a.1.0.0), (a.0.now, skip 2 tt)))
  unfolding answered after outcome
  cut_refused κs a x v p h = let n = rw p.0 at h in let e = simp refused_keeps at p in λ i. ((e.0 i).values, (e.1 i, skip 2 tt))
