-- For each public call: any two permitted outcomes coincide.
-- Assumes nothing.
use denote.Param.Laws.{Laws}
use denote.RattleType.{RattleType}
use mir.Syntax.{Dict}
use Rattle.codes.specs.declared.widths.Width.{Ghosts}
use Rattle.codes.proofs.Permitted.{Once, skip}
use Rattle.codes.proofs.RefusalLaws.{leaves_once}
use Rattle.stores.proofs.AnswerLaws.{pushed_told, kept_told}
use Rattle.stores.proofs.calls.clear.Kinds as clear·kinds
use Rattle.stores.proofs.calls.clear.Reads as clear
use Rattle.stores.proofs.calls.push_ascii.Kinds as push-ascii·kinds
use Rattle.stores.proofs.calls.push_ascii.Reads as push-ascii
use Rattle.stores.proofs.calls.push_seq.Kinds as push-seq·kinds
use Rattle.stores.proofs.calls.push_seq.Reads as push-seq
use Rattle.stores.proofs.calls.overwrite.Kinds as overwrite·kinds
use Rattle.stores.proofs.calls.overwrite.Reads as overwrite
use Rattle.stores.proofs.calls.cut.Kinds as cut·kinds
use Rattle.stores.proofs.calls.cut.Reads as cut

-- at every width W
module _ (T : RattleType) (L : Laws T) (W : Ghosts T.Denot) (D : Dict) where
  pub clear_decided : Once 2 (clear·kinds.ps T L) (clear·kinds.r T L) (clear.Post T L W D)
  clear_decided κs a x y v w p q = λ i. let e = leaves_once kept_told x y p q i in (e.0, (e.1, tt))

  pub push_ascii_decided : Once 3 (push-ascii·kinds.ps T L) (push-ascii·kinds.r T L) (push-ascii.Post T L W D)
  push_ascii_decided κs a x y v w p q = λ i. let e = leaves_once pushed_told x y p q i in (e.0, (e.1, skip 2 tt))

  pub push_seq_decided : Once 3 (push-seq·kinds.ps T L) (push-seq·kinds.r T L) (push-seq.Post T L W D)
  push_seq_decided κs a x y v w p q = λ i. let e = leaves_once pushed_told x y p q i in (e.0, (e.1, skip 4 tt))

  pub overwrite_decided : Once 3 (overwrite·kinds.ps T L) (overwrite·kinds.r T L) (overwrite.Post T L W D)
  overwrite_decided κs a x y v w p q = λ i. let e = leaves_once kept_told x y p q i in (e.0, (e.1, skip 3 tt))

  pub cut_decided : Once 2 (cut·kinds.ps T L) (cut·kinds.r T L) (cut.Post T L W D)
  cut_decided κs a x y v w p q = λ i. let e = leaves_once kept_told x y p q i in (e.0, (e.1, skip 2 tt))
