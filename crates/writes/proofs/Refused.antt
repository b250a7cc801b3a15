-- For each public call: where its number is not 0, the lent buffer is what it was.
-- Assumes nothing.
use denote.Param.Laws.{Laws}
use denote.RattleType.{RattleType}
use mir.Syntax.{Dict}
use Rattle.codes.specs.declared.widths.Width.{Ghosts}
use Rattle.codes.proofs.Permitted.{Refuses, skip}
use Rattle.codes.proofs.RefusalLaws.{outcome_says, refused_keeps}
use Rattle.writes.proofs.calls.to_revcomp.Kinds as to-revcomp·kinds
use Rattle.writes.proofs.calls.to_revcomp.Reads as to-revcomp
use Rattle.writes.proofs.calls.unpack.Kinds as unpack·kinds
use Rattle.writes.proofs.calls.unpack.Reads as unpack

-- at every width W
module _ (T : RattleType) (L : Laws T) (W : Ghosts T.Denot) (D : Dict) where
  pub to_revcomp_refused : Refuses 3 (to-revcomp·kinds.ps T L) (to-revcomp·kinds.r T L) (to-revcomp.Post T L W D) (λ κs. outcome_says) (λ κs a. (tt, skip 3 (a.1.1.1.0.now, tt)))
  to_revcomp_refused κs a x v p h = let e = simp refused_keeps at p.1 in λ i. (tt, skip 3 (e i, tt))

pub unpack_refused : Refuses 2 unpack·kinds.ps unpack·kinds.r unpack.Post (λ κs. outcome_says) (λ κs a. (tt, skip 3 (a.1.1.1.0.now, tt)))
unpack_refused κs a x v p h = let e = simp refused_keeps at p.1 in λ i. (tt, skip 3 (e i, tt))
