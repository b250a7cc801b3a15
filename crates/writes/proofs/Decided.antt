-- For each public call: any two permitted outcomes coincide.
-- Assumes nothing.
use mathlib.Core.Path.{sym, ◌∙◌}
use denote.Param.Laws.{Laws}
use denote.RattleType.{RattleType}
use mir.Syntax.{Dict}
use Rattle.codes.specs.declared.widths.Width.{Ghosts}
use Rattle.codes.proofs.Permitted.{Once, skip}
use Rattle.writes.proofs.calls.to_revcomp.Kinds as to-revcomp·kinds
use Rattle.writes.proofs.calls.to_revcomp.Reads as to-revcomp
use Rattle.writes.proofs.calls.unpack.Kinds as unpack·kinds
use Rattle.writes.proofs.calls.unpack.Reads as unpack

-- at every width W
module _ (T : RattleType) (L : Laws T) (W : Ghosts T.Denot) (D : Dict) where
  pub to_revcomp_decided : Once 3 (to-revcomp·kinds.ps T L) (to-revcomp·kinds.r T L) (to-revcomp.Post T L W D)
  to_revcomp_decided κs a x y v w p q =
      let says = p.0 ∙ sym q.0 in
      let out = (rw p.0 at p.1) ∙ sym (rw q.0 at q.1) in
      λ i. (says i, skip 3 (out i, tt))

pub unpack_decided : Once 2 unpack·kinds.ps unpack·kinds.r unpack.Post
unpack_decided κs a x y v w p q =
    let says = p.0 ∙ sym q.0 in
    let out = (rw p.0 at p.1) ∙ sym (rw q.0 at q.1) in
    λ i. (says i, skip 3 (out i, tt))
