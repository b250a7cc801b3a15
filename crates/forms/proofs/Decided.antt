-- For each public call: any two permitted outcomes coincide.
-- Assumes nothing.
use mathlib.Core.Path.{refl, sym, ◌∙◌}
use Rattle.codes.proofs.AnswerLaws.{told_by}
use Rattle.codes.proofs.Permitted.{Once, skip}
use Rattle.codes.proofs.RefusalLaws.{Told, says-once, leaves_once}
use Rattle.forms.specs.Answers.{wrote_says, restored_says}
use Rattle.forms.proofs.forms.write.Kinds as write·kinds
use Rattle.forms.proofs.forms.write.Reads as write
use Rattle.forms.proofs.forms.read.Kinds as read·kinds
use Rattle.forms.proofs.forms.read.Reads as read

pub wrote_told : Told wrote_says
wrote_told = told_by (λ n. n.0) 0 (λ n. record { 0 = n }) (λ n. refl)

pub restored_told : Told restored_says
restored_told = told_by (λ n. n.0) 0 (λ n. record { 0 = n }) (λ n. refl)

pub write_decided : Once 3 write·kinds.ps write·kinds.r write.Post
write_decided κs a x y v w p q = λ i. let e = leaves_once wrote_told x y p q i in (e.0, skip 6 (e.1, tt))

pub read_decided : Once 3 read·kinds.ps read·kinds.r read.Post
read_decided κs a x y v w p q =
    let says = says-once restored_told x y (p.0 ∙ sym q.0) in
    let bases = p.1.0 ∙ sym q.1.0 in
    let flags = p.1.1 ∙ sym q.1.1 in
    λ i. (says i, skip 1 (bases i, (flags i, tt)))
