-- For each call that reads: any two permitted outcomes coincide.
-- Assumes nothing.
use mathlib.Core.Path.{refl, sym, ◌∙◌}
use Rattle.codes.proofs.AnswerLaws.{told, told_by}
use Rattle.codes.proofs.Permitted.{Decided, Once, skip}
use Rattle.codes.proofs.RefusalLaws.{Told, says-once}
use Rattle.twobit.specs.Answers.{cursor_says, entry_says, info_says, read_says}
use Rattle.twobit.specs.Reading.{no_entry, no_info}
use Rattle.twobit.proofs.reading.check.Kinds as check·kinds
use Rattle.twobit.proofs.reading.check.Reads as check
use Rattle.twobit.proofs.reading.first.Kinds as first·kinds
use Rattle.twobit.proofs.reading.first.Reads as first
use Rattle.twobit.proofs.reading.entry.Kinds as entry·kinds
use Rattle.twobit.proofs.reading.entry.Reads as entry
use Rattle.twobit.proofs.reading.record_info.Kinds as record-info·kinds
use Rattle.twobit.proofs.reading.record_info.Reads as record-info
use Rattle.twobit.proofs.reading.record.Kinds as record·kinds
use Rattle.twobit.proofs.reading.record.Reads as record·reads

pub cursor_told : Told cursor_says
cursor_told = told_by (λ c. (c.number, c.at)) (0, 0) (λ v. record { number = v.0; at = v.1 }) (λ c. refl)

pub entry_told : Told entry_says
entry_told =
    told_by (λ e. ((e.name, e.size), (e.offset, (e.number, e.at)))) no_entry
    (λ v. record { name = v.0.0; size = v.0.1; offset = v.1.0; number = v.1.1.0; at = v.1.1.1 }) (λ e. refl)

pub info_told : Told info_says
info_told = told_by (λ i. (i.len.0, (i.blocks, i.masks))) no_info (λ v. record { len = record { 0 = v.0 }; blocks = v.1.0; masks = v.1.1 }) (λ i. refl)

pub read_told : Told read_says
read_told = told_by (λ x. (x.len.0, x.masks)) (0, 0) (λ v. record { len = record { 0 = v.0 }; masks = v.1 }) (λ x. refl)

pub check_decided : Decided 1 check·kinds.ps check·kinds.r check.Post
check_decided κs a x y s t p q = says-once told x y (p ∙ sym q)

pub first_decided : Decided 1 first·kinds.ps first·kinds.r first.Post
first_decided κs a x y s t p q = says-once cursor_told x y (p ∙ sym q)

pub entry_decided : Decided 1 entry·kinds.ps entry·kinds.r entry.Post
entry_decided κs a x y s t p q = says-once entry_told x y (p ∙ sym q)

pub record_info_decided : Decided 1 record-info·kinds.ps record-info·kinds.r record-info.Post
record_info_decided κs a x y s t p q = says-once info_told x y (p ∙ sym q)

pub record_decided : Once 3 record·kinds.ps record·kinds.r record·reads.Post
record_decided κs a x y v w p q =
    let says = says-once read_told x y (p.0 ∙ sym q.0) in
    let bases = p.1.0 ∙ sym q.1.0 in
    let flags = p.1.1 ∙ sym q.1.1 in
    λ i. (says i, skip 2 (bases i, (flags i, tt)))
