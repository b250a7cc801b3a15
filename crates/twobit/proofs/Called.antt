-- What satisfies a call's contract, as the checker reads it from the source, answers and leaves what the definitions say.
-- Assumes nothing.
use mathlib.Core.Path.{◌≡◌}
use Rattle.codes.specs.Answers.{says}
use Rattle.codes.proofs.Permitted.{Called}
use Rattle.twobit.specs.Answers.{cursor_says, entry_says, info_says, read_says}
use Rattle.twobit.specs.Files.{offset_size}
use Rattle.twobit.specs.Reading.{check_answer, first_answer, entry_answer, info_answer, record_answer, bases_after, flags_after}
use Rattle.twobit.proofs.reading.check.Kinds as check·kinds
use Rattle.twobit.proofs.reading.check.Reads as check
use Rattle.twobit.proofs.reading.first.Kinds as first·kinds
use Rattle.twobit.proofs.reading.first.Reads as first
use Rattle.twobit.proofs.reading.entry.Kinds as entry·kinds
use Rattle.twobit.proofs.reading.entry.Reads as entry
use Rattle.twobit.proofs.reading.record_info.Kinds as record-info·kinds
use Rattle.twobit.proofs.reading.record_info.Reads as record-info
use Rattle.twobit.proofs.reading.record.Kinds as record·kinds
use Rattle.twobit.proofs.reading.record.Reads as record·reads

pub check_called : Called 1 check·kinds.ps check·kinds.r check.Post (λ κs a x s. says x ≡ check_answer a.0.now)
check_called κs a x s p = p

pub first_called : Called 1 first·kinds.ps first·kinds.r first.Post (λ κs a x s. cursor_says x ≡ first_answer a.0.now)
first_called κs a x s p = p

pub entry_called : Called 1 entry·kinds.ps entry·kinds.r entry.Post (λ κs a x s. entry_says x ≡ entry_answer offset_size a.0.now a.1.0 a.1.1.0)
entry_called κs a x s p = p

pub record_info_called : Called 1 record-info·kinds.ps record-info·kinds.r record-info.Post (λ κs a x s. info_says x ≡ info_answer a.0.now a.1.0)
record_info_called κs a x s p = p

-- what record answers, and its two buffers at exit
pub record_called : Called 3 record·kinds.ps record·kinds.r record·reads.Post
    (λ κs a x s. let file = a.0.now in
    let bases = a.1.1.0.now in
    let flags = a.1.1.1.0.now in
    (read_says x ≡ record_answer file a.1.0 bases flags)
    × ((s.1.1.0.now ≡ bases_after file a.1.0 bases flags) × (s.1.1.1.0.now ≡ flags_after file a.1.0 bases flags)))
record_called κs a x s p = p
