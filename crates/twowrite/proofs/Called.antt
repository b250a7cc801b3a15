-- What satisfies a call's contract, as the checker reads it from the source, answers and leaves what the definitions say.
-- Assumes nothing.
use mathlib.Core.Path.{◌≡◌}
use Rattle.codes.specs.Answers.{says}
use Rattle.twobit.specs.Files.{offset_size}
use Rattle.codes.proofs.Permitted.{Called}
use Rattle.twowrite.specs.Answers.{started_says, stepped_says}
use Rattle.twowrite.specs.Writing.{start_answer, start_after, size_answer, add_answer, add_after, finish_answer}
use Rattle.twowrite.proofs.writing.start.Kinds as start·kinds
use Rattle.twowrite.proofs.writing.start.Reads as start
use Rattle.twowrite.proofs.writing.record_size.Kinds as record-size·kinds
use Rattle.twowrite.proofs.writing.record_size.Reads as record-size
use Rattle.twowrite.proofs.writing.add.Kinds as add·kinds
use Rattle.twowrite.proofs.writing.add.Reads as add
use Rattle.twowrite.proofs.writing.finish.Kinds as finish·kinds
use Rattle.twowrite.proofs.writing.finish.Reads as finish

-- what start answers, and the output at exit
pub start_called : Called 1 start·kinds.ps start·kinds.r start.Post
    (λ κs a x s. let out = a.1.1.0.now in
    (started_says x ≡ start_answer 0 offset_size a.0 a.1.0 out) × (s.1.1.0.now ≡ start_after 0 offset_size a.0 a.1.0 out))
start_called κs a x s p = p

pub record_size_called : Called 1 record-size·kinds.ps record-size·kinds.r record-size.Post
    (λ κs a x s. says x ≡ size_answer a.0.now a.1.0.0 a.1.1.0.0)
record_size_called κs a x s p = p

-- what add answers, and the output at exit
pub add_called : Called 4 add·kinds.ps add·kinds.r add.Post
    (λ κs a x s. let bases = a.1.1 in
    let flags = bases.1.1.1 in
    let out = flags.1.1.1.0.now in
    (stepped_says x ≡ add_answer offset_size a.0 a.1.0.now bases.0.now bases.1.0.0 bases.1.1.0.0 flags.0.now flags.1.0.0 flags.1.1.0.0 out)
    × (s.1.1.1.1.1.1.1.1.0.now
    ≡ add_after offset_size a.0 a.1.0.now bases.0.now bases.1.0.0 bases.1.1.0.0 flags.0.now flags.1.0.0 flags.1.1.0.0 out))
add_called κs a x s p = p

pub finish_called : Called 0 finish·kinds.ps finish·kinds.r finish.Post (λ κs a x s. says x ≡ finish_answer a.0)
finish_called κs a x s p = p
