-- A step in any state leads where the report says.
-- Assumes nothing.
use Rattle.std.proofs.Common.{ℕ, List, [], ◌∷◌, take, arith}
use Rattle.fasta.specs.Steps.{next}
use Rattle.fasta.specs.Buffers.{track_after}
use Rattle.fasta.specs.declared.reader.Reader.{Reader}
use Rattle.fasta.proofs.Meaning.{Sized, Onward}
use Rattle.fasta.proofs.LeadLaws.{leads_none}
use Rattle.fasta.proofs.BufferLaws.{track_none}
use Rattle.fasta.proofs.HeadSteps.{begun-onward, begun_held-onward, header_onward, ended_onward}
use Rattle.fasta.proofs.LineSteps.{line_onward, fresh_onward, held_onward}

pub next_onward : (bases flags : List ℕ) → Sized bases flags → (reader : Reader) (part : List ℕ)
    → Onward reader bases flags (take (next reader part bases flags).used part) (next reader part bases flags) (track_after 2 reader part bases) (track_after 1 reader part flags)
unfolding next track_after
next_onward bases flags size reader [] = rw (track_none 2 reader bases, track_none 1 reader flags) (λ s h l. (s, h, leads_none s))
next_onward bases flags size Reader.Start (b ∷ bs) = begun-onward (b ∷ bs) bases flags (omega arith)
next_onward bases flags size Reader.StartHeld (b ∷ bs) = begun_held-onward (b ∷ bs) bases flags (omega arith)
next_onward bases flags size (Reader.Header i) (b ∷ bs) = header_onward (b ∷ bs) bases flags i
next_onward bases flags size (Reader.Fresh k) (b ∷ bs) = fresh_onward (b ∷ bs) bases flags size k (omega arith)
next_onward bases flags size (Reader.Within k) (b ∷ bs) = line_onward (b ∷ bs) bases flags size k
next_onward bases flags size (Reader.WithinHeld k) (b ∷ bs) = held_onward (b ∷ bs) bases flags size k (omega arith)
next_onward bases flags size Reader.Ended (b ∷ bs) = ended_onward (b ∷ bs) bases flags
