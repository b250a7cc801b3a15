-- The lent buffers after a step: they stay where there is nothing to look at, and the tracks keep their size.
-- Assumes nothing.
use Rattle.std.proofs.Common.{◌≡◌, ℕ, Bool, true, false, List, [], ◌∷◌, length, refl, ◌∙◌}
use Rattle.codes.specs.Codes.{pick}
use Rattle.stores.specs.Stores.{push_ascii, after}
use Rattle.fasta.specs.Report.{content, is_header}
use Rattle.fasta.specs.Records.{lengthened}
use Rattle.fasta.specs.Steps.{line_end, line_letters, goes_on}
use Rattle.fasta.specs.Buffers.{line_track, held_track, track_after, other_after}
use Rattle.fasta.specs.declared.reader.Record.{Record}
use Rattle.fasta.specs.declared.reader.Reader.{Reader}
use Rattle.fasta.proofs.HoldLaws.{push_nothing, push_length}

-- nothing to look at: the buffers stay
pub track_none : (w : ℕ) (reader : Reader) (bytes : List ℕ) → track_after w reader [] bytes ≡ bytes
unfolding track_after line_track held_track line_end content
track_none w Reader.Start bytes = refl
track_none w Reader.StartHeld bytes = refl
track_none w (Reader.Header i) bytes = refl
track_none w (Reader.Fresh k) bytes = push_nothing w bytes k.count
track_none w (Reader.Within k) bytes = push_nothing w bytes k.count
track_none w (Reader.WithinHeld k) bytes = refl
track_none w Reader.Ended bytes = refl

pub other_none : (reader : Reader) (bases other : List ℕ) → other_after reader [] bases other ≡ other
unfolding other_after
other_none Reader.Start bases other = refl
other_none Reader.StartHeld bases other = refl
other_none (Reader.Header i) bases other = refl
other_none (Reader.Fresh k) bases other = refl
other_none (Reader.Within k) bases other = refl
other_none (Reader.WithinHeld k) bases other = refl
other_none Reader.Ended bases other = refl

-- the tracks keep their size
line_track-length : (w : ℕ) (k : Record) (part bytes : List ℕ) → length (line_track w k part bytes) ≡ length bytes
unfolding line_track
line_track-length w k part bytes = push_length w bytes k.count (line_letters part)

held_track-length : (w : ℕ) (k : Record) (part bytes : List ℕ) → length (held_track w k part bytes) ≡ length bytes
unfolding held_track
held_track-length w k part bytes =
    let returned : List ℕ = after w bytes k.count (push_ascii (13 ∷ [])) in
    cases returned (push_length w bytes k.count (13 ∷ [])) (goes_on part)
  where
    cases : (bytes' : List ℕ) → length bytes' ≡ length bytes → (t : Bool) → length (pick t (line_track w (lengthened k 1) part bytes') bytes) ≡ length bytes
    cases bytes' e true = line_track-length w (lengthened k 1) part bytes' ∙ e
    cases bytes' e false = refl

pub track_length : (w : ℕ) (reader : Reader) (part bytes : List ℕ) → length (track_after w reader part bytes) ≡ length bytes
unfolding track_after
track_length w Reader.Start part bytes = refl
track_length w Reader.StartHeld part bytes = refl
track_length w (Reader.Header i) part bytes = refl
track_length w (Reader.Fresh k) part bytes =
    cases (is_header part)
  where
    cases : (t : Bool) → length (pick t bytes (line_track w k part bytes)) ≡ length bytes
    cases true = refl
    cases false = line_track-length w k part bytes
track_length w (Reader.Within k) part bytes = line_track-length w k part bytes
track_length w (Reader.WithinHeld k) part bytes = held_track-length w k part bytes
track_length w Reader.Ended part bytes = refl
