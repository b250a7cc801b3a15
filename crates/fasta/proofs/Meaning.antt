-- What a reader and its tracks stand for, and where a call goes from there.
-- Assumes nothing.
use Rattle.std.proofs.Common.{◌≡◌, ℕ, ◌+◌, ◌^◌, ◌<◌, ◌≤◌, ltb, List, map, length}
use Rattle.codes.specs.Codes.{chars, lossy, flag}
use Rattle.fasta.specs.Steps.{Move}
use Rattle.fasta.specs.declared.reader.Record.{Record}
use Rattle.fasta.specs.declared.reader.Reader.{Reader}
use Rattle.fasta.proofs.Rest.{State, start, start_held, header, fresh, within, within_held, ended, records_before, Leads}

-- the buffers of the two tracks have room for 16,384 letters
pub record Sized (bs fs : List ℕ) : Type 0 where
  pub bases : length bs ≡ 4144
  pub flags : length fs ≡ 2096

-- what is kept of up to 16,384 letters: their count and their tracks
pub record Kept (r : Record) (bs fs ls : List ℕ) : Type 0 where
  pub count : r.count ≡ length ls
  pub bases : chars 2 bs 0 (length ls) ≡ map lossy ls
  pub flags : chars 1 fs 0 (length ls) ≡ map flag ls

-- the open record, after i others, has the letters ls
pub record Holds (r : Record) (bases flags : List ℕ) (i : ℕ) (ls : List ℕ) : Type 0 where
  pub number : r.number ≡ i
  pub long : ltb 16384 r.count ≡ ltb 16384 (length ls)
  pub short : length ls ≤ 16384 → Kept r bases flags ls

-- what a reader and its tracks stand for
abbrev pub Reads : Reader → List ℕ → List ℕ → State → Type 0
Reads Reader.Start bases flags s = s ≡ start
Reads Reader.StartHeld bases flags s = s ≡ start_held
Reads (Reader.Header i) bases flags s = s ≡ header i
Reads (Reader.Fresh r) bases flags s = (i : ℕ) × (ls : List ℕ) × (s ≡ fresh i ls) × Holds r bases flags i ls
Reads (Reader.Within r) bases flags s = (i : ℕ) × (ls : List ℕ) × (s ≡ within i ls) × Holds r bases flags i ls
Reads (Reader.WithinHeld r) bases flags s = (i : ℕ) × (ls : List ℕ) × (s ≡ within_held i ls) × Holds r bases flags i ls
Reads Reader.Ended bases flags s = s ≡ ended

-- where a reader goes from one state
abbrev pub From : State → List ℕ → Move → List ℕ → List ℕ → Type 0
From s taken m bases flags = records_before s + 1 < 2 ^ 64 → (s' : State) × Reads m.reader bases flags s' × Leads s taken m.written s'

-- and from any that it stands for, if its number still fits: it takes the bytes `taken`, and leaves the tracks bases' and flags'
abbrev pub Onward : Reader → List ℕ → List ℕ → List ℕ → Move → List ℕ → List ℕ → Type 0
Onward reader bases flags taken m bases' flags' = (s : State) → Reads reader bases flags s → From s taken m bases' flags'
