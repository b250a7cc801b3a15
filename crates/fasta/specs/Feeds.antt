-- What a feed does: it steps through a part of the input, and puts what the steps write behind the bytes in use of a text.
-- Assumes nothing.
use Rattle.std.specs.Prelude.{◌≡◌, ℕ, zero, suc, ◌+◌, Bool, List, [], ◌++◌, length, take, drop, nat_lt}
use Rattle.codes.specs.Codes.{pick}
use Rattle.fasta.specs.Steps.{Move, move, too_short, seen, next, last_lines}
use Rattle.fasta.specs.Buffers.{track_after, other_after}
use Rattle.fasta.specs.declared.reader.Reader.{Reader}
use Rattle.fasta.specs.declared.feeds.Then.{Then}
use Rattle.fasta.specs.declared.feeds.Fed.{Fed}

-- a feed on its way: what it has done so far, its tracks, and the buffer lent for the reverse complement
pub record Way : Type 0 where
  pub done : Move
  pub bases : List ℕ
  pub flags : List ℕ
  pub other : List ℕ

-- what its next step looks at: the rest of the part, or nothing where fewer than 96 bytes are left of out, the text behind the bytes in use
abbrev pub ahead : List ℕ → List ℕ → Way → List ℕ
ahead part out w = seen (drop w.done.used part) (drop (length w.done.written) out)

-- a step further
unfoldable pub further : List ℕ → List ℕ → Way → Way
further part out w =
    let p : List ℕ = ahead part out w in
    let m : Move = next w.done.reader p w.bases w.flags in
    record {
      done = move m.reader (w.done.used + m.used) (w.done.written ++ m.written);
      bases = track_after 2 w.done.reader p w.bases;
      flags = track_after 1 w.done.reader p w.flags;
      other = other_after w.done.reader p w.bases w.other;
    }

-- n steps further
unfoldable pub along : ℕ → List ℕ → List ℕ → Way → Way
along zero part out w = w
along (suc n) part out w = further part out (along n part out w)

-- the whole feed: as many steps as the part has bytes. A step takes one or more while there are bytes and room, and else changes nothing
abbrev pub feeding : Reader → List ℕ → List ℕ → List ℕ → List ℕ → List ℕ → Way
feeding reader part bases flags other out = along (length part) part out (record { done = move reader 0 []; bases = bases; flags = flags; other = other })

-- what is left to do: read on, or write the text out where there is more to feed; stop after the report
abbrev pub then_after : Reader → Bool → Then
then_after Reader.Start more = pick more Then.Write Then.Read
then_after Reader.StartHeld more = pick more Then.Write Then.Read
then_after (Reader.Header i) more = pick more Then.Write Then.Read
then_after (Reader.Fresh k) more = pick more Then.Write Then.Read
then_after (Reader.Within k) more = pick more Then.Write Then.Read
then_after (Reader.WithinHeld k) more = pick more Then.Write Then.Read
then_after Reader.Ended more = Then.Stop

-- what a call answers
abbrev pub fed : ℕ → Bool → Move → Fed
fed filled more m = record { reader = m.reader; used = m.used; filled = filled + length m.written; then = then_after m.reader more }

-- the text: its first `filled` bytes, those written, then its own
abbrev pub behind : ℕ → List ℕ → List ℕ → List ℕ
behind filled written text = (take filled text ++ written) ++ drop (filled + length written) text

-- what a feed leaves: its answer, and what stands in each lent buffer
pub record Leaves (part lent : List ℕ) (filled : ℕ) (w : Way) (r : Fed) (bases' flags' other' text' : List ℕ) : Type 0 where
  pub says : r ≡ fed filled (nat_lt w.done.used (length part)) w.done
  pub bases : bases' ≡ w.bases
  pub flags : flags' ≡ w.flags
  pub other : other' ≡ w.other
  pub text : text' ≡ behind filled w.done.written lent

-- the end of the input: the last lines complete the report, if there is room for them
abbrev pub at_end : Reader → List ℕ → List ℕ → List ℕ → Move
at_end reader bases flags out = move (pick (too_short out) reader Reader.Ended) 0 (last_lines reader bases flags out)
