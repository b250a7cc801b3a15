-- However the input is cut into parts, whatever texts are lent and whenever they are written out, what the feeds collect, put together, is the
-- report. A feed is a series of steps, so the claim follows from that on steps.
-- Assumes nothing.
use Rattle.std.proofs.Common.{◌≡◌, ℕ, zero, suc, ◌+◌, ◌^◌, ◌<◌, ◌≤◌, Bool, true, false, List, [], ◌++◌, length, take, drop, sym, refl, ap, ◌∙◌, subst, append_assoc, append-nil, arith, length-append, length-drop, drop-drop, ltb-false}
use lib.Seq.{take-append_seam}
use Rattle.codes.specs.Codes.{pick}
use Rattle.fasta.specs.Report.{report}
use Rattle.fasta.specs.Steps.{Move, too_short, next, started, last_lines}
use Rattle.fasta.specs.Buffers.{onto}
use Rattle.fasta.specs.Feeds.{Way, ahead, further, along, feeding, then_after, fed, behind, Leaves, at_end}
use Rattle.fasta.specs.declared.reader.Reader.{Reader}
use Rattle.fasta.specs.declared.feeds.Then.TheVariants as Then
use Rattle.fasta.specs.declared.feeds.Fed.{Fed}
use Rattle.fasta.proofs.Rest.{ended, rest}
use Rattle.fasta.proofs.Meaning.{Sized}
use Rattle.fasta.proofs.Chunked.{front, Calls, finish, step, stop as stopped, sized_after, calls_say, chunked}
use Rattle.fasta.proofs.FeedLaws.{way, feeding-within, behind_length, behind_front, last_fits}

-- the ways to read an input by feeds, from a reader, its tracks and a text with so many bytes in use on: each feed is given a front part of what
-- is left, of any length; with nothing left, the end. At any time the bytes in use are written out, and any text may be lent next; the run stops
-- where an answer said so. The last list is what is written out, put together.
pub data Feeds : Reader → List ℕ → List ℕ → List ℕ → ℕ → List ℕ → List ℕ → Type 0 where
  feed : {reader : Reader} {bases flags text output : List ℕ} {filled : ℕ} (part more other : List ℕ) {r : Fed} {bases' flags' other' text' : List ℕ}
      → Leaves part text filled (feeding reader part bases flags other (drop filled text)) r bases' flags' other' text'
      → Feeds r.reader bases' flags' text' r.filled (drop r.used part ++ more) output → Feeds reader bases flags text filled (part ++ more) output
  end : {reader : Reader} {bases flags text output : List ℕ} {filled : ℕ} {r : Fed} {text' : List ℕ}
      → r ≡ fed filled true (at_end reader bases flags (drop filled text)) → text' ≡ behind filled (at_end reader bases flags (drop filled text)).written text
      → Feeds r.reader bases flags text' r.filled [] output → Feeds reader bases flags text filled [] output
  write : {reader : Reader} {bases flags text input output : List ℕ} {filled : ℕ} (lent : List ℕ)
      → Feeds reader bases flags lent 0 input output → Feeds reader bases flags text filled input (take filled text ++ output)
  stop : {reader : Reader} {bases flags text : List ℕ} (left : Bool) (more : List ℕ) → then_after reader left ≡ Then.Stop → Feeds reader bases flags text 0 more []

-- a feed is a series of steps
module _ (reader : Reader) (part bases flags other out more : List ℕ) where
  abbrev v : ℕ → Way
  v n = along n part out (way reader 0 [] bases flags other)

  pub feed_calls : (n : ℕ) (written : List ℕ) → Calls (v n).done.reader (v n).bases (v n).flags (drop (v n).done.used part ++ more) written
      → Calls reader bases flags (part ++ more) ((v n).done.written ++ written)
  unfolding along further
  feed_calls zero written cs = cs
  feed_calls (suc n) written cs =
      let w : Way = v n in
      let m : Move = next w.done.reader (ahead part out w) w.bases w.flags in
      let o : List ℕ = drop (length w.done.written) out in
      let seam : front m.written o ≡ m.written = take-append_seam m.written (drop (length m.written) o) in
      rw (append_assoc, ← seam)
      (feed_calls n (front m.written o ++ written)
      (step {reader = w.done.reader} {bases = w.bases} {flags = w.flags} {written = written} (drop w.done.used part) more o (rw drop-drop cs)))

  feed_sized : Sized bases flags → (n : ℕ) → Sized (v n).bases (v n).flags
  unfolding along further
  feed_sized size zero = size
  feed_sized size (suc n) = sized_after (v n).bases (v n).flags (feed_sized size n) (v n).done.reader (ahead part out (v n))

-- the end of the input is the finish, or nothing
module _ (reader : Reader) (bases flags out : List ℕ) where
  abbrev last : List ℕ
  last = last_lines reader bases flags out

  end_calls : Sized bases flags → (t : Bool) → too_short out ≡ t → (written : List ℕ) → Calls (pick t reader Reader.Ended) bases flags [] written
      → Calls reader bases flags [] (last ++ written)
  unfolding rest last_lines
  end_calls size true e written cs = rw e cs
  end_calls size false e written cs =
      let nothing : [] ≡ written = sym (calls_say cs size ended refl (omega arith)) in
      subst (Calls reader bases flags []) (take-append_seam last (drop (length last) out) ∙ sym (append-nil last) ∙ ap (λ (x : List ℕ). last ++ x) nothing)
      (finish out (ltb-false (length out) 96 e))

-- a run that is told to stop has ended
none : {A : Type 0} (left : Bool) → pick left Then.Write Then.Read ≡ Then.Stop → A
none true e = let z : ◌≡◌ {A = ℕ} 0 1 = cc in absurd (omega arith)
none false e = let z : ◌≡◌ {A = ℕ} 0 1 = cc in absurd (omega arith)

stops : (reader : Reader) (left : Bool) → then_after reader left ≡ Then.Stop → reader ≡ Reader.Ended
stops Reader.Start left e = none left e
stops Reader.StartHeld left e = none left e
stops (Reader.Header i) left e = none left e
stops (Reader.Fresh k) left e = none left e
stops (Reader.Within k) left e = none left e
stops (Reader.WithinHeld k) left e = none left e
stops Reader.Ended left e = refl

-- what is written out of a text with bytes written behind those in use
module _ (filled : ℕ) (written text : List ℕ) (h : length written ≤ length (drop filled text)) (l : filled ≤ length text) where
  behind_fits : filled + length written ≤ length (behind filled written text)
  behind_fits = omega (arith, behind_length filled written text h, length-drop filled text)

  behind_out : (later output : List ℕ) → output ≡ take (filled + length written) (behind filled written text) ++ later → output ≡ take filled text ++ (written ++ later)
  behind_out later output e = e ∙ ap (λ (x : List ℕ). x ++ later) (behind_front filled written text h l) ∙ append_assoc (take filled text) written later

pub feeds_calls : {reader : Reader} {bases flags text : List ℕ} {filled : ℕ} {input output : List ℕ} → Feeds reader bases flags text filled input output
    → filled ≤ length text → Sized bases flags → (written : List ℕ) × Calls reader bases flags input written × (output ≡ take filled text ++ written)
feeds_calls {reader} {bases} {flags} {text} {filled} (feed {output} part more other s fs) l size =
    let out : List ℕ = drop filled text in
    let w : List ℕ = (feeding reader part bases flags other out).done.written in
    let h = (feeding-within reader part bases flags other out).wrote in
    let z = feed_sized reader part bases flags other out more size (length part) in
    let g = rw (s.says, s.bases, s.flags, s.text) at (feeds_calls fs (rw (s.says, s.text) (behind_fits filled w text h l)) (rw (s.bases, s.flags) z)) in
    (w ++ g.0, feed_calls reader part bases flags other out more (length part) g.0 g.1, behind_out filled w text h l g.0 output g.2)
feeds_calls {reader} {bases} {flags} {text} {filled} (end {output} e t fs) l size =
    let out : List ℕ = drop filled text in
    let w : List ℕ = last_lines reader bases flags out in
    let h = last_fits reader bases flags out in
    let g = rw (e, t) at (feeds_calls fs (rw (e, t) (behind_fits filled w text h l)) size) in
    (w ++ g.0, end_calls reader bases flags out size (too_short out) refl g.0 g.1, behind_out filled w text h l g.0 output g.2)
feeds_calls {text} {filled} (write lent fs) l size = let g = feeds_calls fs (omega arith) size in (g.0, g.1, ap (λ (x : List ℕ). take filled text ++ x) g.2)
feeds_calls {reader} {bases} {flags} (stop left more e) l size = ([], subst (λ (x : Reader). Calls x bases flags more []) (sym (stops reader left e)) (stopped more), refl)

-- an input of fewer than 2^64 - 1 bytes has fewer than 2^64 records
module _ (text bases flags input output : List ℕ) where
  pub collected : 96 ≤ length text → Sized bases flags
      → Feeds (started text).reader bases flags (onto (started text).written text) (length (started text).written) input output
      → length input + 1 < 2 ^ 64 → output ≡ report input
  collected m size fs h =
      let w : List ℕ = (started text).written in
      let g = feeds_calls fs (omega (arith, length-append w (drop (length w) text))) size in
      g.2 ∙ chunked text bases flags input g.0 m size g.1 h
