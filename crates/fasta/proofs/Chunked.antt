-- However the input is cut into parts, the heading, what the steps write and what the finish writes, put together, are the report.
-- Each state says what the report still says; a step hands that on, so the claim goes by the list of calls. Assumes nothing.
use Rattle.std.proofs.Common.{◌≡◌, ℕ, ◌+◌, ◌^◌, ◌<◌, ◌≤◌, Bool, true, false, List, [], ◌++◌, length, take, drop, sym, refl, ap, ◌∙◌, append_assoc, arith, length-append, length-drop, take-append-drop, length-take, le-ltb}
use lib.Seq.{take-append_seam}
use Rattle.codes.specs.Codes.{pick}
use Rattle.fasta.specs.Report.{heading, report}
use Rattle.fasta.specs.Steps.{Move, too_short, seen, next, started, last_lines}
use Rattle.fasta.specs.Buffers.{onto, track_after}
use Rattle.fasta.specs.declared.reader.Reader.{Reader}
use Rattle.fasta.proofs.Rest.{State, start, ended, rest, records_before, Leads}
use Rattle.fasta.proofs.Meaning.{Sized, Reads, Onward}
use Rattle.fasta.proofs.BoundLaws.{next_bounded}
use Rattle.fasta.proofs.BufferLaws.{track_length}
use Rattle.fasta.proofs.FinishLaws.{ending-says}
use Rattle.fasta.proofs.StepLaws.{next_onward}

-- what stands at the front of out after a call that wrote
abbrev pub front : List ℕ → List ℕ → List ℕ
front written out = take (length written) (onto written out)

-- the calls that read an input, from a reader and its tracks on: each step is given a front part of what is left, of any length, and an out of
-- any; with nothing left, the finish. A run may stop without it where the reader has ended: what is left is not read. The last list is what they
-- write, put together.
pub data Calls : Reader → List ℕ → List ℕ → List ℕ → List ℕ → Type 0 where
  finish : {reader : Reader} {bases flags : List ℕ} (out : List ℕ) → 96 ≤ length out → Calls reader bases flags [] (front (last_lines reader bases flags out) out)
  step : {reader : Reader} {bases flags written : List ℕ} (part more out : List ℕ)
      → Calls (next reader (seen part out) bases flags).reader (track_after 2 reader (seen part out) bases) (track_after 1 reader (seen part out) flags)
      (drop (next reader (seen part out) bases flags).used part ++ more) written
      → Calls reader bases flags (part ++ more) (front (next reader (seen part out) bases flags).written out ++ written)
  stop : {bases flags : List ℕ} (more : List ℕ) → Calls Reader.Ended bases flags more []

left : (used : ℕ) (part more : List ℕ) → part ++ more ≡ take used part ++ (drop used part ++ more)
left used part more = ap (λ (x : List ℕ). x ++ more) (sym (take-append-drop used part)) ∙ append_assoc (take used part) (drop used part) more

-- a step in a part of which it may look at nothing
module _ (bases flags : List ℕ) (size : Sized bases flags) (reader : Reader) (part : List ℕ) where
  abbrev Goes : List ℕ → Type 0
  Goes p =
      let m : Move = next reader p bases flags in
      (m.used ≤ length part) × Onward reader bases flags (take m.used part) m (track_after 2 reader p bases) (track_after 1 reader p flags)

  goes_none : Goes []
  unfolding next
  goes_none = (omega arith, next_onward bases flags size reader [])

  goes : (t : Bool) → Goes (pick t [] part)
  goes true = goes_none
  goes false = ((next_bounded reader part bases flags).used, next_onward bases flags size reader part)

pub sized_after : (bases flags : List ℕ) → Sized bases flags → (reader : Reader) (p : List ℕ) → Sized (track_after 2 reader p bases) (track_after 1 reader p flags)
sized_after bases flags size reader p = record { bases = track_length 2 reader p bases ∙ size.bases; flags = track_length 1 reader p flags ∙ size.flags }

last_says : (reader : Reader) (bases flags out : List ℕ) → 96 ≤ length out → (s : State) → Reads reader bases flags s → records_before s + 1 < 2 ^ 64 → last_lines reader bases flags out ≡ rest s []
unfolding last_lines
last_says reader bases flags out m s h l = rw (le-ltb (length out) 96 m) (sym (ending-says bases flags reader s h l))

ended_says : (s : State) → s ≡ ended → (more : List ℕ) → [] ≡ rest s more
unfolding rest
ended_says s e more = sym (ap (λ (x : State). rest x more) e)

pub calls_say : {reader : Reader} {bases flags input written : List ℕ} → Calls reader bases flags input written → Sized bases flags → (s : State) → Reads reader bases flags s
    → records_before s + length input + 1 < 2 ^ 64 → written ≡ rest s input
calls_say {reader} {bases} {flags} (finish out m) size s h l = take-append_seam (last_lines reader bases flags out) _ ∙ last_says reader bases flags out m s h (omega arith)
calls_say {reader} {bases} {flags} (step {written} part more out cs) size s h l =
    let p : List ℕ = seen part out in
    let m : Move = next reader p bases flags in
    let n : length (part ++ more) ≡ length part + length more = length-append part more in
    let g : Goes bases flags size reader part p = goes bases flags size reader part (too_short out) in
    let o = g.1 s h (omega arith) in
    let leads : Leads s (take m.used part) m.written o.0 = o.2 in
    ap (λ (x : List ℕ). x ++ written) (take-append_seam m.written _)
    ∙ ap (λ (x : List ℕ). m.written ++ x)
    (calls_say cs (sized_after bases flags size reader p) o.0 o.1
    (omega (arith, n, length-append (drop m.used part) more, length-take m.used part, length-drop m.used part, g.0, leads.counts)))
    ∙ sym (leads.says (drop m.used part ++ more))
    ∙ ap (rest s) (sym (left m.used part more))
calls_say (stop more) size s h l = ended_says s h more

-- an input of fewer than 2^64 - 1 bytes has fewer than 2^64 records
module _ (out bases flags input written : List ℕ) where
  pub chunked : 96 ≤ length out → Sized bases flags → Calls (started out).reader bases flags input written → length input + 1 < 2 ^ 64
      → front (started out).written out ++ written ≡ report input
  unfolding report rest started
  chunked m size cs h =
      let e : pick (too_short out) [] heading ≡ heading = rw (le-ltb (length out) 96 m) in
      ap (λ (x : List ℕ). x ++ written) (take-append_seam (pick (too_short out) [] heading) _ ∙ e)
      ∙ ap (λ (x : List ℕ). heading ++ x) (calls_say cs size start refl (omega arith))

-- so any two ways to read an input write the same
pub written_once : (out bases flags written out₂ bases₂ flags₂ written₂ input : List ℕ)
    → 96 ≤ length out → Sized bases flags → Calls (started out).reader bases flags input written
    → 96 ≤ length out₂ → Sized bases₂ flags₂ → Calls (started out₂).reader bases₂ flags₂ input written₂
    → length input + 1 < 2 ^ 64 → front (started out).written out ++ written ≡ front (started out₂).written out₂ ++ written₂
written_once out bases flags written out₂ bases₂ flags₂ written₂ input m size cs m₂ size₂ cs₂ h =
    chunked out bases flags input written m size cs h ∙ sym (chunked out₂ bases₂ flags₂ input written₂ m₂ size₂ cs₂ h)
