-- More letters for the open record: both tracks keep them where there are at most 16,384, and beyond that there are only too many.
-- Assumes nothing.
use Rattle.std.specs.Prelude.{Ok}
use Rattle.std.proofs.Common.{◌≡◌, ℕ, ◌+◌, ◌^◌, ◌<◌, ◌≤◌, ltb, List, [], ◌∷◌, ◌++◌, map, length, sym, refl, ap, ◌∙◌, arith, length-append, ltb-false, ltb-true, le-ltb, lt-ltb}
use mathlib.Core.List.{map-append}
use Rattle.codes.specs.Codes.{IsWidth, up, trailing, chars, code}
use Rattle.codes.specs.Refusals.{if_done}
use Rattle.codes.proofs.CharLaws.{length-pack}
use Rattle.codes.specs.Widths.{width_1, width_2}
use Rattle.codes.proofs.WidthLaws.{up-mono, below_or}
use Rattle.runs.specs.Runs.{written}
use Rattle.stores.specs.Stores.{push_ascii, outcome, still, deed, buffer_after, after}
use Rattle.stores.proofs.CallLaws.{by_outcome}
use Rattle.fasta.specs.Records.{at_most, opened, lengthened}
use Rattle.fasta.specs.declared.reader.Record.{Record}
use Rattle.fasta.proofs.Meaning.{Sized, Kept, Holds}
use Rattle.fasta.proofs.PushLaws.{push_chars}

written-length : (w : ℕ) (bs : List ℕ) (at : ℕ) (cs : List ℕ) → length (written w bs at cs) ≡ length bs
unfolding written
written-length w bs at cs = length-pack w (length bs) _

-- a push leaves a buffer as long as it was, and as it was where there is nothing to push
module _ (w : ℕ) (bs : List ℕ) (at : ℕ) where
  pub push_nothing : after w bs at (push_ascii []) ≡ bs
  unfolding after
  push_nothing = by_outcome (λ o. buffer_after w bs (if_done o still still) ≡ bs) (outcome w (length bs) at (push_ascii [])) (λ e. refl) (λ r e. refl)

  pub push_length : (ls : List ℕ) → length (after w bs at (push_ascii ls)) ≡ length bs
  unfolding after
  push_length [] = ap length push_nothing
  push_length (l ∷ ls) =
      by_outcome (λ o. length (buffer_after w bs (if_done o (deed w at (push_ascii (l ∷ ls))) still)) ≡ length bs) (outcome w (length bs) at (push_ascii (l ∷ ls)))
      (λ e. written-length w bs at (map (code w) (l ∷ ls)))
      (λ r e. refl)

-- the count of a record that gets more
pub most_past : (n : ℕ) → 16384 < n → at_most n ≡ 16385
unfolding at_most
most_past n h = rw (lt-ltb 16384 n h)

pub most_fit : (n : ℕ) → n ≤ 16384 → at_most n ≡ n
unfolding at_most
most_fit n h = rw (le-ltb 16384 n h)

module _ (r : Record) (bases flags : List ℕ) (i : ℕ) (ls : List ℕ) (h : Holds r bases flags i ls) where
  -- the count tells whether there are too many
  pub many : 16384 < r.count → 16384 < length ls
  many l = ltb-true 16384 (length ls) (sym h.long ∙ lt-ltb 16384 r.count l)

  few : r.count ≤ 16384 → length ls ≤ 16384
  few l = ltb-false 16384 (length ls) (sym h.long ∙ le-ltb 16384 r.count l)

  pub kept_of_lem : r.count ≤ 16384 → Kept r bases flags ls
  kept_of_lem l = h.short (few l)

-- a record before its first letter
pub holds_none : (i : ℕ) (bases flags : List ℕ) → Holds (opened i) bases flags i []
unfolding chars
holds_none i bases flags = record { number = refl; long = refl; short = λ l. record { count = refl; bases = refl; flags = refl } }

-- a track of a record that gets more letters, where there is room
module _ {w : ℕ} (W : IsWidth w) (bytes letters : List ℕ) (count : ℕ) (small : length bytes ≤ 2 ^ 28) (room : up w (count + length letters) + trailing ≤ length bytes) where
  pushed : outcome w (length bytes) count (push_ascii letters) ≡ Ok tt
  unfolding outcome
  pushed =
      rw (
        le-ltb (2 ^ 28) (length bytes) small,
        le-ltb (length bytes) (up w count + trailing) (omega (arith, up-mono W count (count + length letters) (omega arith))),
        le-ltb (length bytes) (up w (count + length letters) + trailing) room,
      )

  track_more : (ls : List ℕ) → count ≡ length ls → chars w bytes 0 (length ls) ≡ map (code w) ls
      → chars w (after w bytes count (push_ascii letters)) 0 (length (ls ++ letters)) ≡ map (code w) (ls ++ letters)
  track_more ls e k =
      ap (chars w (after w bytes count (push_ascii letters)) 0) (length-append ls letters ∙ ap (λ (n : ℕ). n + length letters) (sym e))
      ∙ push_chars W bytes count letters pushed (omega arith)
      ∙ ap (λ (x : List ℕ). x ++ map (code w) letters) (ap (chars w bytes 0) e ∙ k)
      ∙ sym (map-append (code w) ls letters)

module _ (r : Record) (bases flags letters : List ℕ) (size : Sized bases flags) (i : ℕ) (ls : List ℕ) (h : Holds r bases flags i ls) where
  abbrev bases' : List ℕ
  bases' = after 2 bases r.count (push_ascii letters)

  abbrev flags' : List ℕ
  flags' = after 1 flags r.count (push_ascii letters)

  past : 16384 < r.count + length letters → Holds (lengthened r (length letters)) bases' flags' i (ls ++ letters)
  past l =
      let m : 16384 < length (ls ++ letters) =
      below_or 16384 r.count
      (λ p. omega (arith, many r bases flags i ls h p, length-append ls letters))
      (λ p. omega (arith, (kept_of_lem r bases flags i ls h p).count, length-append ls letters)) in
      record {
        number = h.number;
        long = ap (ltb 16384) (most_past (r.count + length letters) l) ∙ sym (lt-ltb 16384 (length (ls ++ letters)) m);
        short = λ s. absurd (omega arith);
      }

  fit : r.count + length letters ≤ 16384 → Holds (lengthened r (length letters)) bases' flags' i (ls ++ letters)
  unfolding code
  fit l =
      let k : Kept r bases flags ls = kept_of_lem r bases flags i ls h (omega arith) in
      let e : at_most (r.count + length letters) ≡ length (ls ++ letters) = most_fit (r.count + length letters) l ∙ omega (arith, k.count, length-append ls letters) in
      record {
        number = h.number;
        long = ap (ltb 16384) e;
        short =
            λ s.
            record {
              count = e;
              bases = track_more width_2 bases letters r.count (omega (arith, size.bases)) (omega (arith, size.bases)) ls k.count k.bases;
              flags = track_more width_1 flags letters r.count (omega (arith, size.flags)) (omega (arith, size.flags)) ls k.count k.flags;
            };
      }

  pub lengthens : Holds (lengthened r (length letters)) bases' flags' i (ls ++ letters)
  lengthens = below_or 16384 (r.count + length letters) past fit
