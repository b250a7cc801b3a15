-- Entries that were right for the old length are right for the new one after any call, refused or not: a block that the call does not touch
-- has the flags that it had, and one that it touches is counted afresh.
-- Assumes nothing.
use Rattle.std.specs.Prelude.{Ok}
use mathlib.Core.Bool.{Bool, true, false}
use mathlib.Core.List.{List, [], ◌∷◌}
use mathlib.Core.Path.{◌≡◌, refl, sym, ap, ◌∙◌, subst}
use Prim.Native.Nat.{ℕ, ◌+◌, ◌-◌, ◌*◌, ◌≤◌, ◌<◌, min}
use native.Mathlib.Omega.{arith}
use borrow.Author.Tests.{ltb-false}
use lib.ListN.{length, get_or, length-map}
use Rattle.codes.specs.Codes.{chars, code}
use Rattle.codes.proofs.CharLaws.{length-chars, chars-ext}
use Rattle.codes.specs.Widths.{width_1}
use Rattle.fields.specs.Flags.{set_flags}
use Rattle.runs.proofs.SeqLaws.{seq_end}
use Rattle.stores.specs.Changes.{Overwrites}
use Rattle.stores.specs.History.{flags_of}
use Rattle.stores.specs.Stores.{Call, clear, push_ascii, push_seq, overwrite, cut, tests, outcome, deed, span, old_length, answered, after}
use Rattle.stores.proofs.CallLaws.{Passed, done_passed, by_outcome}
use Rattle.stores.proofs.KeptLaws.{char_kept}
use Rattle.counts.specs.Blocks.{size, blocks, block, touched, meets, recounted}
use Rattle.counts.specs.Counts.{counted_outcome, new_flags}
use Rattle.counts.specs.History.{Counted, Right, step}
use Rattle.counts.proofs.BlockLaws.{block-chars, meets-no, entry_fresh, entry_kept}
use Rattle.counts.proofs.CallLaws.{done_both, done_left, done_length, refused_left}

-- what a call on len characters, n after it, leaves of block b: it lies in both lengths as far, and no character of it is overwritten
record Spared (len n : ℕ) (call : Call) (b : ℕ) : Type 0 where
  starts : b * size < len
  stops : min (b * size + size) n ≡ min (b * size + size) len
  whole : (i : ℕ) → b * size ≤ i → i < b * size + size → Overwrites call i → ⊥

-- a block of the new length that a call which is done does not touch
spared : (m len : ℕ) (call : Call) (b : ℕ) → Passed (tests 1 m len call) → b < blocks (span 1 len call).2 → meets (touched len (deed 1 len call)) b ≡ false
    → Spared len (span 1 len call).2 call b
spared m len clear b p l u = absurd (omega arith)
spared m len (push_ascii []) b p l u = record { starts = omega arith; stops = omega arith; whole = λ i a d o. o }
spared m len (push_ascii (x ∷ xs)) b p l u =
    let out = meets-no (touched len (deed 1 len (push_ascii (x ∷ xs)))) b u in
    let e = length-map (x ∷ xs) (code 1) in
    record { starts = omega arith; stops = omega arith; whole = λ i a d o. o }
spared m len (push_seq bs o n) b p l u =
    let out = meets-no (touched len (deed 1 len (push_seq bs o n))) b u in
    let e = seq_end width_1 len bs o n in
    record { starts = omega arith; stops = omega arith; whole = λ i a d o. o }
spared m len (overwrite at ls) b p l u =
    let out = meets-no (touched len (deed 1 len (overwrite at ls))) b u in
    let e = length-map ls (code 1) in
    record { starts = omega arith; stops = refl; whole = λ i a d o. omega arith }
spared m len (cut n) b p l u =
    let out = meets-no (touched len (deed 1 len (cut n))) b u in
    let within : n ≤ len = ltb-false _ _ p.1.1.0 in
    record { starts = omega arith; stops = omega arith; whole = λ i a d o. o }

-- no flags have no blocks
pub right_none : (entries bs : List ℕ) → Right entries (chars 1 bs 0 0)
right_none entries bs b l k = let none : length (chars 1 bs 0 0) ≡ 0 = length-chars 1 bs 0 0 in absurd (omega arith)

-- a call that is done
module _ (bs : List ℕ) (len : ℕ) (entries : List ℕ) (call : Call) (R : Right entries (chars 1 bs 0 len)) (e : counted_outcome (length bs) len (length entries) call ≡ Ok tt) where
  abbrev n : ℕ
  n = (span 1 len call).2

  abbrev flags : List ℕ
  flags = new_flags bs len call

  plain : outcome 1 (length bs) len call ≡ Ok tt
  plain = (done_both bs len entries call e).0

  span-is : (answered 1 (length bs) len call).values.2 ≡ n
  unfolding answered
  span-is = rw plain

  block-kept : (b : ℕ) → Spared len n call b → block flags b ≡ block (chars 1 bs 0 len) b
  block-kept b k =
      let l = k.stops in
      block-chars (after 1 bs len call) n b
      ∙ ap (λ (x : ℕ). chars 1 (after 1 bs len call) (b * size) (x - b * size)) k.stops
      ∙ chars-ext 1 (after 1 bs len call) bs (b * size) (b * size) (min (b * size + size) len - b * size)
      (λ i h. char_kept width_1 bs len call (b * size + i) (omega arith) (omega (arith, span-is)) (λ d. k.whole (b * size + i) (omega arith) (omega arith)))
      ∙ sym (block-chars bs len b)

  -- an entry of the new length
  entry_right : (b : ℕ) → b < blocks n → (t : Bool) → meets (touched len (deed 1 len call)) b ≡ t
      → get_or (recounted entries (touched len (deed 1 len call)) flags) b 0 ≡ set_flags (block flags b)
  unfolding outcome
  entry_right b l true u =
      let long = length-chars 1 (after 1 bs len call) 0 n in
      let many = (done_both bs len entries call e).1 in
      entry_fresh entries (touched len (deed 1 len call)) flags b (omega arith) (omega arith) u
  entry_right b l false u =
      let k = spared (length bs) len call b (done_passed (tests 1 (length bs) len call) (sym plain)) l u in
      let many = (done_both bs len entries call e).1 in
      let starts = k.starts in
      entry_kept entries (touched len (deed 1 len call)) flags b (omega arith) (λ h. u)
      ∙ R b (omega arith) (omega (arith, length-chars 1 bs 0 len))
      ∙ ap set_flags (sym (block-kept b k))

  right_done : Right (recounted entries (touched len (deed 1 len call)) flags) flags
  right_done b l k = entry_right b (omega (arith, length-chars 1 (after 1 bs len call) 0 n)) (meets (touched len (deed 1 len call)) b) refl

-- a refused clear gives length 0, any other refused call the old one
right_refused : (bs : List ℕ) (len : ℕ) (entries : List ℕ) (call : Call) → Right entries (chars 1 bs 0 len) → Right entries (chars 1 bs 0 (old_length len call))
right_refused bs len entries clear R = right_none entries bs
right_refused bs len entries (push_ascii ls) R = R
right_refused bs len entries (push_seq vs o n) R = R
right_refused bs len entries (overwrite at ls) R = R
right_refused bs len entries (cut n) R = R

pub counts-right : (s : Counted) (call : Call) → Right s.entries (flags_of s.store) → Right (step s call).entries (flags_of (step s call).store)
counts-right s call R =
    let bs : List ℕ = s.store.bytes in
    let len : ℕ = s.store.len in
    let entries : List ℕ = s.entries in
    by_outcome (λ o. counted_outcome (length bs) len (length entries) call ≡ o → Right (step s call).entries (flags_of (step s call).store))
    (counted_outcome (length bs) len (length entries) call)
    (λ d e.
    let left = done_left bs len entries call e in
    subst (λ (t : Counted). Right t.entries (flags_of t.store))
    (λ i. record { store = record { bytes = left.1.0 i; len = sym (done_length bs len entries call e) i }; entries = left.1.1 i })
    (right_done bs len entries call R e))
    (λ r d e.
    let left = refused_left bs len entries call r e in
    subst (λ (t : Counted). Right t.entries (flags_of t.store))
    (λ i. record { store = record { bytes = left.1.0 i; len = (left.0 i).values.2 }; entries = left.1.1 i }) (right_refused bs len entries call R))
    refl
