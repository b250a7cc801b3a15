-- With right entries the query is the plain count of its range: the whole blocks' entries are the counts of their flags, and the ends are counted.
-- Refused, it gives its number and 0 whatever they are. After an accepted clear and any of these calls it is the plain count of the flags which the calls
-- alone give, and only its range is judged.
-- Assumes nothing.
use Rattle.std.specs.Prelude.{Ok}
use mathlib.Core.List.{List, [], ◌∷◌}
use mathlib.Core.Path.{◌≡◌, refl, sym, ap, ap₂, ◌∙◌}
use Prim.Native.Nat.{ℕ, zero, suc, ◌+◌, ◌-◌, ◌*◌, ◌/◌, ◌^◌, ◌≤◌, min}
use native.Mathlib.Omega.{arith}
use borrow.Author.Tests.{le-ltb, ltb-false}
use lib.ListN.{length}
use lib.Seq.{slice}
use Rattle.codes.specs.Codes.{up, trailing, chars}
use Rattle.codes.specs.Refusals.{answer, first, bad_end, bad_start}
use Rattle.codes.proofs.CharLaws.{length-chars}
use Rattle.codes.proofs.WidthLaws.{below_or}
use Rattle.fields.specs.Flags.{sum, set_flags}
use Rattle.stores.specs.Stores.{Call, clear}
use Rattle.stores.proofs.CallLaws.{done_passed, by_outcome}
use Rattle.counts.specs.Blocks.{size, blocks, whole_from, whole_to, range_count}
use Rattle.counts.specs.Counts.{counted_outcome, query_tests, queried}
use Rattle.counts.specs.History.{Counted, Right, step, run, history}
use Rattle.counts.proofs.History as Histories
use Rattle.counts.proofs.HistoryLaws.{run-kept, run-right, cleared_kept, cleared_length, cleared_right}
use Rattle.counts.proofs.SumLaws.{sum_more, sum-none, sum-parts}

module _ (entries flags : List ℕ) (enough : blocks (length flags) ≤ length entries) (R : Right entries flags) where
  -- the entries of k whole blocks from block b on
  wholes : (b k : ℕ) → (b + k) * size ≤ length flags → sum (slice b (b + k) entries) ≡ set_flags (slice (b * size) ((b + k) * size) flags)
  wholes b zero h = sum-none entries b (b + 0) (omega arith) ∙ sym (sum-none flags (b * size) ((b + 0) * size) (omega arith))
  wholes b (suc k) h =
      let e : b + suc k ≡ suc (b + k) = omega arith in
      let f : (b + suc k) * size ≡ (b + k) * size + size = omega arith in
      ap (λ (x : ℕ). sum (slice b x entries)) e
      ∙ sum_more entries b (b + k) (omega arith) (omega arith)
      ∙ ap₂ (λ (x y : ℕ). x + y) (wholes b k (omega arith)) (R (b + k) (omega arith) (omega arith))
      ∙ sum-parts flags (b * size) ((b + k) * size) ((b + k) * size + size) (omega arith) (omega arith) (omega arith)
      ∙ ap (λ (x : ℕ). set_flags (slice (b * size) x flags)) (sym f)

  range_counted : (start end : ℕ) → start ≤ end → end ≤ length flags → range_count entries flags start end ≡ set_flags (slice start end flags)
  unfolding range_count
  range_counted start end h l =
      let from : ℕ = whole_from start in
      let to : ℕ = whole_to start end in
      below_or end (from * size)
      (λ short.
      let m : min end (from * size) ≡ end = omega arith in
      let none : to ≡ from = omega arith in
      ap₂ (λ (x y : ℕ). set_flags (slice start x flags) + y) m
      (ap₂ (λ (x y : ℕ). x + y) (sum-none entries from to (omega arith)) (sum-none flags (to * size) end (omega arith)))
      ∙ omega arith)
      (λ long.
      let m : min end (from * size) ≡ from * size = omega arith in
      let t : to ≡ end / size = omega arith in
      let b : from + (to - from) ≡ to = omega arith in
      ap (λ (x : ℕ). set_flags (slice start x flags) + (sum (slice from to entries) + set_flags (slice (to * size) end flags))) m
      ∙ ap (λ (x : ℕ). set_flags (slice start (from * size) flags) + (x + set_flags (slice (to * size) end flags)))
      (ap (λ (x : ℕ). sum (slice from x entries)) (sym b) ∙ wholes from (to - from) (omega arith) ∙ ap (λ (x : ℕ). set_flags (slice (from * size) (x * size) flags)) b)
      ∙ ap (λ (x : ℕ). set_flags (slice start (from * size) flags) + x) (sum-parts flags (from * size) (to * size) end (omega arith) (omega arith) (omega arith))
      ∙ sum-parts flags start (from * size) end (omega arith) long (omega arith))

pub counted : (bs : List ℕ) (len : ℕ) (entries : List ℕ) (start end : ℕ) → Right entries (chars 1 bs 0 len)
    → queried bs len entries start end ≡ answer (first (query_tests (length bs) len (length entries) start end)) (set_flags (slice start end (chars 1 bs 0 len))) 0
unfolding queried
counted bs len entries start end R =
    let flags : List ℕ = chars 1 bs 0 len in
    let long : length flags ≡ len = length-chars 1 bs 0 len in
    by_outcome (λ o. answer o (range_count entries flags start end) 0 ≡ answer o (set_flags (slice start end flags)) 0)
    (first (query_tests (length bs) len (length entries) start end))
    (λ e.
    let p = done_passed (query_tests (length bs) len (length entries) start end) e in
    let ends : end ≤ len = ltb-false len end p.1.1.0 in
    let starts : start ≤ end = ltb-false end start p.1.1.1.0 in
    let many : blocks len ≤ length entries = ltb-false (length entries) (blocks len) p.1.1.1.1.0 in
    ap (λ (n : ℕ). answer (Ok tt) n 0) (range_counted entries flags (omega arith) R start end starts (omega arith)))
    (λ r e. refl)

-- after a clear that is accepted and the calls cs
module _ (bs : List ℕ) (old : ℕ) (entries : List ℕ) (e : counted_outcome (length bs) 0 (length entries) clear ≡ Ok tt) (cs : List Call) where
  abbrev s : Counted
  s = run (step (record { store = record { bytes = bs; len = old }; entries = entries }) clear) cs

  abbrev h : List ℕ
  h = history (length bs) (length entries) [] cs

  pub history-counted : (start end : ℕ)
      → queried s.store.bytes s.store.len s.entries start end ≡ answer (first (bad_end (length h) end ∷ bad_start start end ∷ [])) (set_flags (slice start end h)) 0
  history-counted start end =
      let t : Counted = step (record { store = record { bytes = bs; len = old }; entries = entries }) clear in
      let K = run-kept cs t [] (length bs) (length entries) (cleared_kept bs old entries e) (cleared_length bs old entries e) in
      let H = Histories.history bs old entries e cs in
      let n : s.store.len ≡ length h = K.lengths in
      let sound : up 1 s.store.len + trailing ≤ length s.store.bytes = omega (arith, K.holds.room) in
      let enough : blocks s.store.len ≤ length s.entries = omega (arith, H.enough) in
      let a = le-ltb (2 ^ 28) (length s.store.bytes) K.holds.small in
      let b = le-ltb (length s.store.bytes) (up 1 s.store.len + trailing) sound in
      let c = le-ltb (length s.entries) (blocks s.store.len) enough in
      counted s.store.bytes s.store.len s.entries start end (run-right cs t (cleared_right bs old entries e))
      ∙ rw (a, b, c)
      (λ i. answer (first (bad_end (n i) end ∷ bad_start start end ∷ [])) (set_flags (slice start end (H.packed.chars-are i))) 0)
