-- RNA: with counts beside the track too, calls whose letters have U answer and leave what they do with T for U. Assumes nothing.
use mathlib.Core.List.{List}
use mathlib.Core.Path.{◌≡◌}
use Prim.Native.Nat.{ℕ}
use lib.ListN.{length}
use Rattle.counts.specs.Counts.{counted_outcome, counted_answer, bytes_after, entries_after}
use Rattle.stores.specs.Stores.{Call}
use Rattle.stores.proofs.Rna.{call_with_t, tests-with_t, deed-with_t, span-with_t, old_length-with_t, answered-with_t, after-with_t}

counted_outcome-with_t : (m len n : ℕ) (c : Call) → counted_outcome m len n (call_with_t c) ≡ counted_outcome m len n c
unfolding counted_outcome
counted_outcome-with_t m len n c = rw (tests-with_t 1 m len c, span-with_t 1 len c)

pub counted_answer-with_t : (m len n : ℕ) (c : Call) → counted_answer m len n (call_with_t c) ≡ counted_answer m len n c
unfolding counted_answer
counted_answer-with_t m len n c = rw (counted_outcome-with_t m len n c, answered-with_t 1 m len c, old_length-with_t len c)

pub bytes-with_t : (bs : List ℕ) (len n : ℕ) (c : Call) → bytes_after bs len n (call_with_t c) ≡ bytes_after bs len n c
unfolding bytes_after
bytes-with_t bs len n c = rw (counted_outcome-with_t (length bs) len n c, after-with_t 1 bs len c)

pub entries_with_t : (bs : List ℕ) (len : ℕ) (entries : List ℕ) (c : Call) → entries_after bs len entries (call_with_t c) ≡ entries_after bs len entries c
unfolding entries_after
entries_with_t bs len entries c = rw (counted_outcome-with_t (length bs) len (length entries) c, deed-with_t 1 len c, after-with_t 1 bs len c, span-with_t 1 len c)
