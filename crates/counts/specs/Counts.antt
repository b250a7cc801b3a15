-- The calls on a store of flags and on the entries beside it: what each answers, and what it leaves.
-- Assumes nothing.
use Rattle.std.specs.Prelude.{List, [], ◌∷◌, ◌++◌, ℕ, length}
use Rattle.codes.specs.Codes.{chars}
use Rattle.codes.specs.Refusals.{Test, Answer, answer, first, if_done, too_long, bad_store, bad_end, bad_start, no_room, Outcome}
use Rattle.stores.specs.Stores.{Call, tests, deed, span, old_length, answered, after}
use Rattle.counts.specs.Blocks.{blocks, touched, recounted, range_count}

-- so many entries are fewer than the blocks of a length
abbrev pub too_few : ℕ → ℕ → Test
too_few n len = no_room n (blocks len)

-- the refusals of a call on a store of m bytes and a length, with n entries: those of the plain call, then too few entries for the new length
abbrev pub counted_tests : ℕ → ℕ → ℕ → Call → List Test
counted_tests m len n call = tests 1 m len call ++ too_few n (span 1 len call).2 ∷ []

unfoldable pub counted_outcome : ℕ → ℕ → ℕ → Call → Outcome
counted_outcome m len n call = first (counted_tests m len n call)

-- done, the call answers what the plain call does; refused, zeros and the old length
unfoldable pub counted_answer : ℕ → ℕ → ℕ → Call → Answer (ℕ × ℕ × ℕ)
unfolding counted_outcome
counted_answer m len n call = answer (counted_outcome m len n call) (answered 1 m len call).values (0, 0, old_length len call)

-- the buffer after a call: done, what the plain call leaves
unfoldable pub bytes_after : List ℕ → ℕ → ℕ → Call → List ℕ
unfolding counted_outcome
bytes_after bs len n call = if_done (counted_outcome (length bs) len n call) (after 1 bs len call) bs

-- the flags of the track that the plain call leaves
abbrev pub new_flags : List ℕ → ℕ → Call → List ℕ
new_flags bs len call = chars 1 (after 1 bs len call) 0 (span 1 len call).2

-- the entries after a call: done, those of the blocks that it touches counted afresh
unfoldable pub entries_after : List ℕ → ℕ → List ℕ → Call → List ℕ
unfolding counted_outcome
entries_after bs len entries call =
    if_done (counted_outcome (length bs) len (length entries) call) (recounted entries (touched len (deed 1 len call)) (new_flags bs len call)) entries

-- the refusals of a query
abbrev pub query_tests : ℕ → ℕ → ℕ → ℕ → ℕ → List Test
query_tests m len n start end = too_long m ∷ bad_store 1 m len ∷ bad_end len end ∷ bad_start start end ∷ too_few n len ∷ []

-- how many flags a range of a store has, by its entries
unfoldable pub queried : List ℕ → ℕ → List ℕ → ℕ → ℕ → Answer ℕ
queried bs len entries start end = answer (first (query_tests (length bs) len (length entries) start end)) (range_count entries (chars 1 bs 0 len) start end) 0
