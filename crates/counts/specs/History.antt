-- Histories of these calls: a store with its entries, what a list of calls leaves of it, the flags that the calls alone give, entries that are right;
-- and histories in which these calls and the plain ones take turns.
-- Assumes nothing.
use Rattle.std.specs.Prelude.{List, [], ◌∷◌, ◌≡◌, ℕ, ◌<◌, length, get_or}
use Rattle.codes.specs.Refusals.{if_done, Outcome}
use Rattle.fields.specs.Flags.{set_flags}
use Rattle.stores.specs.History.{Store, chars_after}
use Rattle.stores.specs.History as Plain
use Rattle.stores.specs.Stores.{Call, Edit, still, deed, outcome}
use Rattle.counts.specs.Blocks.{blocks, block}
use Rattle.counts.specs.Counts.{counted_outcome, counted_answer, bytes_after, entries_after}

pub record Counted : Type 0 where
  pub store : Store
  pub entries : List ℕ

-- after one call
abbrev pub step : Counted → Call → Counted
step s call = record {
  store = record {
    bytes = bytes_after s.store.bytes s.store.len (length s.entries) call;
    len = (counted_answer (length s.store.bytes) s.store.len (length s.entries) call).values.2;
  };
  entries = entries_after s.store.bytes s.store.len s.entries call;
}

-- after a list of calls, the first first
abbrev pub run : Counted → List Call → Counted
run s [] = s
run s (c ∷ cs) = run (step s c) cs

-- what a call on a store of m bytes with n entries does
abbrev pub edit : ℕ → ℕ → ℕ → Call → Edit
edit m n len call = if_done (counted_outcome m len n call) (deed 1 len call) still

-- the flags that a list of calls gives on a store of m bytes with n entries; it never looks at the buffer or at an entry
abbrev pub history : ℕ → ℕ → List ℕ → List Call → List ℕ
history m n h [] = h
history m n h (c ∷ cs) = history m n (chars_after h (edit m n (length h) c)) cs

-- entries that are right for a list of flags: each that it has a block for is the count of that block
abbrev pub Right : List ℕ → List ℕ → Type 0
Right entries flags = (b : ℕ) → b < length entries → b < blocks (length flags) → get_or entries b 0 ≡ set_flags (block flags b)

-- a call of either form: plain, or carrying entries, any entries each time
pub data Form : Type 0 where
  plain : Call → Form
  carrying : List ℕ → Call → Form

-- the call itself
abbrev pub call_of : Form → Call
call_of (plain c) = c
call_of (carrying entries c) = c

-- its outcome on a store of m bytes and a length
abbrev pub form_outcome : ℕ → ℕ → Form → Outcome
form_outcome m len (plain c) = outcome 1 m len c
form_outcome m len (carrying entries c) = counted_outcome m len (length entries) c

-- a store after it
abbrev pub form_step : Store → Form → Store
form_step s (plain c) = Plain.step 1 s c
form_step s (carrying entries c) = (step (record { store = s; entries = entries }) c).store

-- and after a list of them
abbrev pub form_run : Store → List Form → Store
form_run s [] = s
form_run s (f ∷ fs) = form_run (form_step s f) fs

-- the flags that a list of them gives on a store of m bytes; it never looks at the buffer or at an entry
abbrev pub form_history : ℕ → List ℕ → List Form → List ℕ
form_history m h [] = h
form_history m h (f ∷ fs) = form_history m (chars_after h (if_done (form_outcome m (length h) f) (deed 1 (length h) (call_of f)) still)) fs
