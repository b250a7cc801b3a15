-- A call on a store of flags that carries entries keeps the value of each entry of flag windows whose window lies in the track before and after it, and
-- holds no position that the call, if it is done, overwrites: as a plain call does.
-- Assumes nothing.
use Rattle.std.specs.Prelude.{Ok}
use mathlib.Core.List.{List}
use mathlib.Core.Path.{◌≡◌}
use Prim.Native.Nat.{ℕ, ◌+◌, ◌≤◌, ◌<◌}
use lib.ListN.{length}
use Rattle.stores.specs.Changes.{Overwrites}
use Rattle.stores.specs.Stores.{Call}
use Rattle.counts.specs.Counts.{counted_outcome}
use Rattle.counts.specs.History.{Counted, step}
use Rattle.counts.proofs.Carried.{carried_windows_kept}
use Rattle.windows.proofs.Answered.{Entry, begins, entry, entries_same}

-- the windows may begin in any lane, with any context and skip, before the call and after it
pub carried_entries_kept : (s : Counted) (call : Call) {c d k skip skip' : ℕ} {out out' : List ℕ} {j j' l l' : ℕ}
    → Entry s.store c k skip out j l → Entry (step s call).store d k skip' out' j' l'
    → begins (step s call).store d k j' l' ≡ begins s.store c k j l
    → begins s.store c k j l + k ≤ s.store.len → begins s.store c k j l + k ≤ (step s call).store.len
    → ((i : ℕ) → begins s.store c k j l ≤ i → i < begins s.store c k j l + k
    → (Ok tt) ≡ counted_outcome (length s.store.bytes) s.store.len (length s.entries) call → Overwrites call i → ⊥)
    → entry (step s call).store d k skip' out' j' l' ≡ entry s.store c k skip out j l
carried_entries_kept s call {c} {k} {j} {l} e f same a b h =
    entries_same e f same (λ lo hi. carried_windows_kept s call (begins s.store c k j l) k lo hi a b h)
