-- After a clear that is accepted and any list of calls, refused ones and further clears among them: the length is that of the
-- characters which the calls alone give; the first bytes are these characters packed afresh, unused bits zero; 48 zero bytes
-- stand behind them; the store's characters are these; and the buffer is as long as it was. At every width.
-- Assumes nothing.
use Rattle.std.specs.Prelude.{Ok}
use mathlib.Core.List.{List, []}
use mathlib.Core.Path.{◌≡◌, ap, ◌∙◌}
use Prim.Native.Nat.{ℕ}
use lib.ListN.{length}
use Rattle.codes.specs.Codes.{IsWidth, chars}
use Rattle.stores.specs.History.{Store, Packed, step, run}
use Rattle.stores.specs.History as Histories
use Rattle.stores.specs.Stores.{Call, clear, outcome}
use Rattle.stores.proofs.HistoryLaws.{Kept, history-kept}
use Rattle.stores.proofs.HoldLaws.{held_packed, held_zeros, held_chars}

-- what a store keeps, byte for byte
pub kept_packed : {w : ℕ} (W : IsWidth w) {s : Store} {h : List ℕ} {m : ℕ} → Kept W s h m → Packed w m s h
kept_packed {w} W K = record {
  length-is = K.lengths;
  bytes-are = held_packed W _ _ K.holds;
  zeros_behind = held_zeros W _ _ K.holds;
  chars-are = ap (chars w _ 0) K.lengths ∙ held_chars W _ _ K.holds;
  size_kept = K.size;
}

pub history : {w : ℕ} → IsWidth w → (bs : List ℕ) (old : ℕ) → outcome w (length bs) 0 clear ≡ Ok tt → (cs : List Call)
    → Packed w (length bs) (run w (step w (record { bytes = bs; len = old }) clear) cs) (Histories.history w (length bs) [] cs)
history W bs old e cs = kept_packed W (history-kept W bs old e cs)
