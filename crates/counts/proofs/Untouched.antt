-- A call that touches no character keeps every entry, right or wrong, whatever bytes it writes: a push of no letters, a view that adds neither gap nor
-- character, an overwrite of nothing, a cut to the length itself. (A clear, behind which no block is left, does too: `clear-entries`.)
-- Assumes nothing.
use mathlib.Core.List.{List, []}
use mathlib.Core.Path.{◌≡◌, refl}
use Prim.Native.Nat.{ℕ, ◌+◌, ◌≤◌}
use native.Mathlib.Nat.{le_refl}
use native.Mathlib.Omega.{arith}
use lib.ListN.{length}
use Rattle.codes.specs.Refusals.{if_done}
use Rattle.codes.specs.Widths.{width_1}
use Rattle.runs.specs.Runs.{seq_start}
use Rattle.runs.proofs.SeqLaws.{seq_end}
use Rattle.stores.specs.Stores.{Call, push_ascii, push_seq, overwrite, cut, deed}
use Rattle.stores.proofs.CallLaws.{by_outcome}
use Rattle.counts.specs.Blocks.{touched, recounted}
use Rattle.counts.specs.Counts.{counted_outcome, new_flags, entries_after}
use Rattle.counts.proofs.BlockLaws.{recounted-none}

module _ (bs : List ℕ) (len : ℕ) (entries : List ℕ) where
  untouched : (call : Call) → (touched len (deed 1 len call)).1 ≤ (touched len (deed 1 len call)).0 → entries ≡ entries_after bs len entries call
  unfolding entries_after
  untouched call h =
      by_outcome (λ o. entries ≡ if_done o (recounted entries (touched len (deed 1 len call)) (new_flags bs len call)) entries)
      (counted_outcome (length bs) len (length entries) call) (λ e. recounted-none entries _ _ (new_flags bs len call) h) (λ r e. refl)

  pub no-letters_kept : entries ≡ entries_after bs len entries (push_ascii [])
  no-letters_kept = untouched (push_ascii []) (le_refl 0)

  pub no-view_kept : (vs : List ℕ) (o n : ℕ) → seq_start 1 len o + n ≡ len → entries ≡ entries_after bs len entries (push_seq vs o n)
  no-view_kept vs o n e = untouched (push_seq vs o n) (omega (arith, seq_end width_1 len vs o n))

  pub no-overwrite_kept : (at : ℕ) → entries ≡ entries_after bs len entries (overwrite at [])
  no-overwrite_kept at = untouched (overwrite at []) (omega arith)

  pub no-cut_kept : entries ≡ entries_after bs len entries (cut len)
  no-cut_kept = untouched (cut len) (omega arith)
