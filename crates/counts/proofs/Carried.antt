-- What the plain calls keep, the calls that carry entries keep: done, such a call leaves the store that the plain call leaves, and refused every byte. It changes
-- only the bytes of its run; a window that lies in the track before and after it, and holds no position that it overwrites, keeps its answer; and after an
-- accepted clear and any of these calls every window's answer is that of the flags which the calls alone give.
-- Assumes nothing.
use Rattle.std.specs.Prelude.{Ok}
use mathlib.Core.List.{List, []}
use mathlib.Core.Path.{◌≡◌, refl, sym, ap, subst}
use Prim.Native.Nat.{ℕ, ◌+◌, ◌≤◌, ◌<◌}
use native.Mathlib.Omega.{arith}
use lib.ListN.{length, get_or}
use Rattle.codes.specs.Codes.{char_at, chars}
use Rattle.codes.specs.Refusals.{if_done, Outcome}
use Rattle.codes.specs.Windows.{window}
use Rattle.codes.specs.Widths.{width_1}
use Rattle.stores.specs.Changes.{run_start, run_end, Overwrites}
use Rattle.stores.specs.History.{Store, flags_of}
use Rattle.stores.specs.Stores.{Call, clear, push_ascii, push_seq, overwrite, cut, old_length, after}
use Rattle.stores.proofs.CallLaws.{by_outcome}
use Rattle.stores.proofs.WindowsKept.{windows_kept}
use Rattle.stores.proofs.Written.{written, overwritten-kept}
use Rattle.counts.specs.Counts.{counted_outcome, bytes_after}
use Rattle.counts.specs.History.{Counted, step, run, history}
use Rattle.counts.proofs.History as Histories
use Rattle.counts.proofs.HistoryLaws.{done_store, refused_store}

module _ (bs : List ℕ) (bytes : (b : ℕ) → get_or bs b 0 < 256) (len n : ℕ) where
  -- a byte that is not in the run of a call that is done
  pub carried_written : (c : Call) (j : ℕ) → ((Ok tt) ≡ counted_outcome (length bs) len n c → run_start 1 len c ≤ j → j < run_end 1 len c → ⊥)
      → get_or (bytes_after bs len n c) j 0 ≡ get_or bs j 0
  unfolding bytes_after
  carried_written c j h =
      by_outcome (λ o. get_or (if_done o (after 1 bs len c) bs) j 0 ≡ get_or bs j 0) (counted_outcome (length bs) len n c)
      (λ e. written width_1 bs bytes len c j (λ d. h e)) (λ r e. refl)

  -- every other flag than those that are overwritten
  pub carried_overwritten_kept : (at : ℕ) (ls : List ℕ) (i : ℕ) → (at ≤ i → i < at + length ls → ⊥) → char_at 1 (bytes_after bs len n (overwrite at ls)) i ≡ char_at 1 bs i
  unfolding bytes_after
  carried_overwritten_kept at ls i h =
      by_outcome (λ o. char_at 1 (if_done o (after 1 bs len (overwrite at ls)) bs) i ≡ char_at 1 bs i) (counted_outcome (length bs) len n (overwrite at ls))
      (λ e. overwritten-kept width_1 bs bytes len at ls i h) (λ r e. refl)

-- a window in the length that a refused call gives: a refused clear leaves none
old_window : (bs : List ℕ) (len : ℕ) (c : Call) (p k : ℕ) → 1 ≤ k → p + k ≤ old_length len c → window (chars 1 bs 0 (old_length len c)) p k ≡ window (chars 1 bs 0 len) p k
old_window bs len clear p k lo b = absurd (omega arith)
old_window bs len (push_ascii ls) p k lo b = refl
old_window bs len (push_seq vs o n) p k lo b = refl
old_window bs len (overwrite at ls) p k lo b = refl
old_window bs len (cut n) p k lo b = refl

pub carried_windows_kept : (s : Counted) (c : Call) (p k : ℕ) → 1 ≤ k → k ≤ 96 → p + k ≤ s.store.len → p + k ≤ (step s c).store.len
    → ((i : ℕ) → p ≤ i → i < p + k → (Ok tt) ≡ counted_outcome (length s.store.bytes) s.store.len (length s.entries) c → Overwrites c i → ⊥)
    → window (flags_of (step s c).store) p k ≡ window (flags_of s.store) p k
carried_windows_kept s c p k lo hi a b h =
    let o : Outcome = counted_outcome (length s.store.bytes) s.store.len (length s.entries) c in
    by_outcome (λ x. x ≡ o → window (flags_of (step s c).store) p k ≡ window (flags_of s.store) p k) o
    (λ d e.
    subst (λ (t : Store). p + k ≤ t.len → window (flags_of t) p k ≡ window (flags_of s.store) p k) (done_store s c (sym e))
    (λ l. windows_kept s.store c p k lo hi a l (λ i u v q. h i u v e)) b)
    (λ r d e.
    subst (λ (t : Store). p + k ≤ t.len → window (flags_of t) p k ≡ window (flags_of s.store) p k) (refused_store s c r (sym e))
    (old_window s.store.bytes s.store.len c p k lo) b)
    refl

pub carried_windows_right : (bs : List ℕ) (old : ℕ) (entries : List ℕ) → counted_outcome (length bs) 0 (length entries) clear ≡ Ok tt → (cs : List Call) (p k : ℕ) → 1 ≤ k → k ≤ 96
    → window (flags_of (run (step (record { store = record { bytes = bs; len = old }; entries = entries }) clear) cs).store) p k ≡ window (history (length bs) (length entries) [] cs) p k
carried_windows_right bs old entries e cs p k lo hi = ap (λ (f : List ℕ). window f p k) (Histories.history bs old entries e cs).packed.chars-are
