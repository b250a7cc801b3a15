-- Windows of flags, for k from 1 to 96. A window of k flags that lies in the track before and after a call, and holds no position
-- that a call which is done overwrites, keeps its answer. After a clear that is accepted and any calls, every window's answer is that of the
-- flags which the calls alone give.
-- Assumes nothing.
use Rattle.std.specs.Prelude.{Ok}
use mathlib.Core.List.{List, []}
use mathlib.Core.Path.{◌≡◌, sym, ap, ◌∙◌}
use Prim.Native.Nat.{ℕ, ◌+◌, ◌≤◌, ◌<◌}
use native.Mathlib.Nat.{zero-add}
use native.Mathlib.Omega.{arith}
use lib.ListN.{length, get_or, take, drop, length-drop}
use lib.Seq.{ext_get_or, get_or-take, get_or-drop, length-take-le}
use Rattle.codes.specs.Codes.{char_at}
use Rattle.codes.proofs.CharLaws.{length-chars, get_or-chars}
use Rattle.codes.specs.Widths.{width_1}
use Rattle.stores.specs.Changes.{Overwrites}
use Rattle.stores.specs.History.{Store, step, run, history, flags_of}
use Rattle.stores.specs.Stores.{Call, clear, outcome}
use Rattle.codes.specs.Windows.{any_set, window}
use Rattle.stores.proofs.KeptLaws.{char_kept}
use Rattle.stores.proofs.History as Histories

-- windows of lists that agree there
window_same : (f g : List ℕ) (p k : ℕ) → p + k ≤ length f → p + k ≤ length g → ((i : ℕ) → p ≤ i → i < p + k → get_or f i 0 ≡ get_or g i 0) → window f p k ≡ window g p k
unfolding window
window_same f g p k a b h =
    let m : length (take k (drop p f)) ≡ k = length-take-le k (drop p f) (omega (arith, length-drop p f)) in
    let n : length (take k (drop p g)) ≡ k = length-take-le k (drop p g) (omega (arith, length-drop p g)) in
    ap any_set (ext_get_or 0 (take k (drop p f)) (take k (drop p g)) (m ∙ sym n)
    (λ i l.
    let j : i < k = omega arith in
    get_or-take k (drop p f) i 0 j ∙ get_or-drop p f i 0 ∙ h (p + i) (omega arith) (omega arith) ∙ sym (get_or-take k (drop p g) i 0 j ∙ get_or-drop p g i 0)))

pub windows_kept : (s : Store) (c : Call) (p k : ℕ) → 1 ≤ k → k ≤ 96 → p + k ≤ s.len → p + k ≤ (step 1 s c).len
    → ((i : ℕ) → p ≤ i → i < p + k → (Ok tt) ≡ outcome 1 (length s.bytes) s.len c → Overwrites c i → ⊥)
    → window (flags_of (step 1 s c)) p k ≡ window (flags_of s) p k
windows_kept s c p k lo hi a b h =
    let t : Store = step 1 s c in
    let m : length (flags_of t) ≡ t.len = length-chars 1 t.bytes 0 t.len in
    let n : length (flags_of s) ≡ s.len = length-chars 1 s.bytes 0 s.len in
    window_same (flags_of t) (flags_of s) p k (omega arith) (omega arith)
    (λ i l j.
    get_or-chars 1 t.bytes 0 t.len i (omega arith)
    ∙ ap (char_at 1 t.bytes) (zero-add i)
    ∙ char_kept width_1 s.bytes s.len c i (omega arith) (omega arith) (h i l j)
    ∙ sym (get_or-chars 1 s.bytes 0 s.len i (omega arith) ∙ ap (char_at 1 s.bytes) (zero-add i)))

pub windows_right : (bs : List ℕ) (old : ℕ) → outcome 1 (length bs) 0 clear ≡ Ok tt → (cs : List Call) (p k : ℕ) → 1 ≤ k → k ≤ 96
    → window (flags_of (run 1 (step 1 (record { bytes = bs; len = old }) clear) cs)) p k ≡ window (history 1 (length bs) [] cs) p k
windows_right bs old e cs p k lo hi = ap (λ (f : List ℕ). window f p k) (Histories.history width_1 bs old e cs).chars-are
