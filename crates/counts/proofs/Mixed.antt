-- After a clear of either form that is accepted and any mix of plain calls and of calls that carry entries, any entries each time, refused calls among them:
-- the store holds the flags that the calls alone give, packed afresh, as `Packed` says.
-- Assumes nothing.
use Rattle.std.specs.Prelude.{Ok}
use mathlib.Core.List.{List, [], ◌∷◌}
use mathlib.Core.Path.{◌≡◌, refl, sym, subst}
use Prim.Native.Nat.{ℕ}
use lib.ListN.{length}
use Rattle.codes.specs.Widths.{width_1}
use Rattle.stores.specs.History.{Store, Packed}
use Rattle.stores.specs.Stores.{Call, clear}
use Rattle.stores.proofs.History.{kept_packed}
use Rattle.stores.proofs.HistoryLaws.{Kept, clear_kept}
use Rattle.stores.proofs.HistoryLaws as Kepts
use Rattle.counts.specs.History.{Form, plain, carrying, call_of, form_outcome, form_step, form_run, form_history}
use Rattle.counts.proofs.HistoryLaws.{run-kept, cleared_kept}

mixed_kept : (fs : List Form) (s : Store) (h : List ℕ) (m : ℕ) → Kept width_1 s h m → Kept width_1 (form_run s fs) (form_history m h fs) m
mixed_kept [] s h m K = K
mixed_kept (plain c ∷ fs) s h m K = mixed_kept fs (form_step s (plain c)) _ m (Kepts.run-kept width_1 (c ∷ []) s h m K)
mixed_kept (carrying es c ∷ fs) s h m K =
    mixed_kept fs (form_step s (carrying es c)) _ m (run-kept (c ∷ []) (record { store = s; entries = es }) h m (length es) K refl)

first_kept : (bs : List ℕ) (old : ℕ) (f : Form) → call_of f ≡ clear → form_outcome (length bs) 0 f ≡ Ok tt → Kept width_1 (form_step (record { bytes = bs; len = old }) f) [] (length bs)
first_kept bs old (plain c) p =
    subst (λ (x : Call). form_outcome (length bs) 0 (plain x) ≡ Ok tt → Kept width_1 (form_step (record { bytes = bs; len = old }) (plain x)) [] (length bs)) (sym p)
    (clear_kept width_1 bs old)
first_kept bs old (carrying es c) p =
    subst (λ (x : Call). form_outcome (length bs) 0 (carrying es x) ≡ Ok tt → Kept width_1 (form_step (record { bytes = bs; len = old }) (carrying es x)) [] (length bs)) (sym p)
    (cleared_kept bs old es)

pub mixed : (bs : List ℕ) (old : ℕ) (f : Form) → call_of f ≡ clear → form_outcome (length bs) 0 f ≡ Ok tt → (fs : List Form)
    → Packed 1 (length bs) (form_run (form_step (record { bytes = bs; len = old }) f) fs) (form_history (length bs) [] fs)
mixed bs old f p e fs = kept_packed width_1 (mixed_kept fs _ [] (length bs) (first_kept bs old f p e))
