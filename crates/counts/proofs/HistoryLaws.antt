-- The laws of a history: each call leaves the store that the plain call does, or the store as it was, and as many entries.
-- Assumes nothing.
use Rattle.std.specs.Prelude.{Ok, Err}
use mathlib.Core.List.{List, [], ◌∷◌}
use mathlib.Core.Path.{◌≡◌, refl, sym, ap, ◌∙◌, subst}
use Prim.Native.Nat.{ℕ, ◌≤◌, zero-le}
use native.Mathlib.Nat.{le_refl}
use native.Mathlib.Omega.{arith}
use lib.ListN.{length}
use Rattle.codes.specs.Codes.{chars}
use Rattle.codes.specs.Refusals.{if_done, Outcome}
use Rattle.codes.specs.declared.refusals.Refusal.{Refusal}
use Rattle.codes.specs.Widths.{width_1}
use Rattle.stores.specs.History.{Store, chars_after}
use Rattle.stores.specs.History as Plain
use Rattle.stores.specs.Stores.{Call, Edit, clear, push_ascii, push_seq, overwrite, cut, outcome, still, deed, old_length}
use Rattle.stores.specs.Stores as Stores
use Rattle.stores.proofs.CallLaws.{by_outcome}
use Rattle.stores.proofs.HistoryLaws.{Kept, clear_done, clear_kept}
use Rattle.stores.proofs.HistoryLaws as Kepts
use Rattle.counts.specs.Blocks.{blocks, touched, recounted}
use Rattle.counts.specs.Counts.{counted_outcome, new_flags, entries_after}
use Rattle.counts.specs.History.{Counted, Right, step, run, edit, history}
use Rattle.counts.proofs.BlockLaws.{recounted-length}
use Rattle.counts.proofs.CallLaws.{done_both, done_left, done_length, refused_left, plain-enough}
use Rattle.counts.proofs.CountsRight.{right_none, counts-right}

entries_length : (bs : List ℕ) (len : ℕ) (entries : List ℕ) (call : Call) → length (entries_after bs len entries call) ≡ length entries
unfolding entries_after
entries_length bs len entries call =
    by_outcome (λ o. length (if_done o (recounted entries (touched len (deed 1 len call)) (new_flags bs len call)) entries) ≡ length entries)
    (counted_outcome (length bs) len (length entries) call) (λ e. recounted-length entries (touched len (deed 1 len call)) (new_flags bs len call)) (λ r e. refl)

-- a call that is done leaves the store that the plain call leaves
pub done_store : (s : Counted) (call : Call) → counted_outcome (length s.store.bytes) s.store.len (length s.entries) call ≡ Ok tt → Plain.step 1 s.store call ≡ (step s call).store
done_store s call e = let left = done_left s.store.bytes s.store.len s.entries call e in λ i. record { bytes = left.1.0 i; len = (left.0 i).values.2 }

-- one that is refused leaves every byte, and the old length
pub refused_store : (s : Counted) (call : Call) (r : Refusal) → counted_outcome (length s.store.bytes) s.store.len (length s.entries) call ≡ Err r
    → record { bytes = s.store.bytes; len = old_length s.store.len call } ≡ (step s call).store
refused_store s call r e = let left = refused_left s.store.bytes s.store.len s.entries call r e in λ i. record { bytes = left.1.0 i; len = (left.0 i).values.2 }

module _ (s : Counted) (h : List ℕ) (m n : ℕ) (K : Kept width_1 s.store h m) (E : length s.entries ≡ n) (c : Call) where
  abbrev bs : List ℕ
  bs = s.store.bytes

  abbrev len : ℕ
  len = s.store.len

  -- the outcome, by the history alone
  judged : counted_outcome (length bs) len (length s.entries) c ≡ counted_outcome m (length h) n c
  judged = λ i. counted_outcome (K.size i) (K.lengths i) (E i) c

  step_done : counted_outcome (length bs) len (length s.entries) c ≡ Ok tt → Kept width_1 (step s c).store (chars_after h (edit m n (length h) c)) m
  step_done e =
      let plain : outcome 1 m (length h) c ≡ Ok tt = sym (λ i. outcome 1 (K.size i) (K.lengths i) c) ∙ (done_both bs len s.entries c e).0 in
      let same : Stores.edit 1 m (length h) c ≡ edit m n (length h) c = ap (λ (o : Outcome). if_done o (deed 1 (length h) c) still) (plain ∙ sym (sym judged ∙ e)) in
      subst (λ (t : Store). Kept width_1 t (chars_after h (edit m n (length h) c)) m) (done_store s c e)
      (subst (λ (x : Edit). Kept width_1 (Plain.step 1 s.store c) (chars_after h x) m) same (Kepts.run-kept width_1 (c ∷ []) s.store h m K))

  -- no clear of such a store is refused
  old_length_lem : (c : Call) (r : Refusal) → counted_outcome (length bs) len (length s.entries) c ≡ Err r → old_length len c ≡ len
  old_length_lem clear r e =
      let d = plain-enough bs len s.entries clear (sym (clear_done 1 (length bs) len K.holds.small (omega (arith, K.holds.room)))) zero-le in
      let z : ◌≡◌ {A = ℕ} 0 1 = cc in
      absurd (omega arith)
  old_length_lem (push_ascii ls) r e = refl
  old_length_lem (push_seq vs o k) r e = refl
  old_length_lem (overwrite at ls) r e = refl
  old_length_lem (cut k) r e = refl

  step_refused : (r : Refusal) → counted_outcome (length bs) len (length s.entries) c ≡ Err r → Kept width_1 (step s c).store (chars_after h (edit m n (length h) c)) m
  step_refused r e =
      let left : s.store ≡ (step s c).store = (λ i. record { bytes = bs; len = sym (old_length_lem c r e) i }) ∙ refused_store s c r e in
      subst (λ (t : Store). Kept width_1 t (chars_after h (edit m n (length h) c)) m) left
      (subst (λ (o : Outcome). Kept width_1 s.store (chars_after h (if_done o (deed 1 (length h) c) still)) m) (sym (sym judged ∙ e)) K)

  step_kept : Kept width_1 (step s c).store (chars_after h (edit m n (length h) c)) m
  step_kept =
      by_outcome (λ o. counted_outcome (length bs) len (length s.entries) c ≡ o → Kept width_1 (step s c).store (chars_after h (edit m n (length h) c)) m)
      (counted_outcome (length bs) len (length s.entries) c) (λ d. step_done) (λ r d. step_refused r) refl

pub run-kept : (cs : List Call) (s : Counted) (h : List ℕ) (m n : ℕ) → Kept width_1 s.store h m → length s.entries ≡ n
    → Kept width_1 (run s cs).store (history m n h cs) m
run-kept [] s h m n K E = K
run-kept (c ∷ cs) s h m n K E =
    run-kept cs (step s c) (chars_after h (edit m n (length h) c)) m n (step_kept s h m n K E c) (entries_length s.store.bytes s.store.len s.entries c ∙ E)

pub run-right : (cs : List Call) (s : Counted) → Right s.entries (Plain.flags_of s.store) → Right (run s cs).entries (Plain.flags_of (run s cs).store)
run-right [] s R = R
run-right (c ∷ cs) s R = run-right cs (step s c) (counts-right s c R)

-- the length that a refused call gives is no longer than the old one
old_least : (len : ℕ) (call : Call) → old_length len call ≤ len
old_least len clear = zero-le
old_least len (push_ascii ls) = le_refl len
old_least len (push_seq vs o n) = le_refl len
old_least len (overwrite at ls) = le_refl len
old_least len (cut n) = le_refl len

-- where there are entries for the length, there are for the new one
step_enough : (s : Counted) (call : Call) → blocks s.store.len ≤ length s.entries → blocks (step s call).store.len ≤ length (step s call).entries
step_enough s call h =
    let bs : List ℕ = s.store.bytes in
    let len : ℕ = s.store.len in
    let entries : List ℕ = s.entries in
    let long = entries_length bs len entries call in
    by_outcome (λ o. counted_outcome (length bs) len (length entries) call ≡ o → blocks (step s call).store.len ≤ length (step s call).entries)
    (counted_outcome (length bs) len (length entries) call)
    (λ d e. omega (arith, (done_both bs len entries call e).1, done_length bs len entries call e))
    (λ r d e. omega (arith, ap (λ (a : _). a.values.2) (refused_left bs len entries call r e).0, old_least len call))
    refl

pub run-enough : (cs : List Call) (s : Counted) → blocks s.store.len ≤ length s.entries → blocks (run s cs).store.len ≤ length (run s cs).entries
run-enough [] s h = h
run-enough (c ∷ cs) s h = run-enough cs (step s c) (step_enough s c h)

-- the store and the entries that an accepted clear leaves
module _ (bs : List ℕ) (old : ℕ) (entries : List ℕ) (e : counted_outcome (length bs) 0 (length entries) clear ≡ Ok tt) where
  abbrev pub cleared : Counted
  cleared = step (record { store = record { bytes = bs; len = old }; entries = entries }) clear

  pub cleared_kept : Kept width_1 cleared.store [] (length bs)
  unfolding counted_outcome
  cleared_kept =
      subst (λ (t : Store). Kept width_1 t [] (length bs)) (done_store (record { store = record { bytes = bs; len = old }; entries = entries }) clear e)
      (clear_kept width_1 bs old (done_both bs 0 entries clear e).0)

  pub cleared_length : length cleared.entries ≡ length entries
  cleared_length = entries_length bs old entries clear

  pub cleared_right : Right cleared.entries (Plain.flags_of cleared.store)
  cleared_right = subst (λ (x : ℕ). Right cleared.entries (chars 1 cleared.store.bytes 0 x)) (sym cleared_kept.lengths) (right_none cleared.entries cleared.store.bytes)

  pub cleared_enough : blocks cleared.store.len ≤ length cleared.entries
  cleared_enough = omega (arith, cleared_kept.lengths)
