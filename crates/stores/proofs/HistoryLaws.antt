-- The laws of a history: each call keeps what a store holds, and answers its length.
-- Assumes nothing.
use Rattle.std.specs.Prelude.{Ok, Err}
use mathlib.Core.List.{List, [], ◌∷◌, map}
use mathlib.Core.Path.{◌≡◌, refl, sym, ap, ◌∙◌, subst}
use Prim.Native.Nat.{ℕ, ◌+◌, ◌^◌, ◌≤◌, zero-le}
use native.Mathlib.Nat.{le_refl, le_trans, add-zero, add-le-add}
use native.Mathlib.Omega.{arith}
use borrow.Author.Tests.{le-ltb, ltb-false}
use lib.ListN.{length, length-map}
use lib.Pow.{pow_pos}
use Rattle.codes.specs.Codes.{IsWidth, up, trailing, code}
use Rattle.codes.specs.Refusals.{if_done}
use Rattle.codes.specs.declared.refusals.Refusal.{Refusal}
use Rattle.codes.proofs.CharLaws.{length-pack}
use Rattle.codes.proofs.WidthLaws.{up_le, up-mono}
use Rattle.stores.specs.History.{Store, step, run, chars_after, history}
use Rattle.stores.specs.Stores.{Call, clear, push_ascii, push_seq, overwrite, cut, tests, outcome, still, deed, edit, buffer_after, length_after, span, old_length, answered, after}
use Rattle.runs.specs.Runs.{written, seq_chars}
use Rattle.stores.proofs.CallLaws.{Passed, done_passed, by_outcome}
use Rattle.stores.proofs.HoldLaws.{Holds, Good, good_still, good_from, good_over, from-holds}
use Rattle.runs.proofs.SeqLaws.{seq_lt, seq_end}
use Rattle.runs.proofs.SpliceLaws.{codes_lt}

pub clear_done : (w m len : ℕ) → m ≤ 2 ^ 28 → trailing ≤ m → (Ok tt) ≡ outcome w m len clear
unfolding outcome
clear_done w m len hi lo = rw (le-ltb (2 ^ 28) m hi, le-ltb m trailing lo)

module _ {w : ℕ} (W : IsWidth w) where
  -- the length that a call which is done answers
  pub span-length : (len : ℕ) (c : Call) → (span w len c).2 ≡ length_after len (deed w len c)
  span-length len clear = refl
  span-length len (push_ascii []) = add-zero len
  span-length len (push_ascii (l ∷ ls)) = ap (λ (n : ℕ). len + n) (sym (length-map (l ∷ ls) (code w)))
  span-length len (push_seq vs o n) = sym (seq_end W len vs o n)
  span-length len (overwrite at ls) = refl
  span-length len (cut n) = sym (add-zero n)

  module _ (bs h : List ℕ) (H : Holds w bs h) where
    abbrev m : ℕ
    m = length bs

    abbrev len : ℕ
    len = length h

    -- a call that is done does what keeps the store
    deed-good : (c : Call) → Passed (tests w m len c) → Good w bs h (deed w len c)
    deed-good clear p = good_from W bs h H 0 [] (λ i. pow_pos w) zero-le (omega (arith, up_le W 0, H.room))
    deed-good (push_ascii []) p = good_still W bs h H
    deed-good (push_ascii (l ∷ ls)) p =
        good_from W bs h H len (map (code w) (l ∷ ls)) (codes_lt W (l ∷ ls)) (le_refl len)
        (subst (λ (x : ℕ). up w (len + x) + trailing ≤ m) (sym (length-map (l ∷ ls) (code w))) (ltb-false _ _ p.1.1.0))
    deed-good (push_seq vs o n) p =
        good_from W bs h H len (seq_chars w len vs o n) (seq_lt W len vs o n) (le_refl len)
        (subst (λ (x : ℕ). up w x + trailing ≤ m) (sym (seq_end W len vs o n)) (ltb-false _ _ p.1.1.1.1.0))
    deed-good (overwrite at ls) p =
        good_over W bs h H at (map (code w) ls) (codes_lt W ls)
        (subst (λ (x : ℕ). at + x ≤ len) (sym (length-map ls (code w))) (ltb-false _ _ p.1.1.0))
    deed-good (cut n) p =
        let r : n ≤ len = ltb-false _ _ p.1.1.0 in
        good_from W bs h H n [] (λ i. pow_pos w) r (le_trans (add-le-add (up-mono W (n + 0) len (omega arith)) (le_refl trailing)) H.room)

    pub step_good : (c : Call) → Good w bs h (edit w m len c)
    unfolding outcome
    step_good c =
        by_outcome (λ o. Good w bs h (if_done o (deed w len c) still)) (outcome w m len c) (λ e. deed-good c (done_passed (tests w m len c) e)) (λ r e. good_still W bs h H)

    -- no clear of such a store is refused
    old_length_lem : (c : Call) (r : Refusal) → Err r ≡ outcome w m len c → old_length len c ≡ len
    old_length_lem clear r e = let z : ◌≡◌ {A = ℕ} 0 1 = cc (clear_done w m len H.small (omega (arith, H.room))) in absurd (omega arith)
    old_length_lem (push_ascii ls) r e = refl
    old_length_lem (push_seq vs o n) r e = refl
    old_length_lem (overwrite at ls) r e = refl
    old_length_lem (cut n) r e = refl

    pub step_length : (c : Call) → (answered w m len c).values.2 ≡ length_after len (edit w m len c)
    unfolding answered
    step_length c =
        by_outcome (λ o. (if_done o (span w len c) (0, 0, old_length len c)).2 ≡ length_after len (if_done o (deed w len c) still)) (outcome w m len c) (λ e. span-length len c) (old_length_lem c)

  -- a store and the characters that it holds
  pub record Kept (s : Store) (h : List ℕ) (m : ℕ) : Type 0 where
    pub holds : Holds w s.bytes h
    pub lengths : s.len ≡ length h
    pub size : length s.bytes ≡ m

  step_kept : (s : Store) (h : List ℕ) (c : Call) (n : ℕ) → n ≡ length h → s.len ≡ n → Holds w s.bytes h
      → Kept (step w s c) (chars_after h (edit w (length s.bytes) n c)) (length s.bytes)
  unfolding after
  step_kept s h c n p q H =
      let m : ℕ = length s.bytes in
      let left : ℕ → Store = λ x. record { bytes = buffer_after w s.bytes (edit w m x c); len = (answered w m x c).values.2 } in
      let g : Good w s.bytes h (edit w m (length h) c) = step_good s.bytes h H c in
      subst (λ (x : ℕ). Kept (left x) (chars_after h (edit w m n c)) m) (sym q)
      (subst (λ (x : ℕ). Kept (left x) (chars_after h (edit w m x c)) m) (sym p)
      (record { holds = g.holds; lengths = step_length s.bytes h H c ∙ g.lengths; size = g.size }))

  pub run-kept : (cs : List Call) (s : Store) (h : List ℕ) (m : ℕ) → Kept s h m → Kept (run w s cs) (history w m h cs) m
  run-kept [] s h m K = K
  run-kept (c ∷ cs) s h m K =
      run-kept cs (step w s c) (chars_after h (edit w m (length h) c)) m
      (subst (λ (x : ℕ). Kept (step w s c) (chars_after h (edit w x (length h) c)) x) K.size (step_kept s h c (length h) refl K.lengths K.holds))

  -- the store that an accepted clear leaves
  pub clear_kept : (bs : List ℕ) (old : ℕ) → outcome w (length bs) 0 clear ≡ Ok tt → Kept (step w (record { bytes = bs; len = old }) clear) [] (length bs)
  unfolding outcome after answered written
  clear_kept bs old e =
      let p : Passed (tests w (length bs) 0 clear) = done_passed (tests w (length bs) 0 clear) (sym e) in
      let lo : trailing ≤ length bs = ltb-false _ _ p.1.0 in
      let d : List ℕ = written w bs 0 [] in
      let start : step w (record { bytes = bs; len = old }) clear ≡ record { bytes = d; len = 0 } = rw e in
      subst (λ (s : Store). Kept s [] (length bs)) (sym start)
      (record {
        holds = from-holds W bs [] 0 [] (λ i. pow_pos w) (ltb-false _ _ p.0) zero-le (omega (arith, up_le W 0)) (λ i l. absurd (omega arith));
        lengths = refl;
        size = length-pack w (length bs) _;
      })

  pub history-kept : (bs : List ℕ) (old : ℕ) → outcome w (length bs) 0 clear ≡ Ok tt → (cs : List Call)
      → Kept (run w (step w (record { bytes = bs; len = old }) clear) cs) (history w (length bs) [] cs) (length bs)
  history-kept bs old e cs = run-kept cs (step w (record { bytes = bs; len = old }) clear) [] (length bs) (clear_kept bs old e)
