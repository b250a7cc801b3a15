-- Windows over a store's own track. After a clear that is accepted and any list of calls, refused ones among them, the track is an accepted
-- view of flags, and filling and stepping windows over it, with any context, k, skip and state, answer what the flags give that the calls alone give. An
-- entry whose window a call keeps has the same value after it.
-- Assumes nothing.
use Rattle.std.specs.Prelude.{Ok}
use mathlib.Core.Bool.{Bool}
use mathlib.Core.List.{List, []}
use mathlib.Core.Path.{◌≡◌, sym, ap, ◌∙◌}
use Prim.Native.Nat.{ℕ, suc, ◌+◌, ◌-◌, ◌*◌, ◌≤◌, ◌<◌}
use native.Mathlib.Omega.{arith}
use borrow.Author.Tests.{le-ltb}
use lib.ListN.{length, get_or, replicate}
use Rattle.codes.specs.Codes.{pick, chars, trailing}
use Rattle.codes.specs.Refusals.{answer, first, if_done, view_tests}
use Rattle.codes.specs.Windows.{window}
use Rattle.codes.proofs.CharLaws.{length-chars}
use Rattle.codes.proofs.OutcomeLaws.{first_done}
use Rattle.codes.specs.Widths.{width_1}
use Rattle.codes.proofs.WidthLaws.{up-hi}
use Rattle.lanes.specs.Lanes.{lane, padding, steps}
use Rattle.stores.specs.Changes.{Overwrites}
use Rattle.stores.specs.History.{Store, step, run, history, flags_of}
use Rattle.stores.specs.Stores.{Call, clear, outcome}
use Rattle.stores.proofs.HistoryLaws.{history-kept}
use Rattle.stores.proofs.History as Histories
use Rattle.stores.proofs.WindowsKept.{windows_kept}
use Rattle.windows.proofs.RunLaws.{window-open}
use Rattle.windows.proofs.Whole.{windows_whole}
use Rattle.windows.proofs.WindowFillLaws.{windows_open}
use Rattle.windows.specs.Windows.{windows_filled, Running, at_zero, step_answers, step_state, fill_tests, windows_outcome, windows_answer, windows_after, run_tests, run_outcome, run_answers, run_state}

-- an accepted view whose flags are h
module _ (xs : List ℕ) (p m : ℕ) (h : List ℕ) (are : chars 1 xs p m ≡ h) (taken : first (view_tests 1 (length xs) p m) ≡ Ok tt) (c k : ℕ) where
  count : m ≡ length h
  count = sym (length-chars 1 xs p m) ∙ ap length are

  -- filling is judged, and answers and writes, by h
  module _ (skip : ℕ) where
    fills : (r : ℕ) → windows_outcome xs p m c k skip r ≡ first (fill_tests (length h) c k skip r)
    unfolding windows_outcome
    fills r = first_done (view_tests 1 (length xs) p m) (fill_tests m c k skip r) taken ∙ ap (λ (n : ℕ). first (fill_tests n c k skip r)) count

    flags_filled : (r : ℕ) → windows_answer xs p m c k skip r ≡ answer (first (fill_tests (length h) c k skip r)) (steps 1 (length h) c 1 - skip, padding 1 (length h) c 1) (0, 0)
    unfolding windows_answer
    flags_filled r = λ i. answer (fills r i) (steps 1 (count i) c 1 - skip, padding 1 (count i) c 1) (0, 0)

    flags_written : (out : List ℕ)
        → windows_after xs p m c k skip out ≡ if_done (first (fill_tests (length h) c k skip (length out))) (windows_filled h (lane 1 (length h) c 1) k skip (steps 1 (length h) c 1 - skip) out) out
    unfolding windows_after
    flags_written out = λ i. if_done (fills (length out) i) (windows_filled (are i) (lane 1 (count i) c 1) k skip (steps 1 (count i) c 1 - skip) out) out

  -- and so is stepping
  module _ (r : Running) where
    flags_run : run_outcome xs p m c k r ≡ first (run_tests h (length h) c k r)
    unfolding run_outcome
    flags_run = first_done (view_tests 1 (length xs) p m) (run_tests (chars 1 xs p m) m c k r) taken ∙ (λ i. first (run_tests (are i) (count i) c k r))

    flags_answered : run_answers xs p m c k r ≡ if_done (first (run_tests h (length h) c k r)) (step_answers h (lane 1 (length h) c 1) r) (replicate 8 0)
    unfolding run_answers
    flags_answered = λ i. if_done (flags_run i) (step_answers (are i) (lane 1 (count i) c 1) r) (replicate 8 0)

    flags_stepped : run_state xs p m c k r ≡ if_done (first (run_tests h (length h) c k r)) (step_state h (lane 1 (length h) c 1) k r) at_zero
    unfolding run_state
    flags_stepped = λ i. if_done (flags_run i) (step_state (are i) (lane 1 (count i) c 1) k r) at_zero

-- step j, lane l of a filling over a store's track that is done
pub record Entry (s : Store) (c k skip : ℕ) (out : List ℕ) (j l : ℕ) : Type 0 where
  pub done : windows_outcome s.bytes 0 s.len c k skip (length out) ≡ Ok tt
  pub from : skip ≤ j
  pub below : j < steps 1 s.len c 1
  pub lane-is : l < 8

-- the position where its window begins
abbrev pub begins : Store → ℕ → ℕ → ℕ → ℕ → ℕ
begins s c k j l = l * lane 1 s.len c 1 + suc j - k

-- its value
abbrev pub entry : Store → ℕ → ℕ → ℕ → List ℕ → ℕ → ℕ → ℕ
entry s c k skip out j l = get_or (windows_after s.bytes 0 s.len c k skip out) (8 * (j - skip) + l) 0

entry_is : {s : Store} {c k skip : ℕ} {out : List ℕ} {j l : ℕ} → Entry s c k skip out j l
    → entry s c k skip out j l ≡ pick (window (flags_of s) (begins s c k j l) k) 0xffff_ffff 0
entry_is {s} {c} {k} {skip} {out} {j} {l} e = (windows_whole s.bytes 0 s.len c k skip out e.done j l e.from e.below e.lane-is).1

-- two entries whose windows begin at one place and have one answer there; whatever the contexts, the skips and the places of the entries
pub entries_same : {s t : Store} {c d k skip skip' : ℕ} {out out' : List ℕ} {j j' l l' : ℕ} → Entry s c k skip out j l → Entry t d k skip' out' j' l'
    → begins t d k j' l' ≡ begins s c k j l → (1 ≤ k → k ≤ 96 → window (flags_of t) (begins s c k j l) k ≡ window (flags_of s) (begins s c k j l) k)
    → entry t d k skip' out' j' l' ≡ entry s c k skip out j l
entries_same {s} {t} {c} {d} {k} {skip} {skip'} {out} {out'} {j} {j'} {l} {l'} e f same h =
    let W = window-open s.bytes 0 s.len c k (windows_open s.bytes 0 s.len c k skip (length out) e.done).0 in
    entry_is f
    ∙ ap (λ (p : ℕ). pick (window (flags_of t) p k) 0xffff_ffff 0) same
    ∙ ap (λ (x : Bool). pick x 0xffff_ffff 0) (h W.low W.high)
    ∙ sym (entry_is e)

-- a call keeps the value of an entry whose window lies in the track before and after, and holds no position that the call, if it is done,
-- overwrites
pub entries_kept : (s : Store) (call : Call) {c d k skip skip' : ℕ} {out out' : List ℕ} {j j' l l' : ℕ}
    → Entry s c k skip out j l → Entry (step 1 s call) d k skip' out' j' l'
    → begins (step 1 s call) d k j' l' ≡ begins s c k j l
    → begins s c k j l + k ≤ s.len → begins s c k j l + k ≤ (step 1 s call).len
    → ((i : ℕ) → begins s c k j l ≤ i → i < begins s c k j l + k → (Ok tt) ≡ outcome 1 (length s.bytes) s.len call → Overwrites call i → ⊥)
    → entry (step 1 s call) d k skip' out' j' l' ≡ entry s c k skip out j l
entries_kept s call {c} {k} {j} {l} e f same a b h = entries_same e f same (λ lo hi. windows_kept s call (begins s c k j l) k lo hi a b h)

-- after a clear that is accepted and the calls cs
module _ (bs : List ℕ) (old : ℕ) (e : outcome 1 (length bs) 0 clear ≡ Ok tt) (cs : List Call) where
  abbrev s : Store
  s = run 1 (step 1 (record { bytes = bs; len = old }) clear) cs

  abbrev h : List ℕ
  h = history 1 (length bs) [] cs

  pub track_accepted : first (view_tests 1 (length s.bytes) 0 s.len) ≡ Ok tt
  track_accepted =
      let K = history-kept width_1 bs old e cs in
      let n : s.len ≡ length h = K.lengths in
      let fits : 0 + s.len + trailing * 8 ≤ length s.bytes * 8 = omega (arith, n, K.holds.room, up-hi width_1 (length h)) in
      rw (le-ltb _ _ K.holds.small, le-ltb _ _ fits)

  are : chars 1 s.bytes 0 s.len ≡ h
  are = (Histories.history width_1 bs old e cs).chars-are

  pub windows_filled_lem : (c k skip r : ℕ)
      → windows_answer s.bytes 0 s.len c k skip r ≡ answer (first (fill_tests (length h) c k skip r)) (steps 1 (length h) c 1 - skip, padding 1 (length h) c 1) (0, 0)
  windows_filled_lem c k = flags_filled s.bytes 0 s.len h are track_accepted c k

  pub windows_written : (c k skip : ℕ) (out : List ℕ)
      → windows_after s.bytes 0 s.len c k skip out
      ≡ if_done (first (fill_tests (length h) c k skip (length out))) (windows_filled h (lane 1 (length h) c 1) k skip (steps 1 (length h) c 1 - skip) out) out
  windows_written c k = flags_written s.bytes 0 s.len h are track_accepted c k

  pub windows_run : (c k : ℕ) (r : Running)
      → (run_outcome s.bytes 0 s.len c k r ≡ first (run_tests h (length h) c k r))
      × (run_answers s.bytes 0 s.len c k r ≡ if_done (first (run_tests h (length h) c k r)) (step_answers h (lane 1 (length h) c 1) r) (replicate 8 0))
      × (run_state s.bytes 0 s.len c k r ≡ if_done (first (run_tests h (length h) c k r)) (step_state h (lane 1 (length h) c 1) k r) at_zero)
  windows_run c k r = (
    flags_run s.bytes 0 s.len h are track_accepted c k r,
    flags_answered s.bytes 0 s.len h are track_accepted c k r,
    flags_stepped s.bytes 0 s.len h are track_accepted c k r,
  )
