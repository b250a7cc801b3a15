-- The laws of running windows: a test of lanes, lane by lane.
-- Assumes nothing.
use Rattle.std.specs.Prelude.{Result, Ok, Err}
use mathlib.Core.Bool.{Bool, true, false, ◌||◌}
use mathlib.Core.List.{List, [], ◌∷◌}
use mathlib.Core.Path.{◌≡◌, refl, sym, ap, ap₂, ◌∙◌}
use Prim.Native.Nat.{ℕ, zero, suc, ◌+◌, ◌-◌, ◌*◌, ◌^◌, ◌≤◌, ◌<◌}
use native.Mathlib.Decide.{ℕ_discrete}
use native.Mathlib.Numerals.{add-one}
use native.Mathlib.Omega.{arith}
use lib.Dec.{ltb}
use lib.ListN.{length, get_or, replicate}
use lib.Pow.{pow_pos}
use borrow.Author.Tests.{ltb-false, le-leb, lt-leb}
use Rattle.codes.specs.Codes.{pick, tab, chars}
use Rattle.codes.specs.Refusals.{Test, first, if_done, view_tests, number_of, Outcome}
use Rattle.codes.specs.declared.refusals.Refusal.{Refusal}
use Rattle.codes.specs.declared.refusals.Refusal.TheVariants.{BadStream}
use Rattle.codes.proofs.CodeLaws.{pick-lt}
use Rattle.codes.proofs.TabLaws.{get_or-tab, tab-ext, Below-tab, Below-get_or}
use Rattle.codes.proofs.WordLaws.{Below}
use Rattle.codes.proofs.OutcomeLaws.{or_true, first_both}
use Rattle.codes.proofs.TestLaws.{first_behind, first_none}
use Rattle.lanes.specs.Lanes.{lane, steps, bad_shape, lane_char, lanes}
use Rattle.streams.specs.Streams.{bad_step}
use Rattle.windows.specs.Answers.{ran_says}
use Rattle.windows.specs.declared.answers.Ran.{Ran}
use Rattle.windows.specs.Windows.{bad_window, bad_state, Running, at_zero, summed, leaving, any_lane, step_answers, step_state, window_tests, run_outcome, run_answers, run_state}
use Rattle.codes.proofs.RefusalLaws.{neither}

pub any_step : (l : ℕ) (f : ℕ → Bool) → any_lane (l + 1) f ≡ (any_lane l f || f l)
any_step l f = ap (λ (n : ℕ). any_lane n f) (add-one l)

-- one lane decides
pub any_true : (n l : ℕ) (f : ℕ → Bool) → l < n → f l ≡ true → any_lane n f ≡ true
any_true zero l f h e = absurd (omega arith)
any_true (suc n) l f h e =
    elim (ℕ_discrete l n) [
      | yes q ↦ ap (λ (b : Bool). any_lane n f || b) (ap f (sym q) ∙ e) ∙ or_true (any_lane n f)
      | no q ↦ ap (λ (b : Bool). b || f n) (any_true n l f (omega arith) e)
    ]

-- none does where the test does not hold
pub any_false : (n l : ℕ) (f : ℕ → Bool) → any_lane n f ≡ false → l < n → f l ≡ false
any_false zero l f e h = absurd (omega arith)
any_false (suc n) l f e h =
    elim (ℕ_discrete l n) [
      | yes q ↦ ap f q ∙ (neither (any_lane n f) (f n) e).1
      | no q ↦ any_false n l f (neither (any_lane n f) (f n) e).0 (omega arith)
    ]

pub any_ext : (n : ℕ) (f g : ℕ → Bool) → ((l : ℕ) → l < n → f l ≡ g l) → any_lane n f ≡ any_lane n g
any_ext zero f g h = refl
any_ext (suc n) f g h = ap₂ (λ (a b : Bool). a || b) (any_ext n f g (λ l m. h l (omega arith))) (h n (omega arith))

-- the tests of flag windows, one by one
pub record Windowed (bs : List ℕ) (o len c k : ℕ) : Type 0 where
  pub view : first (view_tests 1 (length bs) o len) ≡ Ok tt
  pub shape : first (bad_shape c 1 ∷ []) ≡ Ok tt
  pub low : 1 ≤ k
  pub high : k ≤ 96

pub window-open : (bs : List ℕ) (o len c k : ℕ) → first (window_tests bs o len c k) ≡ Ok tt → Windowed bs o len c k
window-open bs o len c k h =
    let a = first_both (view_tests 1 (length bs) o len) (bad_shape c 1 ∷ bad_window k ∷ []) h in
    let b = first_both (bad_shape c 1 ∷ []) (bad_window k ∷ []) a.1 in
    let t = neither (ltb k 1) (ltb 96 k) (first_none (bad_window k ∷ []) b.1).0 in
    record { view = a.0; shape = b.0; low = ltb-false k 1 t.0; high = ltb-false 96 k t.1 }

-- ---- a step's lanes

pub lanes_at : (cs : List ℕ) (n d j l : ℕ) → l < 8 → get_or (lanes cs n d j) l 0 ≡ lane_char cs n d j l
unfolding lanes
lanes_at cs n d j l h = get_or-tab 8 (lane_char cs n d j) l h

pub lanes_small : (w : ℕ) (cs : List ℕ) → Below w cs → (n d j l : ℕ) → get_or (lanes cs n d j) l 0 < 2 ^ w
unfolding lanes
lanes_small w cs h n d j l =
    Below-get_or w (tab 8 (lane_char cs n d j)) (Below-tab w 8 (lane_char cs n d j) (λ m. pick-lt (ltb j d) 0 _ (2 ^ w) (pow_pos w) (Below-get_or w cs h (m * n + (j - d))))) l

-- a count above `most`, or a sum below what leaves
abbrev pub bad_lane : ℕ → List ℕ → List ℕ → List ℕ → ℕ → Bool
bad_lane most counts enter leave l = ltb most (get_or counts l 0) || ltb (get_or counts l 0 + get_or enter l 0) (get_or leave l 0)

module _ (cs : List ℕ) (n k : ℕ) (s : Running) (enter leave : List ℕ) (en : enter ≡ lanes cs n 0 s.at) (lv : leave ≡ lanes cs n (k - 1) s.at) where
  enters : (l : ℕ) → l < 8 → get_or enter l 0 ≡ lane_char cs n 0 s.at l
  enters l h = ap (λ (x : List ℕ). get_or x l 0) en ∙ lanes_at cs n 0 s.at l h

  leaves : (l : ℕ) → l < 8 → get_or leave l 0 ≡ leaving cs n k s l
  leaves l h = ap (λ (x : List ℕ). get_or x l 0) lv ∙ lanes_at cs n (k - 1) s.at l h

  pub bad_is : any_lane 8 (bad_lane (k - 1) s.counts enter leave) ≡ (bad_state cs n k s).0
  bad_is =
      any_ext 8 (bad_lane (k - 1) s.counts enter leave) (λ l. ltb (k - 1) (get_or s.counts l 0) || ltb (summed cs n s l) (leaving cs n k s l))
      (λ l h. ap₂ (λ (x y : ℕ). ltb (k - 1) (get_or s.counts l 0) || ltb (get_or s.counts l 0 + x) y) (enters l h) (leaves l h))

  pub answers_are : tab 8 (λ l. pick (ltb 0 (get_or s.counts l 0 + get_or enter l 0)) 0xffff_ffff 0) ≡ step_answers cs n s
  unfolding step_answers
  answers_are =
      tab-ext 8 (λ l. pick (ltb 0 (get_or s.counts l 0 + get_or enter l 0)) 0xffff_ffff 0) (λ l. pick (ltb 0 (summed cs n s l)) 0xffff_ffff 0)
      (λ l h. ap (λ (x : ℕ). pick (ltb 0 (get_or s.counts l 0 + x)) 0xffff_ffff 0) (enters l h))

  pub state_is : record { counts = tab 8 (λ l. get_or s.counts l 0 + get_or enter l 0 - get_or leave l 0); at = s.at + 1 } ≡ step_state cs n k s
  unfolding step_state
  state_is =
      ap (λ (x : List ℕ). record { counts = x; at = s.at + 1 })
      (tab-ext 8 (λ l. get_or s.counts l 0 + get_or enter l 0 - get_or leave l 0) (λ l. summed cs n s l - leaving cs n k s l)
      (λ l h. ap₂ (λ (x y : ℕ). get_or s.counts l 0 + x - y) (enters l h) (leaves l h)))

  -- a state that is not bad has small counts, and nothing is taken off that is not there
  pub sound : k ≤ 96 → any_lane 8 (bad_lane (k - 1) s.counts enter leave) ≡ false
      → (l : ℕ) → l < 8 → (get_or s.counts l 0 ≤ 95) × (get_or leave l 0 ≤ get_or s.counts l 0 + get_or enter l 0)
  sound few e l h =
      let b = neither (ltb (k - 1) (get_or s.counts l 0)) (ltb (get_or s.counts l 0 + get_or enter l 0) (get_or leave l 0)) (any_false 8 l (bad_lane (k - 1) s.counts enter leave) e h) in
      (omega (arith, ltb-false (k - 1) (get_or s.counts l 0) b.0), ltb-false (get_or s.counts l 0 + get_or enter l 0) (get_or leave l 0) b.1)

-- what a step answers and hands back, by its outcome
module _ (bs : List ℕ) (o len c k : ℕ) (s : Running) where
  abbrev n : ℕ
  n = lane 1 len c 1

  abbrev cs : List ℕ
  cs = chars 1 bs o len

  -- refused, all is zero
  pub run_refused : {r : Refusal} {x : Result Ran Refusal} → run_outcome bs o len c k s ≡ Err r → x ≡ Err r
      → ((ran_says x).no ≡ number_of (run_outcome bs o len c k s)) × ((ran_says x).values.0 ≡ run_answers bs o len c k s) × ((ran_says x).values.1 ≡ run_state bs o len c k s)
  unfolding run_answers run_state
  run_refused e q = (rw (q, e), rw (q, e), rw (q, e))

  pub run_done : run_outcome bs o len c k s ≡ Ok tt → (run_answers bs o len c k s ≡ step_answers cs n s) × (run_state bs o len c k s ≡ step_state cs n k s)
  unfolding run_answers run_state
  run_done e = (ap (λ (u : Outcome). if_done u (step_answers cs n s) (replicate 8 0)) e, ap (λ (u : Outcome). if_done u (step_state cs n k s) at_zero) e)

  -- a step's own tests
  abbrev pub own : List Test
  own = bad_step (steps 1 len c 1) s.at ∷ bad_state cs n k s ∷ []

  module _ (opened : first (window_tests bs o len c k) ≡ Ok tt) where
    pub run_past : steps 1 len c 1 ≤ s.at → run_outcome bs o len c k s ≡ Err BadStream
    unfolding run_outcome
    run_past h = sym (first_behind (window_tests bs o len c k) own opened 0 (le-leb (steps 1 len c 1) s.at h))

    pub run-bad : s.at < steps 1 len c 1 → (bad_state cs n k s).0 ≡ true → run_outcome bs o len c k s ≡ Err BadStream
    unfolding run_outcome
    run-bad h e = sym (first_behind (window_tests bs o len c k) own opened 1 (lt-leb (steps 1 len c 1) s.at h, e))

    pub run-right : s.at < steps 1 len c 1 → (bad_state cs n k s).0 ≡ false → run_outcome bs o len c k s ≡ Ok tt
    unfolding run_outcome
    run-right h e = sym (first_behind (window_tests bs o len c k) own opened 2 (lt-leb (steps 1 len c 1) s.at h, (e, tt)))
