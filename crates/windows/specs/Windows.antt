-- Windows of flags over the eight lanes of a stream, by their flags and by running counts; what each call answers and writes.
-- Assumes nothing.
use Rattle.std.specs.Prelude.{Bool, false, ◌&&◌, ◌||◌, List, [], ◌∷◌, ◌++◌, ℕ, zero, suc, ◌+◌, ◌-◌, ◌*◌, ◌/◌, ◌%◌, min, ltb, length, get_or, drop, replicate}
use Rattle.codes.specs.Codes.{pick, tab, chars}
use Rattle.codes.specs.Refusals.{Test, Answer, answer, first, if_done, no_room, view_tests, Outcome}
use Rattle.codes.specs.Windows.{window}
use Rattle.codes.specs.declared.refusals.Refusal.TheVariants.{BadStream, Partial}
use Rattle.lanes.specs.Lanes.{lane, padding, steps, bad_shape, lane_char}
use Rattle.streams.specs.Streams.{bad_step}

-- k from 1 to 96
abbrev pub bad_window : ℕ → Test
bad_window k = (ltb k 1 || ltb 96 k, BadStream)

-- skip at most the steps
abbrev pub bad_skip : ℕ → ℕ → Test
bad_skip n skip = (ltb n skip, BadStream)

-- if there are steps, skip below k − 1 or context c below k
abbrev pub partial : ℕ → ℕ → ℕ → ℕ → Test
partial n c k skip = (ltb 0 n && (ltb skip (k - 1) || ltb c k), Partial)

-- a position from l n + max(0, j − k + 1) to l n + j is within the view and flagged: all 32 bits set, else 0
abbrev pub lane_window : List ℕ → ℕ → ℕ → ℕ → ℕ → ℕ
lane_window flags n k j l = pick (window flags (l * n + (suc j - k)) (min k (suc j))) 0xffff_ffff 0

-- windows use entry 8 (j − skip) + l
abbrev pub window_entry : List ℕ → ℕ → ℕ → ℕ → ℕ → ℕ
window_entry flags n k skip q = lane_window flags n k (skip + q / 8) (q % 8)

-- later entries stay
unfoldable pub windows_filled : List ℕ → ℕ → ℕ → ℕ → ℕ → List ℕ → List ℕ
windows_filled flags n k skip count out = tab (8 * count) (window_entry flags n k skip) ++ drop (8 * count) out

-- the running state: eight lane counts, and the step
pub record Running : Type 0 where
  pub counts : List ℕ
  pub at : ℕ

-- step 0 with zero counts
abbrev pub at_zero : Running
at_zero = record { counts = replicate 8 0; at = 0 }

-- the sum of a lane's count and its entering flag
abbrev pub summed : List ℕ → ℕ → Running → ℕ → ℕ
summed flags n s l = get_or s.counts l 0 + lane_char flags n 0 s.at l

-- the flag k − 1 positions back
abbrev pub leaving : List ℕ → ℕ → ℕ → Running → ℕ → ℕ
leaving flags n k s l = lane_char flags n (k - 1) s.at l

-- a lane below l passes the test
abbrev pub any_lane : ℕ → (ℕ → Bool) → Bool
any_lane zero f = false
any_lane (suc l) f = any_lane l f || f l

-- a count above k − 1, or a sum below the flag to take off
abbrev pub bad_state : List ℕ → ℕ → ℕ → Running → Test
bad_state flags n k s = (any_lane 8 (λ l. ltb (k - 1) (get_or s.counts l 0) || ltb (summed flags n s l) (leaving flags n k s l)), BadStream)

-- one step answers whether each sum is above 0, and takes off what leaves
unfoldable pub step_answers : List ℕ → ℕ → Running → List ℕ
step_answers flags n s = tab 8 (λ l. pick (ltb 0 (summed flags n s l)) 0xffff_ffff 0)

unfoldable pub step_state : List ℕ → ℕ → ℕ → Running → Running
step_state flags n k s = record { counts = tab 8 (λ l. summed flags n s l - leaving flags n k s l); at = s.at + 1 }

-- ---- the calls on a view of bytes bs, offset o and length len

-- windows have width 1 and factor 1
abbrev pub shape_tests : ℕ → ℕ → List Test
shape_tests c k = bad_shape c 1 ∷ bad_window k ∷ []

abbrev pub window_tests : List ℕ → ℕ → ℕ → ℕ → ℕ → List Test
window_tests bs o len c k = view_tests 1 (length bs) o len ++ shape_tests c k

-- filling n steps of windows from `skip` on
abbrev pub skip_tests : ℕ → ℕ → ℕ → ℕ → List Test
skip_tests n c k skip = bad_skip n skip ∷ partial n c k skip ∷ []

-- filling windows over so many flags, into a buffer of m entries, whose room is judged last
abbrev pub fill_tests : ℕ → ℕ → ℕ → ℕ → ℕ → List Test
fill_tests len c k skip m = shape_tests c k ++ skip_tests (steps 1 len c 1) c k skip ++ no_room m (8 * (steps 1 len c 1 - skip)) ∷ []

unfoldable pub windows_outcome : List ℕ → ℕ → ℕ → ℕ → ℕ → ℕ → ℕ → Outcome
windows_outcome bs o len c k skip m = first (view_tests 1 (length bs) o len ++ fill_tests len c k skip m)

unfoldable pub windows_answer : List ℕ → ℕ → ℕ → ℕ → ℕ → ℕ → ℕ → Answer (ℕ × ℕ)
unfolding windows_outcome
windows_answer bs o len c k skip m = answer (windows_outcome bs o len c k skip m) (steps 1 len c 1 - skip, padding 1 len c 1) (0, 0)

unfoldable pub windows_after : List ℕ → ℕ → ℕ → ℕ → ℕ → ℕ → List ℕ → List ℕ
unfolding windows_outcome
windows_after bs o len c k skip out =
    if_done (windows_outcome bs o len c k skip (length out)) (windows_filled (chars 1 bs o len) (lane 1 len c 1) k skip (steps 1 len c 1 - skip) out) out

-- one step over flags, so many
abbrev pub run_tests : List ℕ → ℕ → ℕ → ℕ → Running → List Test
run_tests flags len c k s = shape_tests c k ++ bad_step (steps 1 len c 1) s.at ∷ bad_state flags (lane 1 len c 1) k s ∷ []

unfoldable pub run_outcome : List ℕ → ℕ → ℕ → ℕ → ℕ → Running → Outcome
run_outcome bs o len c k s = first (view_tests 1 (length bs) o len ++ run_tests (chars 1 bs o len) len c k s)

-- refused, zero answers, zero counts and step 0
unfoldable pub run_answers : List ℕ → ℕ → ℕ → ℕ → ℕ → Running → List ℕ
unfolding run_outcome
run_answers bs o len c k s = if_done (run_outcome bs o len c k s) (step_answers (chars 1 bs o len) (lane 1 len c 1) s) (replicate 8 0)

unfoldable pub run_state : List ℕ → ℕ → ℕ → ℕ → ℕ → Running → Running
unfolding run_outcome
run_state bs o len c k s = if_done (run_outcome bs o len c k s) (step_state (chars 1 bs o len) (lane 1 len c 1) k s) at_zero

-- the state after j steps from step 0 with zero counts
unfoldable pub ran : List ℕ → ℕ → ℕ → ℕ → ℕ → ℕ → Running
ran bs o len c k zero = at_zero
ran bs o len c k (suc j) = run_state bs o len c k (ran bs o len c k j)
