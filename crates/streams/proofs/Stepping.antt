-- Stepping and filling agree: what a step answers is what filling writes at its eight entries, with any delay.
-- Assumes nothing.
use Rattle.std.specs.Prelude.{Ok}
use mathlib.Core.List.{List, [], ◌∷◌, ◌++◌}
use mathlib.Core.Path.{◌≡◌, sym, ap, ap₂, ◌∙◌, subst}
use Prim.Native.Nat.{ℕ, ◌+◌, ◌*◌, ◌/◌, ◌%◌, ◌<◌}
use native.Mathlib.Omega.{arith}
use lib.ListN.{take, drop, replicate, length-append, length-drop, get_or-append}
use lib.Seq.{ext_get_or, get_or-take, get_or-drop, length-take-le}
use borrow.Author.Tests.{lt-leb}
use Rattle.codes.specs.Codes.{tab, chars}
use Rattle.codes.specs.Refusals.{Test, if_done, Outcome}
use Rattle.codes.proofs.TabLaws.{length-tab, get_or-tab, tab-ext}
use Rattle.codes.proofs.OutcomeLaws.{first_both}
use Rattle.codes.proofs.TestLaws.{first_behind}
use Rattle.lanes.specs.Lanes.{lane, steps, lane_char, lanes, filled, stream_tests}
use Rattle.streams.specs.Streams.{bad_step, room_tests, fill_outcome, fill_after, step_outcome, step_lanes}

-- eight entries of a table
pub eight : (f : ℕ → ℕ) (m i : ℕ) (rest : List ℕ) → i < m → tab 8 (λ l. f (8 * i + l)) ≡ take 8 (drop (8 * i) (tab (8 * m) f ++ rest))
eight f m i rest h =
    ext_get_or 0 (tab 8 (λ l. f (8 * i + l))) (take 8 (drop (8 * i) (tab (8 * m) f ++ rest)))
    (length-tab 8 (λ l. f (8 * i + l)) ∙ sym (length-take-le 8 (drop (8 * i) (tab (8 * m) f ++ rest)) (simp (length-drop, length-append, length-tab) (omega arith))))
    (λ l g.
    let k : l < 8 = subst (λ (n : ℕ). l < n) (length-tab 8 (λ l. f (8 * i + l))) g in
    get_or-tab 8 (λ l. f (8 * i + l)) l k
    ∙ sym (get_or-take 8 (drop (8 * i) (tab (8 * m) f ++ rest)) l 0 k
    ∙ get_or-drop (8 * i) (tab (8 * m) f ++ rest) l 0
    ∙ get_or-append (tab (8 * m) f) rest 0 (8 * i + l) (subst (λ (n : ℕ). 8 * i + l < n) (sym (length-tab (8 * m) f)) (omega arith))
    ∙ get_or-tab (8 * m) f (8 * i + l) (omega arith)))

-- the lane and the step of an entry
pub at_step : (i l : ℕ) → l < 8 → (8 * i + l) / 8 ≡ i
at_step i l h = omega arith

pub at_lane : (i l : ℕ) → l < 8 → (8 * i + l) % 8 ≡ l
at_lane i l h = omega arith

-- a step of a stream that filling accepts is not refused, and gives its eight entries, for the plain stream and any delay g
module _ (w : ℕ) (bs : List ℕ) (o len c f d e : ℕ) (ms : List ℕ) (done : fill_outcome w bs o len c f d e ms ≡ Ok tt) (j : ℕ) (h : j < steps w len c f) where
  pub step_accepted : step_outcome w bs o len c f d e j ≡ Ok tt
  unfolding step_outcome fill_outcome
  step_accepted =
      let ts : List Test = stream_tests w bs o len c f d e in
      let n : ℕ = steps w len c f in
      sym (first_behind ts (bad_step n j ∷ []) (first_both ts (room_tests (8 * n) ms) done).0 1 (lt-leb n j h, tt))

  pub stepping : (g : ℕ) (out : List ℕ) → step_lanes w bs o len c f d e j g ≡ take 8 (drop (8 * j) (fill_after w bs o len c f d e ms g out))
  unfolding step_lanes fill_after lanes filled
  stepping g out =
      ap (λ (u : Outcome). if_done u (lanes cs n g j) (replicate 8 0)) step_accepted
      ∙ tab-ext 8 (lane_char cs n g j) (λ l. entry (8 * j + l)) (λ l k. ap₂ (lane_char cs n g) (sym (at_step j l k)) (sym (at_lane j l k)))
      ∙ eight entry (steps w len c f) j (drop (8 * steps w len c f) out) h
      ∙ sym (ap (λ (u : Outcome). take 8 (drop (8 * j) (if_done u (filled cs n g (steps w len c f) out) out))) done)
    where
      cs : List ℕ
      cs = chars w bs o len

      n : ℕ
      n = lane w len c f

      entry : ℕ → ℕ
      entry q = lane_char cs n g (q / 8) (q % 8)
