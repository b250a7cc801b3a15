-- What filling windows answers and leaves in its buffer, by what its first call said.
-- Assumes nothing.
use Rattle.std.specs.Prelude.{Result, Ok, Err}
use mathlib.Core.Bool.{false}
use mathlib.Core.List.{List, [], ◌∷◌, ◌++◌}
use mathlib.Core.Path.{◌≡◌, sym}
use Prim.Native.Nat.{ℕ, ◌-◌, ◌*◌, ◌≤◌}
use lib.ListN.{length}
use borrow.Author.Tests.{ltb-false}
use Rattle.codes.specs.Codes.{chars}
use Rattle.codes.specs.Refusals.{Test, first, no_room}
use Rattle.codes.specs.declared.refusals.Refusal.{Refusal}
use Rattle.codes.proofs.RefusalLaws.{answer-outcome}
use Rattle.codes.proofs.OutcomeLaws.{first_both, gives_done, gives_refused}
use Rattle.codes.proofs.TestLaws.{first_none}
use Rattle.streams.specs.Answers.{filled_says}
use Rattle.lanes.specs.Lanes.{lane, padding, steps}
use Rattle.windows.specs.Windows.{partial, skip_tests, window_tests, windows_filled, windows_outcome, windows_answer, windows_after}
use Rattle.streams.specs.declared.answers.Filled.{Filled}
use Rattle.streams.proofs.OpenLaws.{outcome_of}

-- filling's own tests, behind those of the windows
abbrev pub fills_own : ℕ → ℕ → ℕ → ℕ → ℕ → List Test
fills_own n c k skip m = skip_tests n c k skip ++ no_room m (8 * (n - skip)) ∷ []

module _ (bs : List ℕ) (o len c k skip : ℕ) where
  pub windows_open : (m : ℕ) → windows_outcome bs o len c k skip m ≡ Ok tt
      → (first (window_tests bs o len c k) ≡ Ok tt) × (skip ≤ steps 1 len c 1) × ((partial (steps 1 len c 1) c k skip).0 ≡ false) × (8 * (steps 1 len c 1 - skip) ≤ m)
  unfolding windows_outcome
  windows_open m h =
      let n : ℕ = steps 1 len c 1 in
      let a = first_both (window_tests bs o len c k) (fills_own n c k skip m) h in
      let b = first_none (fills_own n c k skip m) a.1 in
      (a.0, ltb-false n skip b.0, b.1.0, ltb-false m (8 * (n - skip)) b.1.1.0)

  windows_outcome_lem : (m : ℕ) (r : Result Filled Refusal) → filled_says r ≡ windows_answer bs o len c k skip m → outcome_of r ≡ windows_outcome bs o len c k skip m
  unfolding windows_answer
  windows_outcome_lem m (Ok x) h =
      answer-outcome (Ok tt) (windows_outcome bs o len c k skip m) (x.steps, x.padding.0) (steps 1 len c 1 - skip, padding 1 len c 1) (0, 0) (0, 0) h
  windows_outcome_lem m (Err x) h = answer-outcome (Err x) (windows_outcome bs o len c k skip m) (0, 0) (steps 1 len c 1 - skip, padding 1 len c 1) (0, 0) (0, 0) h

  -- refused windows leave the buffer
  pub windows_after_refused : (out : List ℕ) (r : Refusal) → filled_says (Err r) ≡ windows_answer bs o len c k skip (length out) → out ≡ windows_after bs o len c k skip out
  unfolding windows_after
  windows_after_refused out r said = gives_refused _ r _ out (sym (windows_outcome_lem (length out) (Err r) said))

  -- and others fill it
  module _ (out : List ℕ) (x : Filled) (said : filled_says (Ok x) ≡ windows_answer bs o len c k skip (length out)) where
    pub windows_is_done : windows_outcome bs o len c k skip (length out) ≡ Ok tt
    windows_is_done = sym (windows_outcome_lem (length out) (Ok x) said)

    pub windows_after_done : windows_filled (chars 1 bs o len) (lane 1 len c 1) k skip (steps 1 len c 1 - skip) out ≡ windows_after bs o len c k skip out
    unfolding windows_after
    windows_after_done = gives_done _ _ out windows_is_done
