-- What a step and a fill answer where the stream's own tests are passed.
-- Assumes nothing.
use Rattle.std.specs.Prelude.{Ok, Err}
use mathlib.Core.List.{List, [], ◌∷◌}
use mathlib.Core.Path.{◌≡◌, sym, ap₂}
use Prim.Native.Nat.{ℕ, ◌*◌, ◌≤◌, ◌<◌}
use borrow.Author.Tests.{lt-ltb, le-ltb, le-leb, lt-leb}
use Rattle.codes.specs.Refusals.{Test, first, no_room}
use Rattle.codes.specs.declared.refusals.Refusal.TheVariants.{BadStream, NoRoom}
use Rattle.codes.specs.declared.units.Chars.{Chars}
use Rattle.codes.proofs.OutcomeLaws.{answer_done, answer_refused}
use Rattle.codes.proofs.TestLaws.{first_behind}
use Rattle.lanes.specs.Lanes.{padding, steps, stream_tests}
use Rattle.lanes.proofs.LaneLaws.{Open, stream_open}
use Rattle.streams.specs.Answers.{filled_says}
use Rattle.streams.specs.Streams.{bad_step, step_outcome, fill_answer, fill_outcome}

-- a stream's tests are passed
pub record Judged (w : ℕ) (bs : List ℕ) (o len c f d e : ℕ) : Type 0 where
  pub is : Ok tt ≡ first (stream_tests w bs o len c f d e)

module _ {w : ℕ} {bs : List ℕ} {o len c f d e : ℕ} (h : Judged w bs o len c f d e) where
  abbrev tests : List Test
  tests = stream_tests w bs o len c f d e

  abbrev n : ℕ
  n = steps w len c f

  abbrev done : first tests ≡ Ok tt
  done = sym h.is

  pub judged_open : Open w bs o len c f d e
  judged_open = stream_open w bs o len c f d e done

  pub step_late : (j : ℕ) → n ≤ j → Err BadStream ≡ step_outcome w bs o len c f d e j
  unfolding step_outcome
  step_late j l = first_behind tests (bad_step n j ∷ []) done 0 (le-leb n j l)

  pub step_within : (j : ℕ) → j < n → (Ok tt) ≡ step_outcome w bs o len c f d e j
  unfolding step_outcome
  step_within j l = first_behind tests (bad_step n j ∷ []) done 1 (lt-leb n j l, tt)

  pub fill_short : (m : ℕ) → m < 8 * n → filled_says (Err NoRoom) ≡ fill_answer w bs o len c f d e (m ∷ [])
  unfolding fill_answer fill_outcome
  fill_short m l = answer_refused _ NoRoom _ (0, 0) (sym (first_behind tests (no_room m (8 * n) ∷ []) done 0 (lt-ltb m (8 * n) l)))

  pub fill_fits : (m s : ℕ) (p : Chars) → 8 * n ≤ m → s ≡ n → p.0 ≡ padding w len c f → filled_says (Ok (record { steps = s; padding = p })) ≡ fill_answer w bs o len c f d e (m ∷ [])
  unfolding fill_answer fill_outcome
  fill_fits m s p l es ep =
      answer_done _ _ _ (0, 0) (sym (first_behind tests (no_room m (8 * n) ∷ []) done 1 (le-ltb m (8 * n) l, tt))) (ap₂ (λ (x y : ℕ). (x, y)) es ep)
