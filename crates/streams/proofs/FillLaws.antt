-- What a fill answers and leaves in its buffers, by what its first call answered.
-- Assumes nothing.
use Rattle.std.specs.Prelude.{Result, Ok, Err, IsErrAnd}
use Rattle.std.proofs.lemmas.Result.{err_from_is_err_and}
use mathlib.Core.List.{List, ◌∷◌}
use mathlib.Core.Path.{◌≡◌, sym, ap, ◌∙◌}
use Prim.Native.Nat.{ℕ, ◌*◌, min}
use Rattle.codes.specs.Codes.{chars}
use Rattle.codes.specs.Refusals.{first, answer, Outcome}
use Rattle.codes.specs.declared.refusals.Refusal.{Refusal}
use Rattle.codes.proofs.OutcomeLaws.{gives_done, gives_refused}
use Rattle.streams.specs.Answers.{filled_says}
use Rattle.lanes.specs.Lanes.{lane, padding, steps, filled, stream_tests}
use Rattle.streams.specs.Streams.{fill_outcome, fill_answer, fill_after}
use Rattle.streams.specs.declared.answers.Filled.{Filled}
use Rattle.lanes.proofs.LaneLaws.{stream_plain}
use Rattle.streams.proofs.OpenLaws.{Rooms, fill_open, fill_least, filled-outcome}

-- r is what filling buffers of these lengths answers
pub record Answered (w : ℕ) (bs : List ℕ) (o len c f d e : ℕ) (ms : List ℕ) (r : Result Filled Refusal) : Type 0 where
  pub said : filled_says r ≡ fill_answer w bs o len c f d e ms

-- two buffers, for the lesser of them
pub answered-least : {w : ℕ} {bs : List ℕ} {o len c f d e m : ℕ} {ms : List ℕ} {r : Result Filled Refusal} → Answered w bs o len c f d e (m ∷ ms) r → (a b : ℕ) → m ≡ min a b
    → Answered w bs o len c f d e (a ∷ b ∷ ms) r
unfolding fill_answer
answered-least {w} {bs} {o} {len} {c} {f} {d} {e} {m} {ms} h a b l =
    let same = ap (λ (n : ℕ). fill_outcome w bs o len c f d e (n ∷ ms)) l ∙ fill_least w bs o len c f d e a b ms in
    record { said = h.said ∙ ap (λ (x : Outcome). answer x (steps w len c f, padding w len c f) (0, 0)) same }

module _ {w : ℕ} {bs : List ℕ} {o len c f d e : ℕ} {ms : List ℕ} where
  -- a refused fill leaves its buffers
  module _ {r : Refusal} (h : Answered w bs o len c f d e ms (Err r)) where
    pub refused_says : (x : Result Filled Refusal) → IsErrAnd x (λ y. y ≡ r) → filled_says x ≡ fill_answer w bs o len c f d e ms
    refused_says x p = let s = err_from_is_err_and x p in ap filled_says (s.1 ∙ ap Err s.2) ∙ h.said

    pub refused_keeps : (g : ℕ) (out : List ℕ) → out ≡ fill_after w bs o len c f d e ms g out
    unfolding fill_after
    refused_keeps g out = gives_refused _ r _ out (sym (filled-outcome w bs o len c f d e (Err r) ms h.said))

  -- one that is done fills them: each has room, and stands as filling it leaves it
  module _ {x : Filled} (h : Answered w bs o len c f d e ms (Ok x)) where
    done : fill_outcome w bs o len c f d e ms ≡ Ok tt
    done = sym (filled-outcome w bs o len c f d e (Ok x) ms h.said)

    pub done_ready : (first (stream_tests w bs o len c f 0 0) ≡ Ok tt) × Rooms (8 * steps w len c f) ms
    done_ready =
        let a = fill_open w bs o len c f d e ms done in
        (stream_plain w bs o len c f d e a.0, a.1)

    pub done_fills : (g : ℕ) (out : List ℕ) → filled (chars w bs o len) (lane w len c f) g (steps w len c f) out ≡ fill_after w bs o len c f d e ms g out
    unfolding fill_after
    done_fills g out = gives_done _ _ out done
