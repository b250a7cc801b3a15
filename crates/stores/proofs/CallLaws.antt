-- The laws of calls: what a call answers and leaves where it is refused and where it is done, and what done says of its tests.
-- Assumes nothing.
use Rattle.std.specs.Prelude.{Result, Ok, Err, IsErrAnd}
use Rattle.std.specs.Result.{MatchResult}
use Rattle.std.proofs.lemmas.Result.{err_from_is_err_and}
use mathlib.Core.Bool.{true, false}
use mathlib.Core.List.{List, [], ◌∷◌, map}
use mathlib.Core.Path.{◌≡◌, refl, sym, ap, ◌∙◌}
use Prim.Native.Nat.{ℕ}
use native.Mathlib.Nat.{add-zero}
use native.Mathlib.Omega.{arith}
use lib.ListN.{length}
use Rattle.codes.specs.Codes.{code}
use Rattle.codes.specs.Refusals.{Test, answer, first, Outcome}
use Rattle.codes.specs.declared.refusals.Refusal.{Refusal}
use Rattle.codes.specs.declared.units.Chars.{Chars}
use Rattle.stores.specs.Answers.{kept_by}
use Rattle.stores.specs.declared.answers.Unchanged.{Unchanged}
use Rattle.stores.specs.Stores.{Call, push_ascii, tests, outcome, deed, span, old_length, buffer_after, answered, after}
use Rattle.runs.specs.Runs.{written}

-- no test holds
abbrev pub Passed : List Test → Type 0
Passed [] = Unit {0}
Passed (t ∷ ts) = (t.0 ≡ false) × Passed ts

pub done_passed : (ts : List Test) → (Ok tt) ≡ first ts → Passed ts
done_passed [] e = tt
done_passed ((true, r) ∷ ts) e = let z : ◌≡◌ {A = ℕ} 0 1 = cc in absurd (omega arith)
done_passed ((false, r) ∷ ts) e = (refl, done_passed ts e)

-- an outcome whose refusal `map_err` made into what stays, and one that it left
pub was_refused : (o : Outcome) (u : Unchanged) {P : Refusal → Type 0} → MatchResult o (λ y. ◌≡◌ {A = Result (Unit {0}) Unchanged} (Err u) (Ok y)) P
    → (r : Refusal) × (o ≡ Err r) × P r
was_refused (Ok tt) u e = let z : ◌≡◌ {A = ℕ} 0 1 = cc in absurd (omega arith)
was_refused (Err r) u e = (r, refl, e)

pub was_done : (o : Outcome) (P : Unit {0} → Type 0) → MatchResult o P (λ e. ⊥) → o ≡ Ok tt
was_done (Ok _) P e = refl
was_done (Err r) P e = absurd e

-- what a result says that passes on what stays
pub passed_on : {A : Type 0} (f : A → ℕ × ℕ × ℕ) (r : Refusal) (u : Unchanged) (k : Chars) (x : Result A Unchanged)
    → u ≡ record { refusal = r; len = k } → IsErrAnd x (λ y. y ≡ u) → kept_by f x ≡ answer (Err r) (0, 0, 0) (0, 0, k.0)
passed_on f r u k x e p = let s = err_from_is_err_and x p in ap (kept_by f) (s.1 ∙ ap Err (s.2 ∙ e))

-- what holds of an outcome that is done, and of each that is refused
pub by_outcome : (P : Outcome → Type 0) (o : Outcome) → ((Ok tt) ≡ o → P (Ok tt)) → ((r : Refusal) → Err r ≡ o → P (Err r)) → P o
by_outcome P (Ok tt) d f = d refl
by_outcome P (Err r) d f = f r refl

-- o is the outcome of a call on a store
pub record Judged (w : ℕ) (bs : List ℕ) (len : ℕ) (call : Call) (o : Outcome) : Type 0 where
  pub is : o ≡ outcome w (length bs) len call

module _ {w : ℕ} {bs : List ℕ} {len : ℕ} {call : Call} {o : Outcome} (h : Judged w bs len call o) where
  module _ {r : Refusal} (q : o ≡ Err r) where
    pub refused_says : answer (Err r) (0, 0, 0) (0, 0, old_length len call) ≡ answered w (length bs) len call
    unfolding answered
    refused_says = rw (sym h.is ∙ q)

    pub refused_after : bs ≡ after w bs len call
    unfolding after
    refused_after = rw (sym h.is ∙ q)

    -- a result x that passes on what stays
    pub refused : {A : Type 0} (f : A → ℕ × ℕ × ℕ) (u : Unchanged) (k : Chars) (x : Result A Unchanged)
        → u ≡ record { refusal = r; len = k } → k.0 ≡ old_length len call → IsErrAnd x (λ y. y ≡ u)
        → (kept_by f x ≡ answered w (length bs) len call) × (bs ≡ after w bs len call)
    refused f u k x e l p = (passed_on f r u k x e p ∙ ap (λ (n : ℕ). answer (Err r) (0, 0, 0) (0, 0, n)) l ∙ refused_says, refused_after)

  module _ (q : o ≡ Ok tt) where
    pub done_says : answer (Ok tt) (span w len call) (0, 0, 0) ≡ answered w (length bs) len call
    unfolding answered
    done_says = rw (sym h.is ∙ q)

    pub done_after : buffer_after w bs (deed w len call) ≡ after w bs len call
    unfolding after
    done_after = rw (sym h.is ∙ q)

    pub judged_passed : Passed (tests w (length bs) len call)
    unfolding outcome
    judged_passed = done_passed (tests w (length bs) len call) (sym q ∙ h.is)

-- a push of no letters, and of some
module _ {w : ℕ} {bs : List ℕ} {len : ℕ} {o : Outcome} where
  pub push_none : (ls : List ℕ) → Judged w bs len (push_ascii ls) o → o ≡ Ok tt → length ls ≡ 0
      → (answer (Ok tt) (len, len, len) (0, 0, 0) ≡ answered w (length bs) len (push_ascii ls)) × (bs ≡ after w bs len (push_ascii ls))
  push_none [] h q z = (ap (λ (x : ℕ). answer (Ok tt) (len, x, x) (0, 0, 0)) (sym (add-zero len)) ∙ done_says h q, done_after h q)
  push_none (l ∷ ls) h q z = absurd (omega arith)

  pub push_some : (ls : List ℕ) → Judged w bs len (push_ascii ls) o → o ≡ Ok tt → (length ls ≡ 0 → ⊥)
      → written w bs len (map (code w) ls) ≡ after w bs len (push_ascii ls)
  push_some [] h q z = absurd (z refl)
  push_some (l ∷ ls) h q z = done_after h q
