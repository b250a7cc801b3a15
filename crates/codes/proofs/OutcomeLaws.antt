-- What a call answers where the outcome of its tests is known, and what that outcome is.
-- Assumes nothing.
use Rattle.std.specs.Prelude.{Result, Ok, Err, IsErrAnd}
use Rattle.std.proofs.lemmas.Result.{err_from_is_err_and}
use mathlib.Core.Bool.{Bool, true, false, ◌||◌}
use mathlib.Core.List.{List, [], ◌∷◌, ◌++◌}
use mathlib.Core.Path.{◌≡◌, refl, sym, ap, ap₂, ◌∙◌}
use Prim.Native.Nat.{ℕ, ◌≤◌, ◌<◌}
use native.Mathlib.Omega.{arith}
use borrow.Author.Tests.{lt-ltb, le-ltb}
use Rattle.codes.specs.Answers.{says_by}
use Rattle.codes.specs.Codes.{pick}
use Rattle.codes.specs.Refusals.{Test, answer, first, no_room, if_done, Outcome}
use Rattle.codes.specs.declared.refusals.Refusal.{Refusal}
use Rattle.codes.specs.declared.refusals.Refusal.TheVariants.{NoRoom}
use Rattle.codes.proofs.RefusalLaws.{and_then, first_append}

-- an answer whose outcome is known
pub answer_refused : {A : Type 0} (o : Outcome) (r : Refusal) (v z : A) → o ≡ Err r → answer (Err r) z z ≡ answer o v z
answer_refused o r v z e = sym (ap (λ (p : Outcome). answer p v z) e)

pub answer_done : {A : Type 0} (o : Outcome) (v v' z : A) → o ≡ Ok tt → v ≡ v' → answer (Ok tt) v z ≡ answer o v' z
answer_done o v v' z e q = ap (λ (x : _). answer (Ok tt) x z) q ∙ sym (ap (λ (p : Outcome). answer p v' z) e)

-- what a call gives where its outcome is known
pub gives_done : {A : Type 0} (o : Outcome) (x z : A) → o ≡ Ok tt → x ≡ if_done o x z
gives_done o x z e = sym (ap (λ (p : Outcome). if_done p x z) e)

pub gives_refused : {A : Type 0} (o : Outcome) (r : Refusal) (x z : A) → o ≡ Err r → z ≡ if_done o x z
gives_refused o r x z e = sym (ap (λ (p : Outcome). if_done p x z) e)

-- a test that is passed, and those behind it
pub passed : (t : Bool) (r : Refusal) (o : Outcome) → pick t (Err r) o ≡ Ok tt → (t ≡ false) × (o ≡ Ok tt)
passed true r o e = let z : ◌≡◌ {A = ℕ} 0 1 = cc in absurd (omega arith)
passed false r o e = (refl, e)

-- a test that holds decides, and one that does not leaves it to the rest
pub first_holds : (b : Bool) (r : Refusal) (ts : List Test) → b ≡ true → first ((b, r) ∷ ts) ≡ Err r
first_holds b r ts e = ap (λ (t : Bool). pick t (Err r) (first ts)) e

pub first_next : (b : Bool) (r : Refusal) (ts : List Test) → b ≡ false → first ((b, r) ∷ ts) ≡ first ts
first_next b r ts e = ap (λ (t : Bool). pick t (Err r) (first ts)) e

-- tests in a row, where the outcome of the first ones is known
pub first_refused : (ts us : List Test) (r : Refusal) → first ts ≡ Err r → first (ts ++ us) ≡ Err r
first_refused ts us r e = first_append ts us ∙ ap (λ (o : Outcome). and_then o (first us)) e

pub first_done : (ts us : List Test) → first ts ≡ Ok tt → first (ts ++ us) ≡ first us
first_done ts us e = first_append ts us ∙ ap (λ (o : Outcome). and_then o (first us)) e

-- what `?` passes on: a refusal of the first tests in a row is the refusal of them all
pub passes : {A : Type 0} (ts us : List Test) (r : Refusal) (x : Result A Refusal) → Err r ≡ first ts → IsErrAnd x (λ y. y ≡ r) → (x ≡ Err r) × (first (ts ++ us) ≡ Err r)
passes ts us r x e h = let p = err_from_is_err_and x h in (p.1 ∙ ap Err p.2, first_refused ts us r (sym e))

-- and an answer that only passes it on
pub answer_passed : {A V : Type 0} (f : A → V) (v z : V) (o : Outcome) (r : Refusal) (x : Result A Refusal) → Err r ≡ o → IsErrAnd x (λ y. y ≡ r) → says_by f z x ≡ answer o v z
answer_passed f v z o r x e h = let p = err_from_is_err_and x h in ap (says_by f z) (p.1 ∙ ap Err p.2) ∙ answer_refused o r v z (sym e)

-- where the first tests in a row are passed, the next one decides
pub next_holds : (ts : List Test) (t : Test) (us : List Test) → Ok tt ≡ first ts → t.0 ≡ true → first (ts ++ t ∷ us) ≡ Err t.1
next_holds ts t us e h = first_done ts (t ∷ us) (sym e) ∙ first_holds t.0 t.1 us h

pub next_passed : (ts : List Test) (t : Test) (us : List Test) → Ok tt ≡ first ts → t.0 ≡ false → first (ts ++ t ∷ us) ≡ first us
next_passed ts t us e h = first_done ts (t ∷ us) (sym e) ∙ first_next t.0 t.1 us h

-- where tests in a row all fail, the first ones do and the others do
pub first_both : (ts us : List Test) → first (ts ++ us) ≡ Ok tt → (first ts ≡ Ok tt) × (first us ≡ Ok tt)
first_both ts us e = both (first ts) (first us) (sym (first_append ts us) ∙ e)
  where
    both : (o p : Outcome) → and_then o p ≡ Ok tt → (o ≡ Ok tt) × (p ≡ Ok tt)
    both (Ok tt) p e = (refl, e)
    both (Err r) p e = let z : ◌≡◌ {A = ℕ} 0 1 = cc in absurd (omega arith)

pub or_true : (b : Bool) → (b || true) ≡ true
or_true true = refl
or_true false = refl

-- whether an output buffer of n bytes has room
pub room_short : (n needed : ℕ) → n < needed → Err NoRoom ≡ first (no_room n needed ∷ [])
room_short n needed h = rw (lt-ltb n needed h)

pub room_right : (n needed : ℕ) → needed ≤ n → (Ok tt) ≡ first (no_room n needed ∷ [])
room_right n needed h = rw (le-ltb n needed h)
