-- What it is for something to hold of whatever satisfies a contract, for a contract to permit one outcome only, and to leave all as it was where
-- it is refused. A contract is read as the checker reads it from the source: at lifetimes κs, arguments a, a result, and what stands at exit.
-- Assumes nothing.
use borrow.Fn.Kinds.{Out, ParamKind, ResultKind, Dens, res_t, ended_of}
use contract.Lifetimes.{Lfts}
use denote.Triple.Clauses.{AtExit, Lasts, at_exit}
use mathlib.Core.List.{List}
use mathlib.Core.Path.{◌≡◌}
use Prim.Native.Nat.{ℕ, zero, suc}
use Rattle.codes.specs.Refusals.{Answer}

-- of whatever satisfies a contract a fact holds
abbrev pub Called : (n : ℕ) (ps : List (ParamKind n)) (r : ResultKind n) → Out n ps r
    → ((κs : Lfts n) → Dens κs ps → (res_t r κs).Denot → AtExit (ended_of n ps r) κs → Type 0) → Type 0
Called n ps r Q fact = (κs : Lfts n) (a : Dens κs ps) (x : (res_t r κs).Denot) (s : AtExit (ended_of n ps r) κs) → Q κs a x s → fact κs a x s

-- a contract permits one result
abbrev pub Decided : (n : ℕ) (ps : List (ParamKind n)) (r : ResultKind n) → Out n ps r → Type 0
Decided n ps r Q =
    (κs : Lfts n) (a : Dens κs ps) (x y : (res_t r κs).Denot) (s t : AtExit (ended_of n ps r) κs) → Q κs a x s → Q κs a y t → x ≡ y

-- and one last content of everything that is lent to be written
abbrev pub Once : (n : ℕ) (ps : List (ParamKind n)) (r : ResultKind n) → Out n ps r → Type 0
Once n ps r Q =
    (κs : Lfts n) (a : Dens κs ps) (x y : (res_t r κs).Denot) (v w : Lasts (ended_of n ps r) κs a)
    → Q κs a x (at_exit (ended_of n ps r) κs a v) → Q κs a y (at_exit (ended_of n ps r) κs a w) → ◌≡◌ {A = (res_t r κs).Denot × Lasts (ended_of n ps r) κs a} (x, v) (y, w)

-- and what it permits of a refusal: where the number that is said is not 0, the other values that are said and the last content of everything
-- that is lent to be written are these, of what is given
abbrev pub Refuses : (n : ℕ) (ps : List (ParamKind n)) (r : ResultKind n) → Out n ps r → {A : Type 0} → ((κs : Lfts n) → (res_t r κs).Denot → Answer A)
    → ((κs : Lfts n) (a : Dens κs ps) → A × Lasts (ended_of n ps r) κs a) → Type 0
Refuses n ps r Q {A} says left =
    (κs : Lfts n) (a : Dens κs ps) (x : (res_t r κs).Denot) (v : Lasts (ended_of n ps r) κs a)
    → Q κs a x (at_exit (ended_of n ps r) κs a v) → ((says κs x).no ≡ 0 → ⊥) → ◌≡◌ {A = A × Lasts (ended_of n ps r) κs a} ((says κs x).values, v) (left κs a)

-- the last contents of parameters of which so many in a row are not written
abbrev pub Skipped : ℕ → Type 0 → Type 0
Skipped zero A = A
Skipped (suc n) A = Unit {0} × Skipped n A

abbrev pub skip : (n : ℕ) {A : Type 0} → A → Skipped n A
skip zero a = a
skip (suc n) a = (tt, skip n a)
