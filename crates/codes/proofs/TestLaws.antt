-- Tests in a row, one by one.
-- Assumes nothing.
use Rattle.std.specs.Prelude.{Ok, Err}
use mathlib.Core.Bool.{true, false}
use mathlib.Core.List.{List, [], ◌∷◌, ◌++◌}
use mathlib.Core.Path.{◌≡◌, refl, sym, ◌∙◌}
use Prim.Native.Nat.{ℕ, zero, suc}
use native.Mathlib.Omega.{arith}
use lib.ListN.{take, drop}
use Rattle.codes.specs.Refusals.{Test, answer, first, Outcome}
use Rattle.codes.specs.declared.refusals.Refusal.{Refusal}
use Rattle.codes.proofs.OutcomeLaws.{answer_refused, first_done}

-- k tests do not hold, and the next one does, if there is one
abbrev pub Stops : ℕ → List Test → Type 0
Stops k [] = Unit {0}
Stops zero (t ∷ ts) = t.0 ≡ true
Stops (suc k) (t ∷ ts) = (t.0 ≡ false) × Stops k ts

-- its refusal
abbrev pub refused_at : ℕ → List Test → Outcome
refused_at k [] = (Ok tt)
refused_at zero (t ∷ ts) = Err t.1
refused_at (suc k) (t ∷ ts) = refused_at k ts

pub first_at : (k : ℕ) (ts : List Test) → Stops k ts → refused_at k ts ≡ first ts
first_at k [] h = refl
first_at zero ((b, r) ∷ ts) h = rw h
first_at (suc k) ((b, r) ∷ ts) h = rw h.0 (first_at k ts h.1)

-- and where others stand before them, none of which holds
pub first_behind : (ts us : List Test) → first ts ≡ Ok tt → (k : ℕ) → Stops k us → refused_at k us ≡ first (ts ++ us)
first_behind ts us e k h = first_at k us h ∙ sym (first_done ts us e)

pub answer_at : {A : Type 0} (k : ℕ) (ts : List Test) (r : Refusal) (v z : A) → refused_at k ts ≡ Err r → Stops k ts → answer (Err r) z z ≡ answer (first ts) v z
answer_at k ts r v z e h = answer_refused (first ts) r v z (sym (first_at k ts h) ∙ e)

-- none holds
abbrev pub None : List Test → Type 0
None [] = Unit {0}
None (t ∷ ts) = (t.0 ≡ false) × None ts

-- the others decide where the first k do not hold
pub first_past : (k : ℕ) (ts : List Test) → None (take k ts) → first (drop k ts) ≡ first ts
first_past zero ts h = refl
first_past (suc k) [] h = refl
first_past (suc k) ((b, r) ∷ ts) h = rw h.0 (first_past k ts h.1)

pub first_none : (ts : List Test) → first ts ≡ Ok tt → None ts
first_none [] e = tt
first_none ((true, r) ∷ ts) e = let z : ◌≡◌ {A = ℕ} 0 1 = cc in absurd (omega arith)
first_none ((false, r) ∷ ts) e = (refl, first_none ts e)
