-- What is found where a test holds: something, else nothing; and what that tells of the test.
-- Assumes nothing.
use Rattle.std.specs.Prelude.{Option, Some, None, is_some, option_map, Result, Ok, Err, ok_or, IsErrAnd}
use Rattle.std.proofs.lemmas.Result.{err_from_is_err_and}
use mathlib.Core.Bool.{Bool, true, false, ◌&&◌}
use mathlib.Core.Path.{◌≡◌, refl, sym, ap, ◌∙◌}
use Prim.Native.Nat.{ℕ, ◌≤◌, ◌<◌}
use borrow.Author.Tests.{le-leb, lt-leb}
use lib.Dec.{leb}
use native.Mathlib.Omega.{arith}
use Rattle.codes.specs.Codes.{pick}
use Rattle.codes.specs.declared.refusals.Refusal.{Refusal}

pub and_false : (t : Bool) → (t && false) ≡ false
and_false true = refl
and_false false = refl

pub and_and : (r s t : Bool) → (r && (s && t)) ≡ ((r && s) && t)
and_and true s t = refl
and_and false s t = refl

pub found_none : {A : Type 0} (t : Bool) (x : A) → t ≡ false → None ≡ pick t (Some x) None
found_none t x e = sym (ap (λ (b : Bool). pick b (Some x) None) e)

pub found_some : {A : Type 0} (t : Bool) (x y : A) → t ≡ true → y ≡ x → Some y ≡ pick t (Some x) None
found_some t x y e f = ap Some f ∙ sym (ap (λ (b : Bool). pick b (Some x) None) e)

-- what ends at a, in a file of n bytes
pub found-cut : {A : Type 0} (a n : ℕ) (x : A) → n < a → None ≡ pick (leb a n) (Some x) None
found-cut a n x h = found_none (leb a n) x (lt-leb a n h)

pub found-whole : {A : Type 0} (a n : ℕ) (x y : A) → a ≤ n → y ≡ x → Some y ≡ pick (leb a n) (Some x) None
found-whole a n x y h e = found_some (leb a n) x y (le-leb a n h) e

abbrev value_or : {A : Type 0} → A → Option A → A
value_or x None = x
value_or x (Some y) = y

-- nothing was found, so the test does not hold
pub none_test : {A : Type 0} (t : Bool) (x : A) → pick t (Some x) None ≡ None → t ≡ false
none_test true x e = ap is_some e
none_test false x e = refl

-- something was found, so the test holds
pub some_test : {A : Type 0} (t : Bool) (x y : A) → pick t (Some x) None ≡ Some y → t ≡ true
some_test true x y e = refl
some_test false x y e = ap is_some e

-- it is told by whether something was found, whatever is said of it
pub some_iff : {A B : Type 0} (t : Bool) (f : A → B) (x : B) (o : Option A) → option_map f o ≡ pick t (Some x) None → is_some o ≡ t
some_iff true f x None e = ap is_some e
some_iff true f x (Some y) e = refl
some_iff false f x None e = refl
some_iff false f x (Some y) e = ap is_some e

-- and it is what was to be found
pub some_value : {A : Type 0} (t : Bool) (x y : A) → pick t (Some x) None ≡ Some y → y ≡ x
some_value true x y e = sym (ap (value_or x) e)
some_value false x y e = sym (ap (value_or x) e)

abbrev refusal_or : {A : Type 0} → Refusal → Result A Refusal → Refusal
refusal_or e (Ok x) = e
refusal_or e (Err r) = r

-- what `?` passes on where nothing was found: the refusal that stands for it
pub refuses : {A B : Type 0} (o : Option A) (e r : Refusal) (x : Result B Refusal) → Err r ≡ ok_or o e → IsErrAnd x (λ y. y ≡ r) → (o ≡ None) × (x ≡ Err e)
refuses None e r x p h = let q = err_from_is_err_and x h in (refl, q.1 ∙ ap Err (q.2 ∙ ap (refusal_or e) p))
refuses (Some y) e r x p h = let z : ◌≡◌ {A = ℕ} 0 1 = cc in absurd (omega arith)
