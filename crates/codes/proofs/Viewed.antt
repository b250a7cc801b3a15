-- Only the characters of a view count: what is made of an accepted view's outcome, its length and its characters is the same of two accepted
-- views with equal characters.
-- Assumes nothing.
use Rattle.std.specs.Prelude.{Ok}
use mathlib.Core.Bool.{false}
use mathlib.Core.List.{List, ◌++◌}
use mathlib.Core.Path.{◌≡◌, sym, ◌∙◌}
use Prim.Native.Nat.{ℕ, ◌+◌, ◌*◌, ◌^◌}
use lib.Dec.{ltb}
use lib.ListN.{length}
use Rattle.codes.specs.Codes.{per, chars, trailing}
use Rattle.codes.specs.Refusals.{Test, view_tests, first, Outcome}
use Rattle.codes.proofs.CharLaws.{same_length}
use Rattle.codes.proofs.OutcomeLaws.{passed, first_done}

-- neither test of an accepted view of n bytes holds
pub view_passed : (w n o len : ℕ) → first (view_tests w n o len) ≡ Ok tt → (ltb (2 ^ 28) n ≡ false) × (ltb (n * per w) (o + len + trailing * per w) ≡ false)
view_passed w n o len e =
    let p = passed (ltb (2 ^ 28) n) _ _ e in
    (p.0, (passed (ltb (n * per w) (o + len + trailing * per w)) _ _ p.1).0)

-- two accepted views of width w with equal characters
pub record Same (w : ℕ) (bs : List ℕ) (o m : ℕ) (cs : List ℕ) (p n : ℕ) : Type 0 where
  pub left : first (view_tests w (length bs) o m) ≡ Ok tt
  pub right : first (view_tests w (length cs) p n) ≡ Ok tt
  pub same : chars w bs o m ≡ chars w cs p n

module _ {w : ℕ} {bs : List ℕ} {o m : ℕ} {cs : List ℕ} {p n : ℕ} (s : Same w bs o m cs p n) where
  pub long : m ≡ n
  long = same_length w bs o m cs p n s.same

  -- tests behind the view's own that know the view by its characters
  tests : (ts : ℕ → List ℕ → List Test) → first (view_tests w (length bs) o m ++ ts m (chars w bs o m)) ≡ first (view_tests w (length cs) p n ++ ts n (chars w cs p n))
  tests ts =
      first_done (view_tests w (length bs) o m) (ts m (chars w bs o m)) s.left
      ∙ (λ i. first (ts (long i) (s.same i)))
      ∙ sym (first_done (view_tests w (length cs) p n) (ts n (chars w cs p n)) s.right)

  pub viewed : {A : Type 0} (ts : ℕ → List ℕ → List Test) (f : Outcome → ℕ → List ℕ → A)
      → f (first (view_tests w (length bs) o m ++ ts m (chars w bs o m))) m (chars w bs o m)
      ≡ f (first (view_tests w (length cs) p n ++ ts n (chars w cs p n))) n (chars w cs p n)
  viewed ts f = λ i. f (tests ts i) (long i) (s.same i)
