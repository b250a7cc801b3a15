-- The laws of refusals: of tests in a row the first that holds decides, and an answer tells its outcome.
-- Assumes nothing.
use Rattle.std.specs.Prelude.{Result, Ok, Err, IsOk}
use Rattle.std.specs.Result.{is_ok}
use mathlib.Core.Bool.{Bool, true, false, ◌&&◌, ◌||◌, true≢false}
use mathlib.Core.List.{List, [], ◌∷◌, ◌++◌}
use mathlib.Core.Path.{◌≡◌, refl, sym, ap, ◌∙◌}
use Prim.Native.Nat.{ℕ, ◌≤◌, zero-le}
use lib.Dec.{ltb}
use lib.ListN.{get_or}
use borrow.Author.Tests.{le-ltb, ltb-false}
use Rattle.codes.specs.Answers.{says_by}
use Rattle.codes.specs.Refusals.{Test, bad_word, Answer, first, number_of, answer, if_done, giving, Outcome}
use Rattle.codes.specs.declared.refusals.Refusal.{Refusal}
use Rattle.codes.specs.declared.refusals.Refusal.TheVariants.{TooLong, BadStore, BadView, BadRange, BadWord, BadLetter, BadForm, BadStream, NoRoom, Partial}

-- no length is below 0
pub ltb-zero : (n : ℕ) → ltb n 0 ≡ false
ltb-zero n = le-ltb n 0 zero-le

-- where one test or another does not hold, neither does
pub neither : (a b : Bool) → (a || b) ≡ false → (a ≡ false) × (b ≡ false)
neither true b e = (e, absurd (true≢false e))
neither false b e = (refl, e)

-- and where one and another hold together, both do
pub both : (a b : Bool) → (a && b) ≡ true → (a ≡ true) × (b ≡ true)
both true b e = (refl, e)
both false b e = absurd (true≢false (sym e))

-- a word's length is in its range where the test does not hold
pub word_in : (least most k : ℕ) → (bad_word least most k).0 ≡ false → (least ≤ k) × (k ≤ most)
word_in least most k e = let n = neither (ltb k least) (ltb most k) e in (ltb-false k least n.0, ltb-false most k n.1)

-- the second outcome counts where the first is done
abbrev pub and_then : Outcome → Outcome → Outcome
and_then (Ok tt) o = o
and_then (Err r) o = Err r

pub first_append : (ts us : List Test) → first (ts ++ us) ≡ and_then (first ts) (first us)
first_append [] us = refl
first_append ((true, r) ∷ ts) us = refl
first_append ((false, r) ∷ ts) us = first_append ts us

outcomes : List Outcome
outcomes =
    Ok tt ∷ Err TooLong ∷ Err BadStore ∷ Err BadView ∷ Err BadRange ∷ Err BadWord ∷ Err BadLetter ∷ Err BadForm ∷ Err BadStream ∷ Err NoRoom ∷ Err Partial ∷ []

-- the outcome of a number
pub outcome_at : ℕ → Outcome
unfolding outcomes
outcome_at n = get_or outcomes n (Ok tt)

pub outcome_at_number : (o : Outcome) → outcome_at (number_of o) ≡ o
unfolding outcome_at outcomes
outcome_at_number (Ok tt) = refl
outcome_at_number (Err TooLong) = refl
outcome_at_number (Err BadStore) = refl
outcome_at_number (Err BadView) = refl
outcome_at_number (Err BadRange) = refl
outcome_at_number (Err BadWord) = refl
outcome_at_number (Err BadLetter) = refl
outcome_at_number (Err BadForm) = refl
outcome_at_number (Err BadStream) = refl
outcome_at_number (Err NoRoom) = refl
outcome_at_number (Err Partial) = refl

-- an answer tells its outcome, and what it gives where it is done
pub answer-outcome : {A : Type 0} (o o' : Outcome) (a a' z z' : A) → answer o a z ≡ answer o' a' z' → o ≡ o'
answer-outcome o o' a a' z z' e = sym (outcome_at_number o) ∙ ap (λ (x : Answer _). outcome_at x.no) e ∙ outcome_at_number o'

pub answer-values : {A : Type 0} (a a' z z' : A) → answer (Ok tt) a z ≡ answer (Ok tt) a' z' → a ≡ a'
answer-values a a' z z' e = ap (λ (x : Answer _). x.values) e

-- an answer that can be made again from what it says
pub record Told {A R : Type 0} (says : R → Answer A) : Type 0 where
  pub make : Outcome → A → R
  pub back : (r : R) → r ≡ make (outcome_at (says r).no) (says r).values

-- what says the same is the same
pub says-once : {A R : Type 0} {says : R → Answer A} → Told says → (r r' : R) → says r ≡ says r' → r ≡ r'
says-once told r r' e = told.back r ∙ ap (λ (x : Answer _). told.make (outcome_at x.no) x.values) e ∙ sym (told.back r')

-- and where what is left in a buffer is the same too, both are
pub leaves_once : {A B R : Type 0} {says : R → Answer A} → Told says → {a : Answer A} {b : B} (r r' : R) {v v' : B}
    → (says r ≡ a) × (v ≡ b) → (says r' ≡ a) × (v' ≡ b) → ◌≡◌ {A = R × B} (r, v) (r', v')
leaves_once told r r' p q = λ i. (says-once told r r' (p.0 ∙ sym q.0) i, (p.1 ∙ sym q.1) i)

-- an answer, by its number and by its values
pub no_of : {A : Type 0} {x y : Answer A} → x ≡ y → x.no ≡ y.no
no_of e = ap (λ (x : Answer _). x.no) e

pub values_of : {A : Type 0} {x y : Answer A} → x ≡ y → x.values ≡ y.values
values_of e = ap (λ (x : Answer _). x.values) e

-- an outcome that stands alone
abbrev pub outcome_says : Outcome → Answer (Unit {0})
outcome_says o = record { no = number_of o; values = tt }

-- where an outcome's number is not 0, what there was stays: of an answer its zeros, of what is lent the old content
pub refused_keeps : {A : Type 0} (o : Outcome) (new old : A) → (number_of o ≡ 0 → ⊥) → if_done o new old ≡ old
refused_keeps (Ok tt) new old h = absurd (h refl)
refused_keeps (Err r) new old h = refl

-- what a result says of its values says the rest of them too
pub says_through : {A V W : Type 0} (f : A → V) (zeros : V) (g : V → W) (zeros' : W) (q : Outcome) (v : V) (r : Result A Refusal)
    → says_by f zeros r ≡ answer q v zeros → says_by (λ x. g (f x)) zeros' r ≡ answer q (g v) zeros'
says_through f zeros g zeros' q v (Ok x) e =
    let o = answer-outcome (Ok tt) q (f x) v zeros zeros e in
    ap (λ y. answer (Ok tt) (g y) zeros') (values_of e ∙ sym (ap (λ (p : Outcome). if_done p v zeros) o)) ∙ ap (λ (p : Outcome). answer p (g v) zeros') o
says_through f zeros g zeros' q v (Err r) e = ap (λ (p : Outcome). answer p (g v) zeros') (answer-outcome (Err r) q zeros v zeros zeros e)

-- what a result says whose value is given where an outcome is done
pub says_giving : {A V : Type 0} (f : A → V) (zeros : V) (q : Outcome) (a : A) → says_by f zeros (giving q a) ≡ answer q (f a) zeros
says_giving f zeros (Ok _) a = refl
says_giving f zeros (Err r) a = refl

-- a result that says it is done is so
pub says_done : {A V : Type 0} (f : A → V) (zeros v : V) (r : Result A Refusal) → says_by f zeros r ≡ answer (Ok tt) v zeros → IsOk r
says_done f zeros v (Ok x) e = refl
says_done f zeros v (Err r) e = ap is_ok (answer-outcome (Err r) (Ok tt) zeros v zeros zeros e)
