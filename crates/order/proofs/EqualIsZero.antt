-- Two views are equal exactly where comparing them is done with order 0.
-- Assumes nothing.
use Rattle.std.specs.Prelude.{Ok}
use mathlib.Core.List.{List}
use mathlib.Core.Path.{◌≡◌, sym, ap, ◌∙◌}
use Prim.Native.Nat.{ℕ}
use lib.IntN.{ℤ, pos}
use denote.Param.Laws.{Laws}
use denote.RattleType.{RattleType}
use mir.Syntax.{Dict}
use Rattle.codes.specs.declared.widths.Width.{Ghosts}
use Rattle.codes.specs.Codes.{chars}
use Rattle.codes.specs.Refusals.{Answer, number_of, if_done, Outcome}
use Rattle.codes.proofs.RefusalLaws.{outcome_at, outcome_at_number}
use Rattle.order.specs.Answers.{compared_says}
use Rattle.order.specs.Order.{compare, common, order_number, pair_outcome, pair_order, compared}
use Rattle.order.proofs.AnswerLaws.{order_at, order_back}
use Rattle.order.proofs.OrderLaws.{compare-equal, compare_same}
use Rattle.order.proofs.calls.compare.Reads as compare-call

-- done, with order 0
abbrev pub IsZero : Answer (ℤ × ℕ) → Type 0
IsZero x = (x.no ≡ 0) × (x.values.0 ≡ pos 0)

abbrev pub Exactly : Type 0 → Type 0 → Type 0
Exactly P Q = (P → Q) × (Q → P)

module _ (w : ℕ) (xs : List ℕ) (ao al : ℕ) (bs : List ℕ) (bo bl : ℕ) where
  -- neither view is refused, and their characters are the same
  abbrev pub AreEqual : Type 0
  AreEqual = (pair_outcome w xs ao al bs bo bl ≡ Ok tt) × (chars w xs ao al ≡ chars w bs bo bl)

  abbrev order : Outcome → ℤ
  order q = (if_done {A = ℤ × ℕ} q (order_number (pair_order w xs ao al bs bo bl), common (chars w xs ao al) (chars w bs bo bl)) (pos 0, 0)).0

  -- x is what the contract says of an answer: `compared_says r`, and of the C face `said r (order, common)`
  pub equal_is_zero : (x : Answer (ℤ × ℕ)) → x ≡ compared w xs ao al bs bo bl → Exactly (IsZero x) AreEqual
  unfolding compared
  equal_is_zero x e = (
    λ z.
        let done = sym (outcome_at_number (pair_outcome w xs ao al bs bo bl)) ∙ ap outcome_at (sym (ap (λ (y : Answer (ℤ × ℕ)). y.no) e) ∙ z.0) ∙ outcome_at_number (Ok tt) in
        let zero = sym (ap order done) ∙ sym (ap (λ (y : Answer (ℤ × ℕ)). y.values.0) e) ∙ z.1 in
        (done, compare-equal (chars w xs ao al) (chars w bs bo bl) (order_back _ ∙ ap order_at zero)),
    λ s. (
      ap (λ (y : Answer (ℤ × ℕ)). y.no) e ∙ ap number_of s.0,
      ap (λ (y : Answer (ℤ × ℕ)). y.values.0) e ∙ ap order s.0 ∙ ap (λ (ys : List ℕ). order_number (compare (chars w xs ao al) ys)) (sym s.1) ∙ ap order_number (compare_same (chars w xs ao al)),
    ),
  )

-- at every width W
module _ (T : RattleType) (L : Laws T) (W : Ghosts T.Denot) (D : Dict) where
  -- of the call: a is what they are given, two views as slice, offset and length
  pub call_equal_is_zero : (κs : _) (a : _) (r : _) (s : _) → compare-call.Post T L W D κs a r s
      → let b = a.1.1.1 in Exactly (IsZero (compared_says r)) (AreEqual W.BITS a.0.now a.1.0.0 a.1.1.0.0 b.0.now b.1.0.0 b.1.1.0.0)
  call_equal_is_zero κs a r s p = let b = a.1.1.1 in equal_is_zero W.BITS a.0.now a.1.0.0 a.1.1.0.0 b.0.now b.1.0.0 b.1.1.0.0 (compared_says r) p
