-- Which of two views comes first, and its part by that choice.
-- Assumes nothing.
use Rattle.std.specs.Prelude.{Result, Ok, Err, IsErrAnd}
use Rattle.std.proofs.lemmas.Result.{err_from_is_err_and}
use Rattle.std.specs.Ordering.{is_gt}
use Rattle.std.specs.declared.cmp.Ordering.{Ordering}
use Rattle.std.specs.declared.cmp.Ordering.TheVariants.{Less, Equal, Greater}
use mathlib.Core.Bool.{Bool, true, false}
use mathlib.Core.List.{List}
use lib.IntN.{ℤ, pos}
use mathlib.Core.Path.{◌≡◌, refl, sym, ap, ◌∙◌, subst}
use Prim.Native.Nat.{ℕ, ◌%◌}
use Rattle.codes.specs.Answers.{says_by}
use Rattle.codes.specs.Codes.{per, pick, chars}
use Rattle.codes.specs.Refusals.{answer, if_done, giving, Outcome}
use Rattle.codes.specs.declared.refusals.Refusal.{Refusal}
use Rattle.codes.proofs.RefusalLaws.{answer-outcome, values_of, says_giving}
use Rattle.fields.specs.Answers.{numbers_say}
use Rattle.fields.specs.Spans.{Span, front, normal_part}
use Rattle.fields.specs.declared.inner.parts.Numbers.{Numbers}
use Rattle.views.specs.Answers.{part_says}
use Rattle.views.specs.Views.{lent, empty, normal}
use Rattle.views.specs.declared.view.Part.{Part}
use Rattle.views.proofs.PartLaws.{part_if}
use Rattle.order.specs.Answers.{compared_says}
use Rattle.order.specs.Order.{order_number, common, compared, pair_outcome, pair_order, is_second, choice, chosen, numbers_in}
use Rattle.order.specs.declared.answers.Compared.{Compared}
use Rattle.order.proofs.AnswerLaws.{order_at, order_back}

gt_second : (o : Ordering) → is_gt o ≡ is_second o
gt_second Less = refl
gt_second Equal = refl
gt_second Greater = refl

-- which of two views comes first, by what comparing them answers
module _ (w : ℕ) (xs : List ℕ) (ao al : ℕ) (bs : List ℕ) (bo bl : ℕ) where
  abbrev tests : Outcome
  tests = pair_outcome w xs ao al bs bo bl

  abbrev order : Ordering
  order = pair_order w xs ao al bs bo bl

  abbrev same : ℕ
  same = common (chars w xs ao al) (chars w bs bo bl)

  pub choice-compared : (c : Compared) (b : Bool) → compared_says (Ok c) ≡ compared w xs ao al bs bo bl → b ≡ is_gt c.order → Ok b ≡ choice w xs ao al bs bo bl
  unfolding compared
  choice-compared c b e eb =
      let done = answer-outcome (Ok tt) tests (order_number c.order, c.common.0) (order_number order, same) (pos 0, 0) (pos 0, 0) e in
      let values = values_of e ∙ sym (ap (λ (p : Outcome). if_done p (order_number order, same) (pos 0, 0)) done) in
      let ordered = order_back c.order ∙ ap (λ (v : ℤ × ℕ). order_at v.0) values ∙ sym (order_back order) in
      ap Ok (eb ∙ gt_second c.order ∙ ap is_second ordered) ∙ ap (λ (p : Outcome). giving p (is_second order)) done

  pub choice-refused : (r : Refusal) (x : Result Bool Refusal) → compared_says (Err r) ≡ compared w xs ao al bs bo bl → IsErrAnd x (λ y. y ≡ r) → x ≡ choice w xs ao al bs bo bl
  unfolding compared
  choice-refused r x e h =
      let refused = answer-outcome (Err r) tests (pos 0, 0) (order_number order, same) (pos 0, 0) (pos 0, 0) e in
      let p = err_from_is_err_and x h in
      p.1 ∙ ap Err p.2 ∙ ap (λ (q : Outcome). giving q (is_second order)) refused

-- where the choice is known, neither view is refused
pub choice-done : (q : Outcome) (b b' : Bool) → Ok b' ≡ giving q b → q ≡ Ok tt
choice-done (Ok _) b b' e = refl
choice-done (Err r) b b' e = absurd (transport-ok e)
  where
    is_ok_here : Result Bool Refusal → Type 0
    is_ok_here (Ok _) = Unit {0}
    is_ok_here (Err _) = ⊥

    transport-ok : Ok b' ≡ Err r → ⊥
    transport-ok p = subst is_ok_here p tt

module _ (w : ℕ) (s : Span) (ao al : ℕ) (t : Span) (bo bl : ℕ) where
  abbrev outcome : Outcome
  outcome = pair_outcome w s.bytes ao al t.bytes bo bl

  abbrev second : Bool
  second = is_second (pair_order w s.bytes ao al t.bytes bo bl)

  -- the bytes and the numbers of the part, by whether the second comes first
  abbrev pub span_of_one : Bool → Span
  span_of_one b = pick b (normal_part w t bo bl) (normal_part w s ao al)

  abbrev pub span_by : Result Bool Refusal → Span
  span_by (Ok b) = span_of_one b
  span_by (Err r) = front s

  abbrev pub numbers_of_one : Bool → ℕ × ℕ
  numbers_of_one b = pick b (bo % per w, bl) (ao % per w, al)

  span-by : (q : Outcome) (b : Bool) → span_by (giving q b) ≡ (answer q (pick b (normal w t bo bl) (normal w s ao al)) (empty s)).values.span
  span-by (Ok _) true = refl
  span-by (Ok _) false = refl
  span-by (Err r) b = refl

  numbers-by : (q : Outcome) (b : Bool) → answer q (numbers_of_one b) (0, 0) ≡ numbers_in (answer q (pick b (normal w t bo bl) (normal w s ao al)) (empty s))
  numbers-by (Ok _) true = refl
  numbers-by (Ok _) false = refl
  numbers-by (Err r) b = refl

  module _ (c : Result Bool Refusal) (which : c ≡ choice w s.bytes ao al t.bytes bo bl) where
    pub span-chosen : span_by c ≡ (chosen w s ao al t bo bl).values.span
    unfolding chosen
    span-chosen = ap span_by which ∙ span-by outcome second

    numbers : (n : Result Numbers Refusal) → numbers_say n ≡ says_by numbers_of_one (0, 0) c → numbers_say n ≡ answer outcome (numbers_of_one second) (0, 0)
    numbers n e = e ∙ ap (says_by numbers_of_one (0, 0)) which ∙ says_giving numbers_of_one (0, 0) outcome second

    pub numbers_chosen : (n : Result Numbers Refusal) → numbers_say n ≡ says_by numbers_of_one (0, 0) c → numbers_say n ≡ numbers_in (chosen w s ao al t bo bl)
    unfolding chosen
    numbers_chosen n e = numbers n e ∙ numbers-by outcome second

    -- what a part of the numbers and the bytes says
    pub part-chosen : (n : Result Numbers Refusal) (u : Span) (p : Part) → numbers_say n ≡ says_by numbers_of_one (0, 0) c
        → u ≡ (chosen w s ao al t bo bl).values.span
        → part_says p ≡ says_by (λ x. lent u x.offset.0 x.len.0) (empty s) n → part_says p ≡ chosen w s ao al t bo bl
    unfolding chosen
    part-chosen n u p e eb is =
        let v = numbers_of_one second in
        part_if s u n p is outcome (span_of_one second) v.0 v.1 (numbers n e ∙ ap (λ (x : ℕ × ℕ). answer outcome x (0, 0)) refl) (eb ∙ span-if outcome second)
        ∙ held outcome second
      where
        span-if : (q : Outcome) (b : Bool) → (answer q (pick b (normal w t bo bl) (normal w s ao al)) (empty s)).values.span ≡ if_done q (span_of_one b) (front s)
        span-if (Ok _) true = refl
        span-if (Ok _) false = refl
        span-if (Err r) b = refl

        held : (q : Outcome) (b : Bool) → answer q (lent (span_of_one b) (numbers_of_one b).0 (numbers_of_one b).1) (empty s) ≡ answer q (pick b (normal w t bo bl) (normal w s ao al)) (empty s)
        held (Ok _) true = refl
        held (Ok _) false = refl
        held (Err r) b = refl
