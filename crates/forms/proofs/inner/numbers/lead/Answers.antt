-- The tests are the definition's, in its order. Assumes nothing.
use Rattle.std.specs.Prelude.{Some}
use mathlib.Core.Path.{◌≡◌, sym, ap, ap₂, ◌∙◌, subst}
use Prim.Native.Nat.{ℕ, ◌+◌, ◌*◌, ◌-◌, ◌^◌, ◌<◌, ◌≤◌}
use native.Mathlib.Numerals.{add-one}
use native.Mathlib.Omega.{arith}
use Rattle.forms.specs.Answers.{spelled_says}
use Rattle.forms.specs.Numbers.{Spelling, led, further, Fits}
use Rattle.forms.proofs.NumberLaws.{led-last, led_on, further-zero, further-some}
use Rattle.forms.proofs.inner.numbers.lead.Goals.{In_ok-behind}
use Rattle.forms.proofs.inner.numbers.lead.Goals as goal

pub returns-then-b-lt128 : goal.returns-then-b-lt128
returns-then-b-lt128 c =
    let e = c.wide-b.ensures in
    ap (λ (x : ℕ). Some (record { value = x; size = 1 })) e ∙ sym (led-last _ (spelled_says c.args.rest) (omega arith))

-- the byte leads another number, which fits
abbrev led_by : In_ok-behind → Spelling
led_by c = record { value = c.in_ok-behind.behind.value; size = c.in_ok-behind.behind.size }

small : (c : In_ok-behind) → ((led_by c).value < 2 ^ 56) × ((led_by c).size ≤ 8)
small c = subst (Fits 8) (ap spelled_says c.in_ok-behind.was) c.requires

on : (c : In_ok-behind) → (let a = c.args in led a.byte (spelled_says a.rest) ≡ further a.byte (Some (led_by c)))
on c =
    let a = c.args in
    led_on a.byte (spelled_says a.rest) (omega (arith, c.wide-b.ensures)) ∙ ap (further a.byte) (ap spelled_says c.in_ok-behind.was)

pub returns-then-behind-eq0 : goal.returns-then-behind-eq0
returns-then-behind-eq0 c = sym (on (goal.at.returns-then-behind-eq0 c).In_ok-behind ∙ further-zero _ _ c.if-behind-eq0.true)

pub overflow_mul-result : goal.overflow_mul-result
overflow_mul-result c = let h = small (goal.at.overflow_mul-result c).In_ok-behind in omega arith

pub overflow_add-result : goal.overflow_add-result
overflow_add-result c = let h = small (goal.at.overflow_add-result c).In_ok-behind in omega (arith, c.wide-b.ensures)

pub overflow_add-result-2 : goal.overflow_add-result-2
overflow_add-result-2 c = let h = small (goal.at.overflow_add-result-2 c).In_ok-behind in omega arith

pub returns-in_err-behind : goal.returns-in_err-behind
returns-in_err-behind c =
    ap spelled_says c.from_residual.ensures
    ∙ sym (led_on _ (spelled_says c.args.rest) (omega (arith, c.wide-b.ensures)) ∙ ap (further c.args.byte) (ap spelled_says c.in_err-behind.was))

pub returns : goal.returns
returns c =
    let v = c.in_ok-behind.behind.value in
    let k = c.in_ok-behind.behind.size in
    ap₂ (λ (x y : ℕ). Some (record { value = v * 128 + (x - 128); size = y })) c.wide-b.ensures (add-one k)
    ∙ sym (on (goal.at.returns c).In_ok-behind ∙ further-some _ _ c.if-behind-eq0.false)
