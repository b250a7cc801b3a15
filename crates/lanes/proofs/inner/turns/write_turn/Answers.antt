-- The first half of each word, and then the second, which begins where the first ends. Assumes nothing.
use mathlib.Core.List.{List}
use mathlib.Core.Path.{◌≡◌, refl, sym, ap, ◌∙◌}
use Prim.Native.Nat.{ℕ, ◌+◌, ◌-◌, ◌*◌, ◌/◌, ◌%◌, ◌^◌, ◌≤◌, ◌<◌, min}
use native.Mathlib.Nat.{mul-zero, mul-add, mul-le-mul_left, mul-div-le, le_trans, min-le_left, min-le_right, le-min}
use native.Mathlib.Omega.{arith}
use lib.ListN.{get_or}
use Rattle.codes.specs.Codes.{IsWidth}
use Rattle.codes.proofs.MadeLaws.{made_as, made-join, made-to}
use Rattle.codes.proofs.WidthLaws.{below_or, whole}
use Rattle.lanes.proofs.TurnLaws.{turned-part}
use Rattle.lanes.proofs.inner.turns.write_turn.Given.{Over}
use Rattle.lanes.proofs.inner.turns.write_turn.Goals.{After-smaller-first}
use Rattle.lanes.proofs.inner.turns.write_turn.Goals as goal

-- the steps of the first half, and those behind it
module _ (g : Over) (c : After-smaller-first g) where
  abbrev w : ℕ
  w = g.W.Width.BITS

  abbrev count : ℕ
  count = c.args.count

  abbrev first : ℕ
  first = c.smaller-first.result

  W : IsWidth w
  W = g.W.Width.divides

  first_is : first ≡ min count (32 / w)
  first_is = c.smaller-first.ensures ∙ ap (min count) c.over_width.ensures

  few : first ≤ count
  few = omega (arith, first_is, min-le_left count (32 / w))

  half : first ≤ 32 / w
  half = omega (arith, first_is, min-le_right count (32 / w))

  fits : w * first ≤ 32
  fits = le_trans (mul-le-mul_left w half) (mul-div-le 32 w)

  -- where there are more, the first half is whole
  more : first < count → 32 ≡ w * first
  more h = sym (ap (λ (k : ℕ). w * k) (below_or first (32 / w) (λ l. absurd (omega (arith, first_is, le-min h l))) (λ l. omega (arith, half))) ∙ whole W 4)

  rest : w * (count - first) ≤ 32
  rest =
      below_or first count
      (λ h.
      let e : first + (count - first) ≡ count = omega arith in
      omega (arith, more h, sym (mul-add w first (count - first)) ∙ ap (λ (k : ℕ). w * k) e, c.requires.0))
      (λ h. let e : count - first ≡ 0 = omega arith in omega (arith, ap (λ (k : ℕ). w * k) e ∙ mul-zero w))

-- the halves of words, by what they are divided by
parts_at : (words part : List ℕ) (m n : ℕ) → ((l : ℕ) → l < 8 → get_or part l 0 ≡ get_or words l 0 / m % 2 ^ 32) → m ≡ n → (l : ℕ) → l < 8
    → get_or part l 0 ≡ get_or words l 0 / n % 2 ^ 32
parts_at words part m n is e l h = is l h ∙ ap (λ (x : ℕ). get_or words l 0 / x % 2 ^ 32) e

pub write_half-requires : goal.write_half-requires
write_half-requires g c = (fits g (goal.at.write_half-requires g c).After-smaller-first, omega (arith, few g (goal.at.write_half-requires g c).After-smaller-first, c.requires.1))

pub write_half-requires-2 : goal.write_half-requires-2
write_half-requires-2 g c = (
  rest g (goal.at.write_half-requires-2 g c).After-smaller-first,
  omega (arith, few g (goal.at.write_half-requires-2 g c).After-smaller-first, c.write_half.ensures.long, c.requires.1),
)

pub returns : goal.returns
returns g c =
    let a = c.args in
    let low = turned-part (W g (goal.at.returns g c).After-smaller-first) a.words c.halves.result 0 (first g (goal.at.returns g c).After-smaller-first) a.e 0 a.e
    (fits g (goal.at.returns g c).After-smaller-first) (sym (mul-zero (w g (goal.at.returns g c).After-smaller-first))) (omega arith) c.halves.ensures in
    made-to
    (made-join (made_as c.write_half.ensures low) c.write_half-2.ensures (omega arith) (omega arith)
    (λ q f l _.
    turned-part (W g (goal.at.returns g c).After-smaller-first) a.words c.halves-2.result (first g (goal.at.returns g c).After-smaller-first)
    (count g (goal.at.returns g c).After-smaller-first - first g (goal.at.returns g c).After-smaller-first) a.e
    (w g (goal.at.returns g c).After-smaller-first * first g (goal.at.returns g c).After-smaller-first) (a.e + 8 * first g (goal.at.returns g c).After-smaller-first)
    (rest g (goal.at.returns g c).After-smaller-first) refl refl
    (parts_at a.words c.halves-2.result _ (2 ^ (w g (goal.at.returns g c).After-smaller-first * first g (goal.at.returns g c).After-smaller-first)) c.halves-2.ensures
    (omega (arith, ap (λ (s : ℕ). 2 ^ s) (more g (goal.at.returns g c).After-smaller-first (omega arith))))) q f l))
    (omega (arith, few g (goal.at.returns g c).After-smaller-first))
