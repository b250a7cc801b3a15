-- Bases against their reverse complement: both views are right, and the order that comparing them answers is theirs.
-- Assumes nothing.
use Rattle.std.specs.Prelude.{Ok, Result, IsOk}
use mathlib.Core.List.{List, ◌++◌, map}
use mathlib.Core.Path.{◌≡◌, sym, ap, ap₂, ◌∙◌, subst}
use Prim.Native.Nat.{ℕ, ◌+◌, ◌*◌, ◌/◌, ◌%◌, ◌^◌, ◌≤◌}
use native.Mathlib.Nat.{div-lt_iff_lt-mul}
use native.Mathlib.Omega.{arith}
use borrow.Author.Tests.{le-ltb}
use lib.IntN.{ℤ, pos}
use lib.ListN.{length, get_or, length-map, length-reverse, get_or-append}
use Rattle.codes.specs.Codes.{IsWidth, per, up, trailing, char_at, chars, complement}
use Rattle.codes.specs.Refusals.{answer, if_done, Outcome}
use Rattle.codes.specs.Words.{packed}
use Rattle.codes.specs.declared.refusals.Refusal.{Refusal}
use Rattle.codes.proofs.CharLaws.{length-chars, chars-ext, chars-fit, length-pack, unpacked}
use Rattle.codes.proofs.CodeLaws.{complement-fits}
use Rattle.codes.specs.Widths.{width_2}
use Rattle.codes.proofs.WidthLaws.{per_pos, up-hi}
use Rattle.codes.proofs.WordLaws.{Below, Below-reverse, Below-through}
use Rattle.std.specs.declared.cmp.Ordering.{Ordering}
use Rattle.codes.proofs.RefusalLaws.{says_done, values_of}
use Rattle.order.proofs.AnswerLaws.{order_at, order_back}
use Rattle.order.specs.Answers.{compared_says}
use Rattle.order.specs.Order.{compare, common, order_number, pair_outcome, compared}
use Rattle.fields.specs.Fields.{flipped}
use Rattle.writes.specs.Writes.{flip_outcome, flipped_over}
use Rattle.order.specs.declared.answers.Compared.{Compared}

-- a view of the front of a buffer
chars-front : {w : ℕ} → IsWidth w → (xs ys : List ℕ) (n : ℕ) → n ≤ length xs * per w → chars w (xs ++ ys) 0 n ≡ chars w xs 0 n
unfolding char_at
chars-front {w} W xs ys n h =
    chars-ext w (xs ++ ys) xs 0 0 n
    (λ i l. ap (λ (b : ℕ). b / 2 ^ (w * ((0 + i) % per w)) % 2 ^ w) (get_or-append xs ys 0 ((0 + i) / per w) ((div-lt_iff_lt-mul (per_pos W)).1 (omega arith))))

-- a view reversed, as a view again
module _ {w : ℕ} (W : IsWidth w) (bs : List ℕ) (o n : ℕ) where
  abbrev view : List ℕ
  view = chars w bs o n

  long : length (flipped w view) ≡ n
  long = length-reverse (map (complement w) view) ∙ length-map view (complement w) ∙ length-chars w bs o n

  fits : Below w (flipped w view)
  fits = Below-reverse w (map (complement w) view) (Below-through w (complement w) (complement-fits w) view (chars-fit w bs o n))

  pub packed-long : length (packed w (flipped w view)) ≡ up w n
  unfolding packed
  packed-long = length-pack w (up w (length (flipped w view))) (λ i. get_or (flipped w view) i 0) ∙ ap (up w) long

  pub flipped-chars : (other : List ℕ) → chars w (flipped_over w bs o n other) 0 n ≡ flipped w view
  unfolding flipped_over
  flipped-chars other =
      chars-front W (packed w (flipped w view)) _ n (subst (λ (k : ℕ). n ≤ k * per w) (sym packed-long) (up-hi W n))
      ∙ ap (chars w (packed w (flipped w view)) 0) (sym long)
      ∙ unpacked W (flipped w view) fits

module _ (bs other : List ℕ) (n : ℕ) (h : n ≤ 16384) (lb : length bs ≡ 4144) (lo : length other ≡ 4144) where
  abbrev cs : List ℕ
  cs = chars 2 bs 0 n

  flip_done : flip_outcome 2 bs 0 n other ≡ Ok tt
  unfolding flip_outcome
  flip_done =
      rw (le-ltb (2 ^ 28) (length bs) (omega arith), le-ltb (length bs * 4) (0 + n + trailing * 4) (omega arith), le-ltb (length other) (up 2 n + trailing) (omega arith))

  pair_done : (other' : List ℕ) → length other' ≡ length other → pair_outcome 2 bs 0 n other' 0 n ≡ Ok tt
  pair_done other' l =
      rw (
        le-ltb (2 ^ 28) (length bs) (omega arith),
        le-ltb (2 ^ 28) (length other') (omega arith),
        le-ltb (length bs * 4) (0 + n + trailing * 4) (omega arith),
        le-ltb (length other' * 4) (0 + n + trailing * 4) (omega arith),
      )

  -- z is the offset, m the length
  module _ (o : Outcome) (other' : List ℕ) (z m : ℕ) (ez : z ≡ 0) (em : m ≡ n) (e : o ≡ flip_outcome 2 bs z m other) (w : other' ≡ if_done o (flipped_over 2 bs z m other) other) where
    pub flip-passed : o ≡ Ok tt
    flip-passed = e ∙ ap₂ (λ (a b : ℕ). flip_outcome 2 bs a b other) ez em ∙ flip_done

    pub flip-left : other' ≡ flipped_over 2 bs 0 n other
    flip-left =
        w ∙ ap₂ (λ (a b : ℕ). if_done o (flipped_over 2 bs a b other) other) ez em ∙ ap (λ (x : Outcome). if_done x (flipped_over 2 bs 0 n other) other) flip-passed

    pub strand-order : (r : Result Compared Refusal) → length other' ≡ length other → compared_says r ≡ compared 2 bs z m other' z m
        → compared_says r ≡ answer (Ok tt) (order_number (compare cs (flipped 2 cs)), common cs (flipped 2 cs)) (pos 0, 0)
    unfolding compared
    strand-order r l s =
        s
        ∙ ap₂ (λ (a b : ℕ). compared 2 bs a b other' a b) ez em
        ∙ ap₂ (λ (x : Outcome) (y : List ℕ). answer x (order_number (compare cs y), common cs y) (pos 0, 0)) (pair_done other' l)
        (ap (λ (x : List ℕ). chars 2 x 0 n) flip-left ∙ flipped-chars width_2 bs 0 n other)

-- where comparing answers an order, it is done, and the order is that one
module _ (r : Result Compared Refusal) (o : Ordering) (n : ℕ) (e : compared_says r ≡ answer (Ok tt) (order_number o, n) (pos 0, 0)) where
  pub is_done : IsOk r
  is_done = says_done (λ c. (order_number c.order, c.common.0)) (pos 0, 0) (order_number o, n) r e

  pub is_order : (c : Compared) → r ≡ Ok c → c.order ≡ o
  is_order c f =
      let v = values_of (ap compared_says (sym f) ∙ e) in
      order_back c.order ∙ ap (λ (x : ℤ × ℕ). order_at x.0) v ∙ sym (order_back o)
