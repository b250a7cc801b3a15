-- Decimal digits, made from the last one on.
-- Assumes nothing.
use mathlib.Core.List.{List, [], ◌∷◌, ◌++◌, append_assoc}
use mathlib.Core.Path.{◌≡◌, sym, ap, subst, ◌∙◌}
use Prim.Native.Nat.{ℕ, zero, suc, ◌+◌, ◌-◌, ◌/◌, ◌%◌, ◌^◌, ◌≤◌, ◌<◌}
use native.Mathlib.Omega.{arith}
use borrow.Author.Tests.{lt-ltb, le-ltb}
use lib.ListN.{length, drop, set, length-append, length-set}
use lib.Pow.{pow-add}
use lib.Seq.{drop-cons, get_or-set_same, drop-set-lt}
use Rattle.codes.proofs.WidthLaws.{below_or}
use Rattle.rows.specs.Columns.{decimal_in, decimal}

pub decimal-length : (k n : ℕ) → length (decimal_in k n) ≤ k
unfolding decimal_in
decimal-length zero n = omega arith
decimal-length (suc k) n =
    below_or n 10 (λ h. rw (lt-ltb n 10 h) (omega arith))
    (λ h. rw (le-ltb n 10 h) (omega (arith, length-append (decimal_in k (n / 10)) ((48 + n % 10) ∷ []), decimal-length k (n / 10))))

drop-set : (text : List ℕ) (j v : ℕ) → j < length text → drop j (set text j v) ≡ v ∷ drop (suc j) text
drop-set text j v h =
    drop-cons (set text j v) j 0 (omega (arith, length-set text j v))
    ∙ ap (λ (x : ℕ). x ∷ drop (suc j) (set text j v)) (get_or-set_same text j v 0 h)
    ∙ ap (λ (x : List ℕ). v ∷ x) (drop-set-lt (suc j) text j v (omega arith))

-- the digits of n: those of `rest` in front of place i, then the text's from i on
pub record Spelt (n i rest : ℕ) (text : List ℕ) : Type 0 where
  pub some : 0 < i
  pub few : i ≤ 20
  pub long : length text ≡ 20
  pub small : rest < 10 ^ i
  pub digits : decimal n ≡ decimal_in i rest ++ drop i text

ones : (k n : ℕ) → n < 10 → decimal_in (suc k) n ≡ (48 + n) ∷ []
unfolding decimal_in
ones k n h = rw (lt-ltb n 10 h)

tens : (k n : ℕ) → 10 ≤ n → decimal_in (suc k) n ≡ decimal_in k (n / 10) ++ ((48 + n % 10) ∷ [])
unfolding decimal_in
tens k n h = rw (le-ltb n 10 h)

pub spelt-more : (n i rest : ℕ) (text : List ℕ) → Spelt n i rest text → 9 < rest → Spelt n (i - 1) (rest / 10) (set text (i - 1) (48 + rest % 10))
spelt-more n zero rest text s h = absurd (omega (arith, s.some))
spelt-more n (suc zero) rest text s h = absurd (omega (arith, s.small))
spelt-more n (suc (suc j)) rest text s h =
    subst (λ (k : ℕ). Spelt n k (rest / 10) (set text k (48 + rest % 10))) (sym e) record {
      some = omega arith;
      few = omega (arith, s.few);
      long = length-set text (suc j) _ ∙ s.long;
      small = omega (arith, s.small, pow-add 10 (suc j) 1);
      digits =
          s.digits
          ∙ ap (λ (x : List ℕ). x ++ drop (suc (suc j)) text) (tens (suc j) rest (omega arith))
          ∙ append_assoc (decimal_in (suc j) (rest / 10)) ((48 + rest % 10) ∷ []) (drop (suc (suc j)) text)
          ∙ ap (λ (x : List ℕ). decimal_in (suc j) (rest / 10) ++ x) (sym (drop-set text (suc j) (48 + rest % 10) (omega (arith, s.few, s.long))));
    }
  where
    e : suc (suc j) - 1 ≡ suc j
    e = omega arith

pub spelt-last : (n i rest : ℕ) (text : List ℕ) → Spelt n i rest text → rest < 10 → decimal n ≡ drop (i - 1) (set text (i - 1) (48 + rest))
spelt-last n zero rest text s h = absurd (omega (arith, s.some))
spelt-last n (suc j) rest text s h =
    let e : suc j - 1 ≡ j = omega arith in
    s.digits
    ∙ ap (λ (x : List ℕ). x ++ drop (suc j) text) (ones j rest h)
    ∙ sym (drop-set text j (48 + rest) (omega (arith, s.few, s.long)))
    ∙ ap (λ (k : ℕ). drop k (set text k (48 + rest))) (sym e)
