-- The laws of numbers in groups of seven bits: spelling and reading are each other's inverse, and one turn of the loop that spells.
-- Assumes nothing.
use Rattle.std.specs.Prelude.{Option, Some, None}
use mathlib.Core.List.{List, [], ◌∷◌, ◌++◌}
use mathlib.Core.Path.{◌≡◌, refl, sym, ap, ap₂, ◌∙◌, subst}
use Prim.Native.Nat.{ℕ, zero, suc, ◌+◌, ◌-◌, ◌*◌, ◌/◌, ◌%◌, ◌^◌, ◌≤◌, ◌<◌, zero-le, suc-le-suc}
use native.Mathlib.Nat.{mul-suc, lt_of_lt_of_le, le-add_left, mul-le-mul_left, le_trans}
use native.Mathlib.Decide.{ℕ_discrete}
use native.Mathlib.Numerals.{add-one}
use native.Mathlib.Omega.{arith}
use lib.Arith.{digits_lt}
use lib.ListN.{length, get_or, take, drop, set, length-drop, drop_of_length-le}
use lib.Pow.{pow_mono, shr_lt}
use lib.Seq.{drop-cons}
use borrow.Author.Tests.{lt-ltb, le-ltb, eq-eqb, ne_eqb}
use Rattle.codes.specs.Made.{Made}
use Rattle.codes.proofs.MadeLaws.{made_more, made_list}
use Rattle.codes.proofs.WidthLaws.{below_or}
use Rattle.codes.proofs.WordLaws.{Below, Below-drop, pow_step}
use Rattle.forms.specs.Numbers.{Spelling, spelt, spelling, further, led, Fits}

-- ---- one byte of a number

pub led-last : (b : ℕ) (o : Option Spelling) → b < 128 → led b o ≡ Some (record { value = b; size = 1 })
led-last b o h = rw (lt-ltb b 128 h)

pub led_on : (b : ℕ) (o : Option Spelling) → 128 ≤ b → led b o ≡ further b o
led_on b o h = rw (le-ltb b 128 h)

pub further-zero : (b : ℕ) (s : Spelling) → s.value ≡ 0 → further b (Some s) ≡ None
further-zero b s e = rw (eq-eqb s.value 0 e)

pub further-some : (b : ℕ) (s : Spelling) → (s.value ≡ 0 → ⊥) → further b (Some s) ≡ Some (record { value = s.value * 128 + (b - 128); size = suc s.size })
further-some b s n = rw (ne_eqb s.value 0 n)

pub spelt-last : (k n : ℕ) → n < 128 → spelt (suc k) n ≡ n ∷ []
unfolding spelt
spelt-last k n h = rw (lt-ltb n 128 h)

pub spelt-on : (k n : ℕ) → 128 ≤ n → spelt (suc k) n ≡ (n % 128 + 128) ∷ spelt k (n / 128)
unfolding spelt
spelt-on k n h = rw (le-ltb n 128 h)

-- by the last byte, or a byte before others: where what follows is no number, is 0, or is another number
led-cases {ℓ} : (P : Option Spelling → Type ℓ) (b : ℕ) (o : Option Spelling) → (b < 128 → P (Some (record { value = b; size = 1 }))) → P None
    → ((s : Spelling) → o ≡ Some s → 128 ≤ b → (s.value ≡ 0 → ⊥) → P (Some (record { value = s.value * 128 + (b - 128); size = suc s.size }))) → P (led b o)
led-cases P b None last bad more = below_or b 128 (λ h. subst P (sym (led-last b None h)) (last h)) (λ h. subst P (sym (led_on b None h)) bad)
led-cases P b (Some s) last bad more =
    below_or b 128 (λ h. subst P (sym (led-last b (Some s) h)) (last h))
    (λ h. subst P (sym (led_on b (Some s) h))
    (elim (ℕ_discrete s.value 0) [
      | yes e ↦ subst P (sym (further-zero b s e)) bad
      | no n ↦ subst P (sym (further-some b s n)) (more s refl h n)
    ]))

-- ---- how large a number can be, and how long

led-fits : (k b : ℕ) (o : Option Spelling) → b < 256 → Fits k o → Fits (suc k) (led b o)
led-fits k b o hb f =
    led-cases (Fits (suc k)) b o (λ h. (lt_of_lt_of_le h (subst (λ (x : ℕ). 128 ≤ 2 ^ x) (sym (mul-suc 7 k)) (pow_mono (le-add_left 7 (7 * k)))), suc-le-suc zero-le)) tt
    (λ s e h n. let g = subst (Fits k) e f in (subst (λ (x : ℕ). s.value * 128 + (b - 128) < x) (sym (pow_step 7 k)) (digits_lt g.0 (omega arith)), suc-le-suc g.1))

pub spelling-fits : (k : ℕ) (bs : List ℕ) → Below 8 bs → Fits k (spelling k bs)
unfolding spelling
spelling-fits zero bs h = tt
spelling-fits (suc k) [] h = tt
spelling-fits (suc k) (b ∷ bs) h = led-fits k b (spelling k bs) h.0 (spelling-fits k bs h.1)

-- the number that stands from the i-th of five bytes on
pub spelling-past : (k : ℕ) (bs : List ℕ) (i : ℕ) → length bs ≤ i → spelling k (drop i bs) ≡ None
unfolding spelling
spelling-past k bs i h = ap (spelling k) (drop_of_length-le bs h) ∙ none_of k
  where
    none_of : (k : ℕ) → spelling k [] ≡ None
    none_of zero = refl
    none_of (suc k) = refl

pub spelling-step : (bs : List ℕ) (i : ℕ) → 0 < i → i ≤ 5 → i - 1 < length bs → spelling (5 - (i - 1)) (drop (i - 1) bs) ≡ led (get_or bs (i - 1) 0) (spelling (5 - i) (drop i bs))
unfolding spelling
spelling-step bs i p h l =
    ap₂ spelling more (drop-cons bs (i - 1) 0 l) ∙ ap (λ (j : ℕ). led (get_or bs (i - 1) 0) (spelling (5 - i) (drop j bs))) back
  where
    more : 5 - (i - 1) ≡ suc (5 - i)
    more = omega arith

    back : suc (i - 1) ≡ i
    back = omega arith

pub Below-take : (w i : ℕ) (bs : List ℕ) → Below w bs → Below w (take i bs)
Below-take w zero bs h = tt
Below-take w (suc i) [] h = tt
Below-take w (suc i) (b ∷ bs) h = (h.0, Below-take w i bs h.1)

pub spelling-small : (i : ℕ) (bs : List ℕ) → Below 8 bs → Fits 8 (spelling (5 - i) (drop i bs))
spelling-small i bs h = Fits-mono (5 - i) (spelling (5 - i) (drop i bs)) (omega arith) (spelling-fits (5 - i) (drop i bs) (Below-drop 8 i bs h))
  where
    Fits-mono : (k : ℕ) (o : Option Spelling) → k ≤ 8 → Fits k o → Fits 8 o
    Fits-mono k None l f = tt
    Fits-mono k (Some s) l f = (lt_of_lt_of_le f.0 (pow_mono (mul-le-mul_left 7 l)), le_trans f.1 l)

pub spelt-below : (k n : ℕ) → Below 8 (spelt k n)
unfolding spelt
spelt-below zero n = tt
spelt-below (suc k) n = below_or n 128 (λ h. subst (Below 8) (sym (spelt-last k n h)) (omega arith, tt)) (λ h. subst (Below 8) (sym (spelt-on k n h)) (omega arith, spelt-below k (n / 128)))

pub length-spelt : (k n : ℕ) → length (spelt k n) ≤ k
unfolding spelt
length-spelt zero n = zero-le
length-spelt (suc k) n = below_or n 128 (λ h. rw (spelt-last k n h) (suc-le-suc zero-le)) (λ h. rw (spelt-on k n h) (suc-le-suc (length-spelt k (n / 128))))

pub length-spelt_pos : (k n : ℕ) → 0 < length (spelt (suc k) n)
length-spelt_pos k n = below_or n 128 (λ h. rw (spelt-last k n h) (suc-le-suc zero-le)) (λ h. rw (spelt-on k n h) (suc-le-suc zero-le))

pub length-spelt_last : (k n : ℕ) → n < 128 → length (spelt (suc k) n) ≡ 1
length-spelt_last k n h = ap length (spelt-last k n h)

pub length-spelt_on : (k n m : ℕ) → 128 ≤ n → length (spelt k (n / 128)) ≡ m → length (spelt (suc k) n) ≡ suc m
length-spelt_on k n m h e = ap length (spelt-on k n h) ∙ ap suc e

-- ---- spelling and reading are each other's inverse

-- what was spelt is read, whatever stands behind it
pub spelling-spelt : (k n : ℕ) (rest : List ℕ) → n < 2 ^ (7 * suc k) → spelling (suc k) (spelt (suc k) n ++ rest) ≡ Some (record { value = n; size = length (spelt (suc k) n) })
unfolding spelling
spelling-spelt zero n rest h = let l : n < 128 = h in rw (spelt-last 0 n l, led-last n None l)
spelling-spelt (suc k) n rest h =
    below_or n 128 (λ l. rw (spelt-last (suc k) n l, led-last n (spelling (suc k) rest) l))
    (λ l. rw (spelt-on (suc k) n l)
    (ap (led (n % 128 + 128)) (spelling-spelt k (n / 128) rest (shr_lt (7 * suc k) 7 (subst (λ (x : ℕ). n < 2 ^ x) (mul-suc 7 (suc k)) h)))
    ∙ led_on (n % 128 + 128) (Some (record { value = n / 128; size = length (spelt (suc k) (n / 128)) })) (omega arith)
    ∙ further-some (n % 128 + 128) (record { value = n / 128; size = length (spelt (suc k) (n / 128)) }) (λ e. omega arith)
    ∙ ap (λ (x : ℕ). Some (record { value = x; size = suc (length (spelt (suc k) (n / 128))) })) (omega arith)))

-- what was read is spelt so: no number has two spellings
abbrev Spells : ℕ → List ℕ → Option Spelling → Type 0
Spells k bs None = Unit {0}
Spells k bs (Some s) = (spelt k s.value ≡ take s.size bs) × (s.size ≤ length bs)

spells_all : (k : ℕ) (bs : List ℕ) → Below 8 bs → Spells k bs (spelling k bs)
unfolding spelling
spells_all zero bs h = tt
spells_all (suc k) [] h = tt
spells_all (suc k) (b ∷ bs) h =
    led-cases (Spells (suc k) (b ∷ bs)) b (spelling k bs) (λ l. (spelt-last k b l, suc-le-suc zero-le)) tt
    (λ s e l n.
    let g = subst (Spells k bs) e (spells_all k bs h.1) in
    let hb : b < 256 = h.0 in (
      spelt-on k (s.value * 128 + (b - 128)) (omega arith)
          ∙ ap₂ (λ (x : ℕ) (l : List ℕ). x ∷ l) (omega arith) (ap (spelt k) (omega arith) ∙ g.0),
      suc-le-suc g.1,
    ))

pub spelt-spelling : (k : ℕ) (bs : List ℕ) (s : Spelling) → Below 8 bs → spelling k bs ≡ Some s → (spelt k s.value ≡ take s.size bs) × (s.size ≤ length bs)
spelt-spelling k bs s h e = subst (Spells k bs) e (spells_all k bs h)

-- ---- one turn of the loop that spells n over old

-- i groups are written, and the others spell `rest`
pub record Spelt (n : ℕ) (old : List ℕ) (i : ℕ) (out : List ℕ) (rest : ℕ) : Type 0 where
  pub few : i < 5
  pub small : rest < 2 ^ (7 * (5 - i))
  pub behind : drop i (spelt 5 n) ≡ spelt (5 - i) rest
  pub done : Made (λ j. get_or (spelt 5 n) j 0) 0 i old out

module _ (n : ℕ) (old : List ℕ) (i : ℕ) (out : List ℕ) (rest : ℕ) (room : length (spelt 5 n) ≤ length old) (t : Spelt n old i out rest) where
  fuel : 5 - i ≡ suc (4 - i)
  fuel = omega (arith, t.few)

  behind_suc : drop i (spelt 5 n) ≡ spelt (suc (4 - i)) rest
  behind_suc = t.behind ∙ ap (λ (k : ℕ). spelt k rest) fuel

  pub spelt-here : i < length (spelt 5 n)
  spelt-here = omega (arith, length-drop i (spelt 5 n), ap length behind_suc, length-spelt_pos (4 - i) rest)

  heads : get_or (spelt 5 n) i 0 ∷ drop (suc i) (spelt 5 n) ≡ spelt (suc (4 - i)) rest
  heads = sym (drop-cons (spelt 5 n) i 0 spelt-here) ∙ behind_suc

  pub spelt-turn : 128 ≤ rest → Spelt n old (i + 1) (set out i (rest % 128 + 128)) (rest / 128)
  spelt-turn h =
      let e : get_or (spelt 5 n) i 0 ∷ drop (suc i) (spelt 5 n) ≡ (rest % 128 + 128) ∷ spelt (4 - i) (rest / 128) = heads ∙ spelt-on (4 - i) rest h in
      let head : rest % 128 + 128 ≡ get_or (spelt 5 n) i 0 = cc in
      let tail : drop (suc i) (spelt 5 n) ≡ spelt (4 - i) (rest / 128) = cc in
      let less : 5 - (i + 1) ≡ 4 - i = omega arith in
      let small : rest < 2 ^ (7 * (4 - i) + 7) = subst (λ (x : ℕ). rest < 2 ^ x) (ap (λ (k : ℕ). 7 * k) fuel ∙ mul-suc 7 (4 - i)) t.small in
      record {
        few = below_or i 4 (λ l. omega arith) (λ l. let z : 4 - i ≡ 0 = omega arith in let q : rest < 128 = subst (λ (x : ℕ). rest < 2 ^ (7 * x + 7)) z small in absurd (omega arith));
        small = subst (λ (x : ℕ). rest / 128 < 2 ^ (7 * x)) (sym less) (shr_lt (7 * (4 - i)) 7 small);
        behind = ap (λ (k : ℕ). drop k (spelt 5 n)) (add-one i) ∙ tail ∙ ap (λ (k : ℕ). spelt k (rest / 128)) (sym less);
        done = made_more t.done (omega arith) (lt_of_lt_of_le spelt-here room) head;
      }

  pub spelt-end : rest < 128 → set out i rest ≡ spelt 5 n ++ drop (length (spelt 5 n)) old
  spelt-end h =
      let e : get_or (spelt 5 n) i 0 ∷ drop (suc i) (spelt 5 n) ≡ rest ∷ [] = heads ∙ spelt-last (4 - i) rest h in
      let head : rest ≡ get_or (spelt 5 n) i 0 = cc in
      let tail : drop (suc i) (spelt 5 n) ≡ [] = cc in
      made_list (spelt 5 n) (made_more t.done (omega arith) (lt_of_lt_of_le spelt-here room) head) (omega (arith, spelt-here, length-drop (suc i) (spelt 5 n), ap length tail)) room
