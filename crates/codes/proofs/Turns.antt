-- One turn of the loop that unpacks a word; and a list that is written over another in parts, from the front or into a part that is lent.
-- Assumes nothing.
use mathlib.Core.Path.{◌≡◌, sym, ap, ap₂, ◌∙◌}
use mathlib.Core.List.{List, [], ◌∷◌, ◌++◌, map, map-append, append-nil, append_assoc}
use Prim.Native.Nat.{ℕ, suc, ◌+◌, ◌-◌, ◌*◌, ◌/◌, ◌%◌, ◌^◌, ◌≤◌, ◌<◌}
use native.Mathlib.Nat.{mul-suc, le_of_eq}
use native.Mathlib.Numerals.{add-one}
use lib.Seq.{drop-cons, set_at, append_snoc, take_at, drop_at, take_all, drop-drop}
use lib.ListN.{length, get_or, take, drop, set, drop_of_length-le, length-drop, length-map}
use lib.Pow.{shr-shr}
use Rattle.codes.specs.Words.{chars_of}
use Rattle.codes.proofs.WordLaws.{chars_of-snoc, length-chars_of}

-- one turn of a loop that writes the characters of x, each through f, from the front of a list
pub record Unpacked (w : ℕ) (f : ℕ → ℕ) (x : ℕ) (old : List ℕ) (i : ℕ) (out : List ℕ) (rest : ℕ) : Type 0 where
  pub rest_is : rest / 2 ^ w ≡ x / 2 ^ (w * (i + 1))
  pub out_is : set out i (f (rest % 2 ^ w)) ≡ map f (chars_of w (i + 1) x) ++ drop (i + 1) old

pub unpack_turn : (w : ℕ) (f : ℕ → ℕ) (x : ℕ) (old : List ℕ) (i : ℕ) (out : List ℕ) (rest : ℕ) → i < length old → rest ≡ x / 2 ^ (w * i)
    → out ≡ map f (chars_of w i x) ++ drop i old → Unpacked w f x old i out rest
unpack_turn w f x old i out rest l er eo = record { rest_is = rw (er, add-one i) (shr-shr x (w * i) w ∙ ap (λ (e : ℕ). x / 2 ^ e) (sym (mul-suc w i))); out_is = is }
  where
    done : List ℕ
    done = map f (chars_of w i x)

    a : ℕ
    a = f (x / 2 ^ (w * i) % 2 ^ w)

    is : set out i (f (rest % 2 ^ w)) ≡ map f (chars_of w (i + 1) x) ++ drop (i + 1) old
    is =
        ap₂ (λ (p : List ℕ) (r : ℕ). set p i (f (r % 2 ^ w))) (eo ∙ ap (λ (p : List ℕ). done ++ p) (drop-cons old i 0 l)) er
        ∙ set_at done (get_or old i 0) (drop (suc i) old) a i (length-map (chars_of w i x) f ∙ length-chars_of w i x)
        ∙ sym (append_snoc done a (drop (suc i) old))
        ∙ ap₂ (λ (p q : List ℕ). p ++ q) (sym (ap (map f) (chars_of-snoc w i x) ∙ map-append f (chars_of w i x) (x / 2 ^ (w * i) % 2 ^ w ∷ []))) (ap (λ (k : ℕ). drop k old) (sym (add-one i)))

-- a is written at the front of old, and then b behind it
pub put_on : (i k : ℕ) (a b old out out' : List ℕ) → length a ≡ i → out ≡ a ++ drop i old → out' ≡ take i out ++ (b ++ drop (i + k) out) → out' ≡ (a ++ b) ++ drop (i + k) old
put_on i k a b old out out' l e e' =
    e'
    ∙ ap₂ (λ (p q : List ℕ). p ++ (b ++ q)) (ap (take i) e ∙ take_at a (drop i old) i l) rest
    ∙ sym (append_assoc a b (drop (i + k) old))
  where
    rest : drop (i + k) out ≡ drop (i + k) old
    rest = sym (drop-drop k i out) ∙ ap (λ (l : List ℕ). drop k (drop i l)) e ∙ ap (drop k) (drop_at a (drop i old) i l) ∙ drop-drop k i old

-- b is written at the front of a part that was lent from n on and is back
pub lent-on : (n m : ℕ) (b old r : List ℕ) → r ≡ b ++ drop m (take (length old - n) (drop n old))
    → take n old ++ (r ++ drop (length old - n) (drop n old)) ≡ take n old ++ (b ++ drop (n + m) old)
lent-on n m b old r e =
    ap (λ (l : List ℕ). take n old ++ l)
    (ap₂ (λ (p q : List ℕ). p ++ q) (e ∙ ap (λ (l : List ℕ). b ++ l) part) (drop_of_length-le (drop n old) short) ∙ append-nil (b ++ drop (n + m) old))
  where
    short : length (drop n old) ≤ length old - n
    short = le_of_eq (length-drop n old)

    part : drop m (take (length old - n) (drop n old)) ≡ drop (n + m) old
    part = ap (drop m) (take_all (length old - n) (drop n old) short) ∙ drop-drop m n old

-- a is written at the front of old; b is then written at the front of the rest, which was lent from n on and is back
pub written_on : (n m : ℕ) (a b old l r : List ℕ) → length a ≡ n → l ≡ a ++ drop n old → r ≡ b ++ drop m (take (length l - n) (drop n l))
    → take n l ++ (r ++ drop (length l - n) (drop n l)) ≡ (a ++ b) ++ drop (n + m) old
written_on n m a b old l r ea el er = put_on n m a b old l _ ea el (lent-on n m b l r er)
