-- The laws of words, over the width: a word and its characters are each other's inverse, and a flip goes character by character.
-- Assumes nothing.
use mathlib.Core.Path.{◌≡◌, refl, sym, ap, ap₂, ◌∙◌, subst}
use mathlib.Core.List.{List, [], ◌∷◌, ◌++◌, map, reverse, reverse-append, reverse-cons, map-append}
use Prim.Native.Nat.{ℕ, zero, suc, ◌+◌, ◌-◌, ◌*◌, ◌/◌, ◌%◌, ◌^◌, ◌≤◌, ◌<◌}
use native.Mathlib.Nat.{mul-zero, mul-one, mul-suc, mul_assoc, add-mul, add_assoc, add_comm, add-zero, zero-add, suc-add, zero-mul, add-sub_of_le}
use native.Mathlib.Nat.{mod-one, mod-lt, div-one, lt_of_lt_of_le, mul-le-mul_left}
use native.Mathlib.Numerals.{add-one}
use lib.Seq.{length-take-le, take_at}
use lib.ListN.{length, take, drop, take-append-drop, length-reverse, length-map}
use lib.Arith.{digits_lt}
use lib.Pow.{pow_pos, pow_mono, pow-add, high, low, shr-shr, mod-pow-add}
use Rattle.codes.specs.Words.{word, chars_of, flip}

-- each is a character of w bits
abbrev pub Below : ℕ → List ℕ → Type 0
Below w [] = Unit {0}
Below w (c ∷ cs) = (c < 2 ^ w) × Below w cs

-- one character more
pub pow_step : (w k : ℕ) → 2 ^ (w * suc k) ≡ 2 ^ (w * k) * 2 ^ w
pow_step w k = ap (λ (e : ℕ). 2 ^ e) (mul-suc w k) ∙ pow-add 2 (w * k) w

pub length-chars_of : (w k x : ℕ) → length (chars_of w k x) ≡ k
unfolding chars_of
length-chars_of w zero x = refl
length-chars_of w (suc k) x = ap suc (length-chars_of w k (x / 2 ^ w))

-- a shift by one character and by j is one by j + 1
pub shr_step : (w j x : ℕ) → x / 2 ^ w / 2 ^ (w * j) ≡ x / 2 ^ (w * suc j)
shr_step w j x = shr-shr x w (w * j) ∙ ap (λ (e : ℕ). x / 2 ^ e) (add_comm w (w * j) ∙ sym (mul-suc w j))

pub chars_of-add : (w j k x : ℕ) → chars_of w (j + k) x ≡ chars_of w j x ++ chars_of w k (x / 2 ^ (w * j))
unfolding chars_of
chars_of-add w zero k x = simp (zero-add, mul-zero, div-one)
chars_of-add w (suc j) k x = rw (suc-add, chars_of-add w j k (x / 2 ^ w), shr_step w j x)

pub word-append : (w : ℕ) (a b : List ℕ) → word w (a ++ b) ≡ word w b * 2 ^ (w * length a) + word w a
unfolding word
word-append w [] b = simp (mul-zero, mul-one, add-zero)
word-append w (x ∷ a) b = rw (word-append w a b, pow_step w (length a), add-mul, mul_assoc, add_assoc)

pub word_lt : (w : ℕ) (cs : List ℕ) → Below w cs → word w cs < 2 ^ (w * length cs)
unfolding word
word_lt w [] h = pow_pos (w * 0)
word_lt w (c ∷ cs) h = rw (pow_step w (length cs)) (digits_lt (word_lt w cs h.1) h.0)

pub word-chars_of : (w k x : ℕ) → word w (chars_of w k x) ≡ x % 2 ^ (w * k)
unfolding word chars_of
word-chars_of w zero x = simp (mul-zero, mod-one)
word-chars_of w (suc k) x = rw (word-chars_of w k (x / 2 ^ w), mul-suc w k, mod-pow-add x (w * k) w)

pub chars_of-word : (w : ℕ) (cs : List ℕ) → Below w cs → chars_of w (length cs) (word w cs) ≡ cs
unfolding word chars_of
chars_of-word w [] h = refl
chars_of-word w (c ∷ cs) h = rw (low (word w cs) w h.0, high (word w cs) w h.0, chars_of-word w cs h.1)

pub chars_of-fit : (w k x : ℕ) → Below w (chars_of w k x)
unfolding chars_of
chars_of-fit w zero x = tt
chars_of-fit w (suc k) x = (mod-lt x (pow_pos w), chars_of-fit w k (x / 2 ^ w))

-- only the k low characters count
pub chars_of-mod : (w k x : ℕ) → chars_of w k (x % 2 ^ (w * k)) ≡ chars_of w k x
chars_of-mod w k x =
    ap (chars_of w k) (sym (word-chars_of w k x))
    ∙ subst (λ (n : ℕ). chars_of w n (word w (chars_of w k x)) ≡ chars_of w k x) (length-chars_of w k x) (chars_of-word w (chars_of w k x) (chars_of-fit w k x))

pub Below-append : (w : ℕ) (a b : List ℕ) → Below w a → Below w b → Below w (a ++ b)
Below-append w [] b h l = l
Below-append w (x ∷ a) b h l = (h.0, Below-append w a b h.1 l)

pub Below-drop : (w i : ℕ) (bs : List ℕ) → Below w bs → Below w (drop i bs)
Below-drop w zero bs h = h
Below-drop w (suc i) [] h = tt
Below-drop w (suc i) (b ∷ bs) h = Below-drop w i bs h.1

module _ (w : ℕ) (f : ℕ → ℕ) where
  pub flip-add : (j k x : ℕ) → flip w f (j + k) x ≡ flip w f j x * 2 ^ (w * k) + flip w f k (x / 2 ^ (w * j))
  unfolding flip
  flip-add j k x =
      rw (chars_of-add w j k x, map-append f (chars_of w j x) (chars_of w k (x / 2 ^ (w * j))), reverse-append, word-append, length-reverse, length-map, length-chars_of)

  pub flip_one : (x : ℕ) → flip w f 1 x ≡ f (x % 2 ^ w)
  unfolding flip word chars_of
  flip_one x = simp (zero-mul, zero-add)

  -- one character more
  pub flip-step : (k x : ℕ) → flip w f (suc k) x ≡ flip w f k x * 2 ^ w + f (x / 2 ^ (w * k) % 2 ^ w)
  flip-step k x = rw (← add-one k, flip-add k 1 x, mul-one, flip_one (x / 2 ^ (w * k)))

  pub flip-lt : ((c : ℕ) → c < 2 ^ w → f c < 2 ^ w) → (k x : ℕ) → flip w f k x < 2 ^ (w * k)
  unfolding flip word chars_of
  flip-lt h zero x = pow_pos (w * 0)
  flip-lt h (suc k) x =
      rw (flip-step k x, pow_step w k) (digits_lt (flip-lt h k x) (h (x / 2 ^ (w * k) % 2 ^ w) (mod-lt (x / 2 ^ (w * k)) (pow_pos w))))

  -- k characters from k + j
  pub flip-short : ((c : ℕ) → c < 2 ^ w → f c < 2 ^ w) → (k j x : ℕ) → flip w f k x ≡ flip w f (k + j) x / 2 ^ (w * j)
  flip-short h k j x = sym (rw (flip-add k j x) (high (flip w f k x) (w * j) (flip-lt h j (x / 2 ^ (w * k)))))

-- a word of at most n characters of w bits fits w * n bits
pub flip-fits : (w : ℕ) (f : ℕ → ℕ) → ((c : ℕ) → c < 2 ^ w → f c < 2 ^ w) → (k n x : ℕ) → k ≤ n → flip w f k x < 2 ^ (w * n)
flip-fits w f h k n x l = lt_of_lt_of_le (flip-lt w f h k x) (pow_mono (mul-le-mul_left w l))

pub flip-none : (w : ℕ) (f : ℕ → ℕ) (x : ℕ) → flip w f 0 x ≡ 0
unfolding flip word chars_of
flip-none w f x = refl

-- k characters from n, by a shift of s bits
pub flip-from : (w : ℕ) (f : ℕ → ℕ) → ((c : ℕ) → c < 2 ^ w → f c < 2 ^ w) → (n k s x : ℕ) → k ≤ n → s ≡ w * (n - k) → flip w f n x / 2 ^ s ≡ flip w f k x
flip-from w f h n k s x l e = rw e (sym (subst (λ (m : ℕ). flip w f k x ≡ flip w f m x / 2 ^ (w * (n - k))) (add-sub_of_le l) (flip-short w f h k (n - k) x)))

-- bits above the length are ignored
pub flip-mod : (w : ℕ) (f : ℕ → ℕ) (k x : ℕ) → flip w f k (x % 2 ^ (w * k)) ≡ flip w f k x
unfolding flip
flip-mod w f k x = rw (chars_of-mod w k x)

-- a word of two halves
pub flip-pair : (w : ℕ) (f : ℕ → ℕ) (n lo hi : ℕ) → lo < 2 ^ (w * n) → flip w f (n + n) (hi * 2 ^ (w * n) + lo) ≡ flip w f n lo * 2 ^ (w * n) + flip w f n hi
flip-pair w f n lo hi h =
    flip-add w f n n (hi * 2 ^ (w * n) + lo)
    ∙ ap₂ (λ (p q : ℕ). p * 2 ^ (w * n) + q) (sym (flip-mod w f n (hi * 2 ^ (w * n) + lo)) ∙ ap (flip w f n) (low hi (w * n) h)) (ap (flip w f n) (high hi (w * n) h))

pub Below-map : (w : ℕ) (f : ℕ → ℕ) → ((b : ℕ) → f b < 2 ^ w) → (s : List ℕ) → Below w (map f s)
Below-map w f h [] = tt
Below-map w f h (b ∷ s) = (h b, Below-map w f h s)

pub chars_of-snoc : (w k x : ℕ) → chars_of w (k + 1) x ≡ chars_of w k x ++ (x / 2 ^ (w * k) % 2 ^ w ∷ [])
unfolding chars_of
chars_of-snoc w k x = chars_of-add w k 1 x

-- a list's word by the words of its two parts
pub word_cut : (w : ℕ) (f : ℕ → ℕ) (n : ℕ) (s : List ℕ) → n ≤ length s → word w (map f (drop n s)) * 2 ^ (w * n) + word w (map f (take n s)) ≡ word w (map f s)
word_cut w f n s l =
    ap (λ (k : ℕ). word w (map f (drop n s)) * 2 ^ (w * k) + word w (map f (take n s))) (sym (length-map (take n s) f ∙ length-take-le n s l))
    ∙ sym (word-append w (map f (take n s)) (map f (drop n s)))
    ∙ ap (word w) (sym (map-append f (take n s) (drop n s)) ∙ ap (map f) (take-append-drop n s))

-- a word of at most n letters fits w * n bits
pub word_fits : (w : ℕ) (f : ℕ → ℕ) → ((b : ℕ) → f b < 2 ^ w) → (n : ℕ) (s : List ℕ) → length s ≤ n → word w (map f s) < 2 ^ (w * n)
word_fits w f h n s l = lt_of_lt_of_le (word_lt w (map f s) (Below-map w f h s)) (pow_mono (mul-le-mul_left w (simp length-map l)))

-- a word of two halves, character by character
pub chars_of-pair : (w n m lo hi : ℕ) → lo < 2 ^ (w * n) → chars_of w (n + m) (hi * 2 ^ (w * n) + lo) ≡ chars_of w n lo ++ chars_of w m hi
chars_of-pair w n m lo hi h =
    chars_of-add w n m (hi * 2 ^ (w * n) + lo)
    ∙ ap₂ (λ (p q : List ℕ). p ++ q) (sym (chars_of-mod w n (hi * 2 ^ (w * n) + lo)) ∙ ap (chars_of w n) (low hi (w * n) h)) (ap (chars_of w m) (high hi (w * n) h))

-- the flip of a list's word is the word of the list in reverse
pub flip-word : (w : ℕ) (f : ℕ → ℕ) (s : List ℕ) → Below w s → flip w f (length s) (word w s) ≡ word w (reverse (map f s))
unfolding flip
flip-word w f s h = ap (λ (l : List ℕ). word w (reverse (map f l))) (chars_of-word w s h)

pub Below-reverse : (w : ℕ) (s : List ℕ) → Below w s → Below w (reverse s)
Below-reverse w [] h = tt
Below-reverse w (c ∷ s) h = subst (Below w) (sym (reverse-cons c s)) (Below-append w (reverse s) (c ∷ []) (Below-reverse w s h.1) (h.0, tt))

pub Below-through : (w : ℕ) (f : ℕ → ℕ) → ((c : ℕ) → c < 2 ^ w → f c < 2 ^ w) → (s : List ℕ) → Below w s → Below w (map f s)
Below-through w f h [] k = tt
Below-through w f h (c ∷ s) k = (h c k.0, Below-through w f h s k.1)

pub chars_of-take : (w k n x : ℕ) → k ≤ n → take k (chars_of w n x) ≡ chars_of w k x
chars_of-take w k n x l =
    ap (λ (m : ℕ). take k (chars_of w m x)) (sym (add-sub_of_le l))
    ∙ ap (take k) (chars_of-add w k (n - k) x)
    ∙ take_at (chars_of w k x) (chars_of w (n - k) (x / 2 ^ (w * k))) k (length-chars_of w k x)

-- the characters of a low half
pub chars_of-low : (w n k lo hi : ℕ) → k ≤ n → lo < 2 ^ (w * n) → chars_of w k (hi * 2 ^ (w * n) + lo) ≡ chars_of w k lo
chars_of-low w n k lo hi l h =
    sym (chars_of-take w k n (hi * 2 ^ (w * n) + lo) l)
    ∙ ap (take k) (sym (chars_of-mod w n (hi * 2 ^ (w * n) + lo)) ∙ ap (chars_of w n) (low hi (w * n) h))
    ∙ chars_of-take w k n lo l
