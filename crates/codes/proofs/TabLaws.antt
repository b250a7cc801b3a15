-- The laws of tabulated lists, and of words as tables of characters.
-- Assumes nothing.
use mathlib.Core.List.{List, [], ◌∷◌, ◌++◌}
use mathlib.Core.Path.{◌≡◌, refl, sym, ap, ap₂, ◌∙◌}
use Prim.Native.Nat.{ℕ, zero, suc, ◌+◌, ◌*◌, ◌/◌, ◌%◌, ◌^◌, ◌<◌, zero-le, suc-le-suc}
use native.Mathlib.Nat.{add-zero, zero-add, suc-add, zero-mul, mul-zero, div-one, le_of_suc-le-suc, not-suc-le-zero, zero-div, zero-mod}
use lib.ListN.{length, get_or}
use lib.Pow.{pow_pos, low, high}
use Rattle.codes.specs.Codes.{tab}
use Rattle.codes.specs.Words.{word, chars_of}
use Rattle.codes.proofs.WordLaws.{Below, word-append, shr_step}

pub length-tab : (n : ℕ) (f : ℕ → ℕ) → length (tab n f) ≡ n
unfolding tab
length-tab zero f = refl
length-tab (suc n) f = ap suc (length-tab n (λ i. f (suc i)))

pub get_or-tab : (n : ℕ) (f : ℕ → ℕ) (i : ℕ) → i < n → get_or (tab n f) i 0 ≡ f i
unfolding tab
get_or-tab zero f i h = absurd (not-suc-le-zero h)
get_or-tab (suc n) f zero h = refl
get_or-tab (suc n) f (suc i) h = get_or-tab n (λ i. f (suc i)) i (le_of_suc-le-suc h)

-- a rule at each of n places, by one test that is computed
pub tab-at : (n : ℕ) (f g : ℕ → ℕ) → tab n f ≡ tab n g → (i : ℕ) → i < n → f i ≡ g i
tab-at n f g e i h = sym (get_or-tab n f i h) ∙ ap (λ (l : List ℕ). get_or l i 0) e ∙ get_or-tab n g i h

pub tab-ext : (n : ℕ) (f g : ℕ → ℕ) → ((i : ℕ) → i < n → f i ≡ g i) → tab n f ≡ tab n g
unfolding tab
tab-ext zero f g h = refl
tab-ext (suc n) f g h = ap₂ (λ (a : ℕ) (l : List ℕ). a ∷ l) (h 0 (suc-le-suc zero-le)) (tab-ext n (λ i. f (suc i)) (λ i. g (suc i)) (λ i l. h (suc i) (suc-le-suc l)))

pub tab-append : (m n : ℕ) (f : ℕ → ℕ) → tab (m + n) f ≡ tab m f ++ tab n (λ i. f (m + i))
unfolding tab
tab-append zero n f = rw zero-add (tab-ext n f (λ i. f (0 + i)) (λ i h. ap f (sym (zero-add i))))
tab-append (suc m) n f =
    rw suc-add
    (ap (λ (l : List ℕ). f 0 ∷ l)
    (tab-append m n g ∙ ap (λ (l : List ℕ). tab m g ++ l) (tab-ext n (λ i. g (m + i)) (λ i. f (suc m + i)) (λ i h. ap f (sym (suc-add m i))))))
  where
    g : ℕ → ℕ
    g i = f (suc i)

-- each element is below 2 ^ w
pub Below-tab : (w n : ℕ) (f : ℕ → ℕ) → ((i : ℕ) → f i < 2 ^ w) → Below w (tab n f)
unfolding tab
Below-tab w zero f h = tt
Below-tab w (suc n) f h = (h 0, Below-tab w n (λ i. f (suc i)) (λ i. h (suc i)))

pub Below-of : (w : ℕ) (s : List ℕ) → ((i : ℕ) → get_or s i 0 < 2 ^ w) → Below w s
Below-of w [] h = tt
Below-of w (c ∷ s) h = (h 0, Below-of w s (λ i. h (suc i)))

pub Below-get_or : (w : ℕ) (s : List ℕ) → Below w s → (i : ℕ) → get_or s i 0 < 2 ^ w
Below-get_or w [] h i = pow_pos w
Below-get_or w (c ∷ s) h zero = h.0
Below-get_or w (c ∷ s) h (suc i) = Below-get_or w s h.1 i

-- character j of a word
pub word_at : (w : ℕ) (s : List ℕ) → Below w s → (j : ℕ) → word w s / 2 ^ (w * j) % 2 ^ w ≡ get_or s j 0
unfolding word
word_at w [] h j = rw (zero-div, zero-mod)
word_at w (c ∷ s) h zero = rw (mul-zero, div-one) (low (word w s) w h.0)
word_at w (c ∷ s) h (suc j) = rw (← shr_step w j (word w s * 2 ^ w + c), high (word w s) w h.0) (word_at w s h.1 j)

-- the characters of a word, by their places
pub chars_of-tab : (w k x : ℕ) → chars_of w k x ≡ tab k (λ i. x / 2 ^ (w * i) % 2 ^ w)
unfolding chars_of tab
chars_of-tab w zero x = refl
chars_of-tab w (suc k) x =
    ap₂ (λ (a : ℕ) (l : List ℕ). a ∷ l) (sym (rw (mul-zero, div-one)))
    (chars_of-tab w k (x / 2 ^ w) ∙ tab-ext k (λ i. x / 2 ^ w / 2 ^ (w * i) % 2 ^ w) (λ i. x / 2 ^ (w * suc i) % 2 ^ w) (λ i h. ap (λ (y : ℕ). y % 2 ^ w) (shr_step w i x)))

-- one character more on top
pub word-tab_step : (w n : ℕ) (f : ℕ → ℕ) → word w (tab (n + 1) f) ≡ f n * 2 ^ (w * n) + word w (tab n f)
unfolding tab word
word-tab_step w n f =
    ap (word w) (tab-append n 1 f)
    ∙ word-append w (tab n f) (f (n + 0) ∷ [])
    ∙ ap₂ (λ (a e : ℕ). a * 2 ^ (w * e) + word w (tab n f)) (rw (zero-mul, zero-add, add-zero)) (length-tab n f)
