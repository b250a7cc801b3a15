-- The laws of characters in byte strings, over the width: packing and unpacking are each other's inverse.
-- Assumes nothing.
use mathlib.Core.List.{List, ◌++◌, map, reverse}
use mathlib.Core.Path.{◌≡◌, sym, ap, ap₂, ◌∙◌, subst}
use Prim.Native.Nat.{ℕ, ◌+◌, ◌-◌, ◌*◌, ◌/◌, ◌%◌, ◌^◌, ◌<◌, min}
use native.Mathlib.Nat.{add_assoc, zero-add, mod-lt, mod-eq_of_lt, div-add-mod', div-lt_iff_lt-mul, lt_of_lt_of_le}
use native.Mathlib.Omega.{arith}
use lib.Arith.{digits_lt, digits_div, digits_mod}
use lib.ListN.{length, get_or, take, length-take, length-drop}
use lib.Pow.{pow_pos}
use lib.Seq.{ext_get_or, get_or-take, get_or-drop, slice}
use Rattle.codes.specs.Codes.{per, up, IsWidth, char_at, tab, chars}
use Rattle.codes.specs.Words.{word, flip, pack, packed}
use Rattle.codes.proofs.TabLaws.{length-tab, get_or-tab, tab-ext, tab-append, Below-tab, Below-get_or, word_at, chars_of-tab}
use Rattle.codes.proofs.WidthLaws.{per_pos, up-hi, up-whole}
use Rattle.codes.proofs.WordLaws.{Below, word_lt, word-chars_of, flip-word}

pub length-chars : (w : ℕ) (bs : List ℕ) (o n : ℕ) → length (chars w bs o n) ≡ n
unfolding chars
length-chars w bs o n = length-tab n (λ i. char_at w bs (o + i))

-- equal characters are as many
pub same_length : (w : ℕ) (xs : List ℕ) (p m : ℕ) (bs : List ℕ) (o n : ℕ) → chars w xs p m ≡ chars w bs o n → m ≡ n
same_length w xs p m bs o n e = sym (length-chars w xs p m) ∙ ap length e ∙ length-chars w bs o n

pub get_or-chars : (w : ℕ) (bs : List ℕ) (o n i : ℕ) → i < n → get_or (chars w bs o n) i 0 ≡ char_at w bs (o + i)
unfolding chars
get_or-chars w bs o n i h = get_or-tab n (λ i. char_at w bs (o + i)) i h

pub chars-append : (w : ℕ) (bs : List ℕ) (o m n : ℕ) → chars w bs o (m + n) ≡ chars w bs o m ++ chars w bs (o + m) n
unfolding chars
chars-append w bs o m n =
    tab-append m n (λ i. char_at w bs (o + i))
    ∙ ap (λ (l : List ℕ). tab m (λ i. char_at w bs (o + i)) ++ l) (tab-ext n (λ i. char_at w bs (o + (m + i))) (λ i. char_at w bs (o + m + i)) (λ i h. ap (char_at w bs) (sym (add_assoc o m i))))

-- characters that agree one by one
pub chars-ext : (w : ℕ) (xs bs : List ℕ) (o p n : ℕ) → ((i : ℕ) → i < n → char_at w xs (o + i) ≡ char_at w bs (p + i)) → chars w xs o n ≡ chars w bs p n
unfolding chars
chars-ext w xs bs o p n h = tab-ext n (λ i. char_at w xs (o + i)) (λ i. char_at w bs (p + i)) h

-- a part of characters
pub chars-slice : (w : ℕ) (bs : List ℕ) (o n from to : ℕ) → slice from to (chars w bs o n) ≡ chars w bs (o + from) (min to n - from)
chars-slice w bs o n from to =
    let cs : List ℕ = chars w bs o n in
    let long : length (slice from to cs) ≡ min to n - from = length-drop from (take to cs) ∙ ap (λ (x : ℕ). x - from) (length-take to cs ∙ ap (min to) (length-chars w bs o n)) in
    ext_get_or 0 (slice from to cs) (chars w bs (o + from) (min to n - from)) (long ∙ sym (length-chars w bs (o + from) (min to n - from)))
    (λ i l.
    let h : i < min to n - from = subst (λ (x : ℕ). i < x) long l in
    get_or-drop from (take to cs) i 0
    ∙ get_or-take to cs (from + i) 0 (omega arith)
    ∙ get_or-chars w bs o n (from + i) (omega arith)
    ∙ sym (get_or-chars w bs (o + from) (min to n - from) i h ∙ ap (char_at w bs) (add_assoc o from i)))

pub char_at-lt : (w : ℕ) (bs : List ℕ) (i : ℕ) → char_at w bs i < 2 ^ w
unfolding char_at
char_at-lt w bs i = mod-lt (get_or bs (i / per w) 0 / 2 ^ (w * (i % per w))) (pow_pos w)

pub chars-fit : (w : ℕ) (bs : List ℕ) (o n : ℕ) → Below w (chars w bs o n)
unfolding chars
chars-fit w bs o n = Below-tab w n (λ i. char_at w bs (o + i)) (λ i. char_at-lt w bs (o + i))

-- the flip of their word is the word of them in reverse
pub flip-chars : (w : ℕ) (f : ℕ → ℕ) (bs : List ℕ) (o n : ℕ) → flip w f n (word w (chars w bs o n)) ≡ word w (reverse (map f (chars w bs o n)))
flip-chars w f bs o n =
    subst (λ (k : ℕ). flip w f k (word w (chars w bs o n)) ≡ word w (reverse (map f (chars w bs o n)))) (length-chars w bs o n)
    (flip-word w f (chars w bs o n) (chars-fit w bs o n))

pub length-pack : (w n : ℕ) (f : ℕ → ℕ) → length (pack w n f) ≡ n
unfolding pack
length-pack w n f = length-tab n (λ b. word w (tab (per w) (λ k. f (b * per w + k))))

-- byte b is the word of its characters
pub get_or-pack : (w n : ℕ) (f : ℕ → ℕ) (b : ℕ) → b < n → get_or (pack w n f) b 0 ≡ word w (tab (per w) (λ k. f (b * per w + k)))
unfolding pack
get_or-pack w n f b h = get_or-tab n (λ b. word w (tab (per w) (λ k. f (b * per w + k)))) b h

module _ {w : ℕ} (W : IsWidth w) where
  pub byte_lt : (f : ℕ → ℕ) → ((i : ℕ) → f i < 2 ^ w) → word w (tab (per w) f) < 256
  byte_lt f h =
      subst (λ (e : ℕ). word w (tab (per w) f) < 2 ^ e) (ap (λ (n : ℕ). w * n) (length-tab (per w) f) ∙ W.whole) (word_lt w (tab (per w) f) (Below-tab w (per w) f h))

  -- character k of byte b
  pub char_at-at : (bs : List ℕ) (b k : ℕ) → k < per w → char_at w bs (b * per w + k) ≡ get_or bs b 0 / 2 ^ (w * k) % 2 ^ w
  unfolding char_at
  char_at-at bs b k h = ap₂ (λ (x y : ℕ). get_or bs x 0 / 2 ^ (w * y) % 2 ^ w) (digits_div b h) (digits_mod b h)

  -- a byte is made of its characters
  pub byte_char_at : (bs : List ℕ) (b : ℕ) → get_or bs b 0 < 256 → word w (tab (per w) (λ k. char_at w bs (b * per w + k))) ≡ get_or bs b 0
  byte_char_at bs b h =
      ap (word w) (tab-ext (per w) (λ k. char_at w bs (b * per w + k)) (λ k. get_or bs b 0 / 2 ^ (w * k) % 2 ^ w) (char_at-at bs b) ∙ sym (chars_of-tab w (per w) (get_or bs b 0)))
      ∙ word-chars_of w (per w) (get_or bs b 0)
      ∙ ap (λ (e : ℕ). get_or bs b 0 % 2 ^ e) W.whole
      ∙ mod-eq_of_lt h

  pub pack-ext : (n : ℕ) (f g : ℕ → ℕ) → ((i : ℕ) → i < n * per w → f i ≡ g i) → pack w n f ≡ pack w n g
  unfolding pack
  pack-ext n f g h =
      tab-ext n (λ b. word w (tab (per w) (λ k. f (b * per w + k)))) (λ b. word w (tab (per w) (λ k. g (b * per w + k))))
      (λ b l. ap (word w) (tab-ext (per w) (λ k. f (b * per w + k)) (λ k. g (b * per w + k)) (λ k m. h (b * per w + k) (digits_lt l m))))

  -- a byte string is the packing of its characters
  pub pack-char_at : (bs : List ℕ) → ((b : ℕ) → get_or bs b 0 < 256) → pack w (length bs) (char_at w bs) ≡ bs
  pack-char_at bs h =
      ext_get_or 0 (pack w (length bs) (char_at w bs)) bs (length-pack w (length bs) (char_at w bs))
      (λ i l. get_or-pack w (length bs) (char_at w bs) i (subst (λ (n : ℕ). i < n) (length-pack w (length bs) (char_at w bs)) l) ∙ byte_char_at bs i (h i))

  -- and its characters are those that were packed
  pub char_at-pack : (n : ℕ) (f : ℕ → ℕ) → ((i : ℕ) → f i < 2 ^ w) → (i : ℕ) → i < n * per w → char_at w (pack w n f) i ≡ f i
  unfolding char_at
  char_at-pack n f h i l =
      let b : ℕ = i / per w in
      let k : ℕ = i % per w in
      let km : k < per w = mod-lt i (per_pos W) in
      ap (λ (x : ℕ). x / 2 ^ (w * k) % 2 ^ w) (get_or-pack w n f b ((div-lt_iff_lt-mul (per_pos W)).1 l))
      ∙ word_at w (tab (per w) (λ k. f (b * per w + k))) (Below-tab w (per w) (λ k. f (b * per w + k)) (λ k. h (b * per w + k))) k
      ∙ get_or-tab (per w) (λ k. f (b * per w + k)) k km
      ∙ ap f (div-add-mod' i (per w))

  -- unpacking what was packed
  pub unpacked : (cs : List ℕ) → Below w cs → chars w (packed w cs) 0 (length cs) ≡ cs
  unfolding packed
  unpacked cs h =
      ext_get_or 0 (chars w (packed w cs) 0 (length cs)) cs (length-chars w (packed w cs) 0 (length cs))
      (λ i l.
      let m : i < length cs = subst (λ (n : ℕ). i < n) (length-chars w (packed w cs) 0 (length cs)) l in
      get_or-chars w (packed w cs) 0 (length cs) i m
      ∙ ap (char_at w (packed w cs)) (zero-add i)
      ∙ char_at-pack (up w (length cs)) (λ j. get_or cs j 0) (Below-get_or w cs h) i (lt_of_lt_of_le m (up-hi W (length cs))))

  -- packing what was unpacked, from whole bytes
  pub repacked : (bs : List ℕ) → ((b : ℕ) → get_or bs b 0 < 256) → packed w (chars w bs 0 (length bs * per w)) ≡ bs
  unfolding packed
  repacked bs h =
      ap (λ (n : ℕ). pack w n (λ i. get_or (chars w bs 0 (length bs * per w)) i 0)) (ap (up w) (length-chars w bs 0 (length bs * per w)) ∙ up-whole W (length bs))
      ∙ pack-ext (length bs) (λ i. get_or (chars w bs 0 (length bs * per w)) i 0) (char_at w bs) (λ i l. get_or-chars w bs 0 (length bs * per w) i l ∙ ap (char_at w bs) (zero-add i))
      ∙ pack-char_at bs h
