-- Words of 32 bases: their pairs of bits one by one, and the bytes of the packed bases that they are.
-- Assumes nothing.
use mathlib.Core.List.{List, [], ◌∷◌, map, reverse}
use mathlib.Core.Path.{◌≡◌, refl, sym, ap, ◌∙◌}
use Prim.Native.Nat.{ℕ, zero, suc, ◌+◌, ◌-◌, ◌*◌, ◌/◌, ◌%◌, ◌^◌, ◌<◌}
use native.Mathlib.Nat.{mod-lt}
use native.Mathlib.Omega.{arith}
use lib.Dec.{eqb, lit<}
use lib.ListN.{get_or}
use lib.Pow.{pow_pos, shr-shr}
use Rattle.codes.specs.Codes.{pick, tab}
use Rattle.codes.specs.Words.{word, chars_of, flip}
use Rattle.codes.proofs.CodeLaws.{pick-lt}
use Rattle.codes.proofs.FieldLaws.{field_of}
use Rattle.codes.proofs.TabLaws.{get_or-tab, tab-ext, Below-tab, Below-get_or, word_at, chars_of-tab}
use Rattle.codes.proofs.WordLaws.{Below-reverse, Below-through, word-chars_of, chars_of-mod, chars_of-fit, flip-lt}
use Rattle.writes.proofs.LetterLaws.{map-tab}
use Rattle.dna.specs.Dna.{exchanged}

exchanged-lt : (c : ℕ) → exchanged c < 4
exchanged-lt c = Below-get_or 2 (2 ∷ 1 ∷ 0 ∷ 3 ∷ []) (lit< tt, (lit< tt, (lit< tt, (lit< tt, tt)))) c

-- ---- pairs of bits

-- pair k behind byte b
pair_at : (v b k : ℕ) → v / 2 ^ (8 * b) / 2 ^ (2 * k) % 4 ≡ v / 2 ^ (2 * (b * 4 + k)) % 4
pair_at v b k = let e : 8 * b + 2 * k ≡ 2 * (b * 4 + k) = omega arith in ap (λ (x : ℕ). x % 4) (shr-shr v (8 * b) (2 * k) ∙ ap (λ (x : ℕ). v / 2 ^ x) e)

-- the pairs of byte b
pairs_at : (v b : ℕ) → chars_of 2 4 (v / 2 ^ (8 * b)) ≡ tab 4 (λ k. v / 2 ^ (2 * (b * 4 + k)) % 4)
pairs_at v b =
    chars_of-tab 2 4 (v / 2 ^ (8 * b)) ∙ tab-ext 4 (λ k. v / 2 ^ (8 * b) / 2 ^ (2 * k) % 2 ^ 2) (λ k. v / 2 ^ (2 * (b * 4 + k)) % 4) (λ k h. pair_at v b k)

-- byte b by its pairs
pub byte_pairs : (v b : ℕ) → v / 2 ^ (8 * b) % 2 ^ 8 ≡ word 2 (tab 4 (λ k. v / 2 ^ (2 * (b * 4 + k)) % 4))
byte_pairs v b = sym (word-chars_of 2 4 (v / 2 ^ (8 * b))) ∙ ap (word 2) (pairs_at v b)

-- byte b in reverse, exchanged
flip-pairs : (v b : ℕ) → flip 2 exchanged 4 (v / 2 ^ (8 * b) % 2 ^ 8) ≡ word 2 (reverse (tab 4 (λ k. exchanged (v / 2 ^ (2 * (b * 4 + k)) % 4))))
unfolding flip
flip-pairs v b =
    ap (λ (l : List ℕ). word 2 (reverse l))
    (ap (map exchanged) (chars_of-mod 2 4 (v / 2 ^ (8 * b)) ∙ pairs_at v b) ∙ map-tab exchanged 4 (λ k. v / 2 ^ (2 * (b * 4 + k)) % 4))

-- a word of 32 pairs
pair_of : (g : ℕ → ℕ) → ((i : ℕ) → g i < 4) → (i : ℕ) → i < 32 → word 2 (tab 32 g) / 2 ^ (2 * i) % 4 ≡ g i
pair_of g h i l = word_at 2 (tab 32 g) (Below-tab 2 32 g h) i ∙ get_or-tab 32 g i l

-- code m under the set flags of f, else the pairs of x
abbrev pub under : ℕ → ℕ → ℕ → ℕ → ℕ
under m x f i = pick (eqb (f / 2 ^ i % 2) 0) (x / 2 ^ (2 * i) % 4) m

-- pair i of such a word
pub under-pair : (m x f r : ℕ) → m < 4 → r ≡ word 2 (tab 32 (under m x f)) → (i : ℕ) → i < 32 → r / 2 ^ (2 * i) % 4 ≡ under m x f i
under-pair m x f r h e i l =
    ap (λ (y : ℕ). y / 2 ^ (2 * i) % 4) e
    ∙ pair_of (under m x f) (λ j. pick-lt (eqb (f / 2 ^ j % 2) 0) (x / 2 ^ (2 * j) % 4) m 4 (mod-lt (x / 2 ^ (2 * j)) (pow_pos 2)) h) i l

-- ---- a word with each byte in reverse, exchanged

module _ (x z : ℕ) (e : z ≡ word 8 (map (flip 2 exchanged 4) (chars_of 8 8 x))) where
  -- byte by byte
  exchange_byte : (b : ℕ) → b < 8 → z / 2 ^ (8 * b) % 2 ^ 8 ≡ flip 2 exchanged 4 (x / 2 ^ (8 * b) % 2 ^ 8)
  exchange_byte b h =
      ap (λ (y : ℕ). y / 2 ^ (8 * b) % 2 ^ 8) (e ∙ ap (word 8) (ap (map (flip 2 exchanged 4)) (chars_of-tab 8 8 x) ∙ map-tab (flip 2 exchanged 4) 8 (λ i. x / 2 ^ (8 * i) % 2 ^ 8)))
      ∙ word_at 8 (tab 8 g) (Below-tab 8 8 g (λ i. flip-lt 2 exchanged (λ c l. exchanged-lt c) 4 (x / 2 ^ (8 * i) % 2 ^ 8))) b
      ∙ get_or-tab 8 g b h
    where
      g : ℕ → ℕ
      g i = flip 2 exchanged 4 (x / 2 ^ (8 * i) % 2 ^ 8)

  -- by the pairs of x
  pub exchange_pairs : (b : ℕ) → b < 8 → z / 2 ^ (8 * b) % 2 ^ 8 ≡ word 2 (reverse (tab 4 (λ k. exchanged (x / 2 ^ (2 * (b * 4 + k)) % 4))))
  exchange_pairs b h = exchange_byte b h ∙ flip-pairs x b

-- the last of four comes first
reversed : (f : ℕ → ℕ) (k : ℕ) → k < 4 → get_or (reverse (tab 4 f)) k 0 ≡ f (3 - k)
unfolding tab
reversed f zero h = refl
reversed f (suc zero) h = refl
reversed f (suc (suc zero)) h = refl
reversed f (suc (suc (suc zero))) h = refl
reversed f (suc (suc (suc (suc k)))) h = absurd (omega arith)

-- pair k of a byte in reverse, exchanged
flip-pair : (c k : ℕ) → k < 4 → flip 2 exchanged 4 c / 2 ^ (2 * k) % 4 ≡ exchanged (c / 2 ^ (2 * (3 - k)) % 4)
unfolding flip
flip-pair c k h =
    word_at 2 (reverse (map exchanged (chars_of 2 4 c))) (Below-reverse 2 (map exchanged (chars_of 2 4 c)) (Below-through 2 exchanged (λ a l. exchanged-lt a) (chars_of 2 4 c) (chars_of-fit 2 4 c))) k
    ∙ ap (λ (l : List ℕ). get_or (reverse l) k 0) (ap (map exchanged) (chars_of-tab 2 4 c) ∙ map-tab exchanged 4 (λ i. c / 2 ^ (2 * i) % 2 ^ 2))
    ∙ reversed (λ i. exchanged (c / 2 ^ (2 * i) % 4)) k h

-- pair k of byte b is pair 3 - k of that byte of x
pub exchange_pair : (x z : ℕ) → z ≡ word 8 (map (flip 2 exchanged 4) (chars_of 8 8 x)) → (b k : ℕ) → b < 8 → k < 4
    → z / 2 ^ (2 * (b * 4 + k)) % 4 ≡ exchanged (x / 2 ^ (8 * b) % 2 ^ 8 / 2 ^ (2 * (3 - k)) % 4)
exchange_pair x z e b k h l =
    sym (pair_at z b k)
    ∙ sym (field_of (z / 2 ^ (8 * b)) (2 * k) 2 8 (omega arith))
    ∙ ap (λ (y : ℕ). y / 2 ^ (2 * k) % 4) (exchange_byte x z e b h)
    ∙ flip-pair (x / 2 ^ (8 * b) % 2 ^ 8) k l
