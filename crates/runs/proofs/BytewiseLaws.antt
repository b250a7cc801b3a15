-- Words of eight bytes, made of another's byte by byte.
-- Assumes nothing.
use mathlib.Core.List.{List, [], ◌∷◌, map, map-id}
use mathlib.Core.Path.{◌≡◌, refl, sym, ap, ap₂, ◌∙◌, subst}
use Prim.Native.Nat.{ℕ, ◌+◌, ◌-◌, ◌*◌, ◌/◌, ◌%◌, ◌^◌, ◌<◌}
use native.Mathlib.Nat.{add-mul, mul_assoc, mul_comm, zero-mul, mod-lt, mod-eq_of_lt, lt_of_le_of_lt}
use native.Mathlib.Omega.{arith}
use lib.Bits.{bit_and, bit_or, bit_xor, and_block, or_block, xor_block, and_lt, or_lt, xor_lt, and_le_r}
use lib.Dec.{lit<}
use lib.ListN.{length, length-map}
use lib.Pow.{shl-shr, shr_le}
use Rattle.codes.specs.Codes.{tab}
use Rattle.codes.specs.Words.{word, chars_of}
use Rattle.codes.proofs.Net.{rep}
use Rattle.codes.proofs.TabLaws.{tab-at}
use Rattle.codes.proofs.WordLaws.{Below, length-chars_of, chars_of-fit, word-chars_of, word_lt, Below-through}

-- what passes a mask is as far below it as the mask is above
pub and_under : (m y : ℕ) → bit_and y m ≡ m - (m - bit_and y m)
and_under m y = omega (arith, and_le_r y m)

-- f takes bytes to bytes
abbrev Fits : (ℕ → ℕ) → Type 0
Fits f = (b : ℕ) → b < 2 ^ 8 → f b < 2 ^ 8

-- an operation on words goes block by block
abbrev Blocks : (ℕ → ℕ → ℕ) → Type 0
Blocks op = (a b r s : ℕ) → r < 2 ^ 8 → s < 2 ^ 8 → op (a * 2 ^ 8 + r) (b * 2 ^ 8 + s) ≡ op a b * 2 ^ 8 + op r s

add-block : Blocks (λ a b. a + b)
add-block a b r s hr hs = omega arith

-- and so byte by byte
word-both : (op : ℕ → ℕ → ℕ) → op 0 0 ≡ 0 → Blocks op → {f g : ℕ → ℕ} → Fits f → Fits g → (s : List ℕ) → Below 8 s
    → op (word 8 (map f s)) (word 8 (map g s)) ≡ word 8 (map (λ b. op (f b) (g b)) s)
unfolding word
word-both op none block hf hg [] h = none
word-both op none block {f} {g} hf hg (b ∷ s) h =
    block (word 8 (map f s)) (word 8 (map g s)) (f b) (g b) (hf b h.0) (hg b h.0) ∙ ap (λ (x : ℕ). x * 2 ^ 8 + op (f b) (g b)) (word-both op none block hf hg s h.1)

word-rep : (m : ℕ) (s : List ℕ) → word 8 (map (λ _. m) s) ≡ rep 8 m (length s)
unfolding word rep
word-rep m [] = refl
word-rep m (b ∷ s) = ap (λ (x : ℕ). x * 2 ^ 8 + m) (word-rep m s)

word-times : (m : ℕ) (f : ℕ → ℕ) (s : List ℕ) → word 8 (map (λ b. f b * m) s) ≡ word 8 (map f s) * m
unfolding word
word-times m f [] = sym (zero-mul m)
word-times m f (b ∷ s) =
    let x : ℕ = word 8 (map f s) in
    ap (λ (y : ℕ). y * 2 ^ 8 + f b * m) (word-times m f s)
    ∙ ap (λ (y : ℕ). y + f b * m) (mul_assoc x m (2 ^ 8) ∙ ap (λ (y : ℕ). x * y) (mul_comm m (2 ^ 8)) ∙ sym (mul_assoc x (2 ^ 8) m))
    ∙ sym (add-mul (x * 2 ^ 8) (f b) m)

-- only what becomes of bytes counts
word_same : {f g : ℕ → ℕ} → ((b : ℕ) → b < 2 ^ 8 → f b ≡ g b) → (s : List ℕ) → Below 8 s → word 8 (map f s) ≡ word 8 (map g s)
unfolding word
word_same e [] h = refl
word_same e (b ∷ s) h = ap₂ (λ (x y : ℕ). x * 2 ^ 8 + y) (word_same e s h.1) (e b h.0)

abbrev bytes : ℕ → List ℕ
bytes x = chars_of 8 8 x

-- each byte of y is made by f of that of x
pub record Each (x : ℕ) (f : ℕ → ℕ) (y : ℕ) : Type 0 where
  pub made : y ≡ word 8 (map f (bytes x))
  pub fits : (b : ℕ) → b < 2 ^ 8 → f b < 2 ^ 8

-- a rule of bytes that makes no more than a byte, which is tested
abbrev pub Small : (ℕ → ℕ) → Type 0
Small f = tab 256 (λ b. f b / 2 ^ 8) ≡ tab 256 (λ b. 0)

small-fits : (f : ℕ → ℕ) → Small f → Fits f
small-fits f t b h = omega (arith, tab-at 256 (λ b. f b / 2 ^ 8) (λ b. 0) t b h)

module _ {x : ℕ} where
  pub each-self : x < 2 ^ 64 → Each x (λ b. b) x
  each-self h = record { made = sym (ap (word 8) (map-id (bytes x)) ∙ word-chars_of 8 8 x ∙ mod-eq_of_lt h); fits = λ b l. l }

  pub each-rep : (m : ℕ) → m < 2 ^ 8 → Each x (λ b. m) (rep 8 m 8)
  each-rep m h = record { made = sym (word-rep m (bytes x) ∙ ap (rep 8 m) (length-chars_of 8 8 x)); fits = λ b l. h }

  -- a word of eight equal bytes, which is tested
  pub each_word : (y : ℕ) → y ≡ rep 8 (y % 2 ^ 8) 8 → Each x (λ b. y % 2 ^ 8) y
  each_word y e = subst (λ (z : ℕ). Each x (λ b. y % 2 ^ 8) z) (sym e) (each-rep (y % 2 ^ 8) (mod-lt y (lit< tt)))

  module _ {f : ℕ → ℕ} {y : ℕ} (p : Each x f y) where
    module _ {g : ℕ → ℕ} {z : ℕ} (q : Each x g z) where
      both : (op : ℕ → ℕ → ℕ) → op 0 0 ≡ 0 → Blocks op → Fits (λ b. op (f b) (g b)) → Each x (λ b. op (f b) (g b)) (op y z)
      both op none block h = record { made = ap₂ op p.made q.made ∙ word-both op none block p.fits q.fits (bytes x) (chars_of-fit 8 8 x); fits = h }

      pub each_and : Each x (λ b. bit_and (f b) (g b)) (bit_and y z)
      each_and = both bit_and refl (and_block 8) (λ b l. and_lt 8 (f b) (g b) (p.fits b l) (q.fits b l))

      pub each_or : Each x (λ b. bit_or (f b) (g b)) (bit_or y z)
      each_or = both bit_or refl (or_block 8) (λ b l. or_lt 8 (f b) (g b) (p.fits b l) (q.fits b l))

      pub each_xor : Each x (λ b. bit_xor (f b) (g b)) (bit_xor y z)
      each_xor = both bit_xor refl (xor_block 8) (λ b l. xor_lt 8 (f b) (g b) (p.fits b l) (q.fits b l))

      pub each-add : Small (λ b. f b + g b) → Each x (λ b. f b + g b) (y + z)
      each-add t = both (λ a b. a + b) refl add-block (small-fits (λ b. f b + g b) t)

    pub each-shl : (s : ℕ) → Small (λ b. f b * 2 ^ s) → Each x (λ b. f b * 2 ^ s) (y * 2 ^ s % 2 ^ 64)
    each-shl s t =
        let h = small-fits (λ b. f b * 2 ^ s) t in
        let e : y * 2 ^ s ≡ word 8 (map (λ b. f b * 2 ^ s) (bytes x)) = ap (λ (v : ℕ). v * 2 ^ s) p.made ∙ sym (word-times (2 ^ s) f (bytes x)) in
        record { made = mod-eq_of_lt (rw e (less (λ b. f b * 2 ^ s) h)) ∙ e; fits = h }
      where
        less : (g : ℕ → ℕ) → Fits g → word 8 (map g (bytes x)) < 2 ^ 64
        less g h =
            subst (λ (n : ℕ). word 8 (map g (bytes x)) < 2 ^ (8 * n)) (length-map (bytes x) g
            ∙ length-chars_of 8 8 x) (word_lt 8 (map g (bytes x)) (Below-through 8 g h (bytes x) (chars_of-fit 8 8 x)))

    -- where no bit leaves its byte, which is tested
    pub each-shr : (s : ℕ) → tab 256 f ≡ tab 256 (λ b. f b / 2 ^ s * 2 ^ s) → Each x (λ b. f b / 2 ^ s) (y / 2 ^ s)
    each-shr s t =
        record {
          made =
              ap (λ (v : ℕ). v / 2 ^ s)
              (p.made ∙ word_same (tab-at 256 f (λ b. f b / 2 ^ s * 2 ^ s) t) (bytes x) (chars_of-fit 8 8 x) ∙ word-times (2 ^ s) (λ b. f b / 2 ^ s) (bytes x))
              ∙ shl-shr (word 8 (map (λ b. f b / 2 ^ s) (bytes x))) s;
          fits = λ b l. lt_of_le_of_lt (shr_le (f b) s) (p.fits b l);
        }

    -- by another rule, which is tested
    pub each-as : (g : ℕ → ℕ) → tab 256 f ≡ tab 256 g → y ≡ word 8 (map g (bytes x))
    each-as g t = p.made ∙ word_same (tab-at 256 f g t) (bytes x) (chars_of-fit 8 8 x)
