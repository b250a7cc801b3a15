-- The packed bases of a view: the bytes that a word of 32 bases makes, with T under set flags and in the spare places, and all of them as a list.
-- Assumes nothing.
use mathlib.Core.List.{List, ◌++◌, map, reverse, append_assoc}
use mathlib.Core.Path.{◌≡◌, sym, ap, ap₂, ◌∙◌, subst}
use Prim.Native.Nat.{ℕ, ◌+◌, ◌-◌, ◌*◌, ◌/◌, ◌%◌, ◌^◌, ◌≤◌, ◌<◌}
use native.Mathlib.Nat.{one-mul, add_assoc, mod-lt, mod-eq_of_lt, add-sub_cancel_left, div-mul-le_self, lt_of_lt_of_le, add-sub_of_le}
use native.Mathlib.Omega.{arith}
use borrow.Author.Tests.{lt-ltb, le-ltb}
use lib.Bits.{bit_or, or_lt, or_shifted_r}
use lib.Dec.{eqb, ltb, lit<}
use lib.ListN.{length, get_or, take, drop, length-map, get_or-eq_default}
use lib.Pow.{pow_pos, pow_mono, shr-shr, low, high}
use lib.Seq.{sets, sets-eq}
use Rattle.codes.specs.Codes.{up, pick, tab, char_at, chars}
use Rattle.codes.specs.Made.{Made}
use Rattle.codes.specs.Words.{word, chars_of, flip}
use Rattle.codes.proofs.CharLaws.{length-chars, get_or-chars}
use Rattle.codes.proofs.FieldLaws.{field_of, mod_low, char_at-is}
use Rattle.codes.proofs.MadeLaws.{made-to, made-parts}
use Rattle.codes.proofs.TabLaws.{length-tab, get_or-tab, tab-ext, chars_of-tab}
use Rattle.codes.specs.Widths.{width_1, width_2}
use Rattle.codes.proofs.WidthLaws.{below_or}
use Rattle.codes.proofs.WordLaws.{Below, length-chars_of}
use Rattle.fields.proofs.WriteLaws.{made-sets}
use Rattle.writes.proofs.LetterLaws.{map-tab}
use Rattle.dna.specs.Dna.{exchanged, high_first, under_t, dna}
use Rattle.dna.proofs.DnaLaws.{under, under-pair, exchange_pairs}

-- ---- views read by words

-- a base of a word that was read, and a flag
base_bits : (s : List ℕ) → Below 8 s → (o n k x j : ℕ) → x ≡ word 8 s / 2 ^ (2 * (o + n)) % 2 ^ (2 * k) → j < k → x / 2 ^ (2 * j) % 4 ≡ char_at 2 s (o + (n + j))
base_bits s b o n k x j e h =
    let p : 2 * (o + n) + 2 * j ≡ 2 * (o + (n + j)) = omega arith in
    ap (λ (y : ℕ). y / 2 ^ (2 * j) % 4) e
    ∙ field_of (word 8 s / 2 ^ (2 * (o + n))) (2 * j) 2 (2 * k) (omega arith)
    ∙ ap (λ (y : ℕ). y % 4) (shr-shr (word 8 s) (2 * (o + n)) (2 * j) ∙ ap (λ (y : ℕ). word 8 s / 2 ^ y) p)
    ∙ sym (char_at-is width_2 s b (o + (n + j)))

pub flag-bits : (s : List ℕ) → Below 8 s → (p k f j : ℕ) → f ≡ word 8 s / 2 ^ p % 2 ^ k → j < k → f / 2 ^ j % 2 ≡ char_at 1 s (p + j)
flag-bits s b p k f j e h =
    ap (λ (y : ℕ). y / 2 ^ j % 2) e
    ∙ field_of (word 8 s / 2 ^ p) j 1 k (omega arith)
    ∙ ap (λ (y : ℕ). y % 2) (shr-shr (word 8 s) p j ∙ ap (λ (y : ℕ). word 8 s / 2 ^ y) (sym (one-mul (p + j))))
    ∙ sym (char_at-is width_1 s b (p + j))

-- 32 flags from 56 bits
pub low_flags : (s : List ℕ) (p r : ℕ) → r % 2 ^ 56 ≡ word 8 s / 2 ^ p % 2 ^ 56 → r % 2 ^ 32 ≡ word 8 s / 2 ^ p % 2 ^ 32
low_flags s p r e = sym (mod_low r 32 56 (omega arith)) ∙ ap (λ (y : ℕ). y % 2 ^ 32) e ∙ mod_low (word 8 s / 2 ^ p) 32 56 (omega arith)

-- ---- flags with those from n on set

-- 32 set flags, bit by bit
full : (j : ℕ) → j < 32 → 4294967295 / 2 ^ j % 2 ≡ 1
unfolding tab
full j h = sym (get_or-tab 32 (λ k. 4294967295 / 2 ^ k % 2) j h) ∙ get_or-tab 32 (λ k. 1) j h

module _ (a n f : ℕ) (l : n < 32) (h : a < 2 ^ n) (e : f ≡ bit_or a (4294967295 / 2 ^ n * 2 ^ n % 2 ^ 64)) where
  upper : 4294967295 / 2 ^ n * 2 ^ n ≤ 4294967295
  upper = div-mul-le_self 4294967295 (2 ^ n)

  whole : 4294967295 / 2 ^ n * 2 ^ n % 2 ^ 64 ≡ 4294967295 / 2 ^ n * 2 ^ n
  whole = mod-eq_of_lt (omega (arith, upper))

  -- they are a sum
  filled : f ≡ 4294967295 / 2 ^ n * 2 ^ n + a
  filled = e ∙ ap (bit_or a) whole ∙ or_shifted_r (4294967295 / 2 ^ n) n a h

  pub filled-lt : f < 2 ^ 32
  filled-lt =
      subst (λ (y : ℕ). y < 2 ^ 32) (sym (e ∙ ap (bit_or a) whole))
      (or_lt 32 a (4294967295 / 2 ^ n * 2 ^ n) (lt_of_lt_of_le h (pow_mono {j = 32} (omega arith))) (omega (arith, upper)))

  -- the flags below n are those of a, the others are set
  pub filled-low : (j : ℕ) → j < n → f / 2 ^ j % 2 ≡ a / 2 ^ j % 2
  filled-low j m =
      sym (field_of f j 1 n (omega arith)) ∙ ap (λ (y : ℕ). y / 2 ^ j % 2) (ap (λ (y : ℕ). y % 2 ^ n) filled ∙ low (4294967295 / 2 ^ n) n h)

  pub filled-high : (j : ℕ) → n ≤ j → j < 32 → f / 2 ^ j % 2 ≡ 1
  filled-high j m k =
      ap (λ (y : ℕ). y % 2)
      (ap (λ (y : ℕ). f / 2 ^ y) (sym (add-sub_of_le m))
      ∙ sym (shr-shr f n (j - n))
      ∙ ap (λ (y : ℕ). y / 2 ^ (j - n)) (ap (λ (y : ℕ). y / 2 ^ n) filled ∙ high (4294967295 / 2 ^ n) n h)
      ∙ shr-shr 4294967295 n (j - n)
      ∙ ap (λ (y : ℕ). 4294967295 / 2 ^ y) (add-sub_of_le m))
      ∙ full j k

-- ---- the bytes of a view

-- k bytes put at i are stored there
pub put_sets : (k z i : ℕ) (e : List ℕ) → i + k ≤ length e → take i e ++ (chars_of 8 k z ++ drop (i + k) e) ≡ sets e i (chars_of 8 k z)
put_sets k z i e l =
    ap (λ (n : ℕ). take i e ++ (chars_of 8 k z ++ drop (i + n) e)) (sym (length-chars_of 8 k z))
    ∙ sym (sets-eq (chars_of 8 k z) e i (omega (arith, length-chars_of 8 k z)) ∙ append_assoc (take i e) (chars_of 8 k z) (drop (i + length (chars_of 8 k z)) e))

module _ (bases flags : List ℕ) (ao bo len : ℕ) where
  -- base i with T under a set flag, and T behind the last
  abbrev pub placed : ℕ → ℕ
  placed i = pick (ltb i len) (pick (eqb (char_at 1 flags (bo + i)) 0) (char_at 2 bases (ao + i)) 2) 2

  abbrev pub dna_byte : ℕ → ℕ
  dna_byte b = word 2 (reverse (tab 4 (λ k. exchanged (placed (b * 4 + k)))))

  cs : List ℕ
  cs = chars 2 bases ao len

  fs : List ℕ
  fs = chars 1 flags bo len

  length-under : length (map exchanged (under_t cs fs)) ≡ len
  unfolding cs
  length-under = length-map (under_t cs fs) exchanged ∙ length-tab (length cs) (λ i. pick (eqb (get_or fs i 0) 0) (get_or cs i 0) 2) ∙ length-chars 2 bases ao len

  -- base i of the list, and zero, which is T, behind the last
  base_placed : (i : ℕ) → get_or (map exchanged (under_t cs fs)) i 0 ≡ exchanged (placed i)
  unfolding cs fs
  base_placed i =
      below_or i len
      (λ h.
      ap (λ (l : List ℕ). get_or l i 0) (map-tab exchanged (length cs) u)
      ∙ get_or-tab (length cs) (λ i. exchanged (u i)) i (omega (arith, length-chars 2 bases ao len))
      ∙ rw (lt-ltb i len h) (ap₂ (λ (f c : ℕ). exchanged (pick (eqb f 0) c 2)) (get_or-chars 1 flags bo len i h) (get_or-chars 2 bases ao len i h)))
      (λ h. get_or-eq_default (map exchanged (under_t cs fs)) 0 (omega (arith, length-under)) ∙ rw (le-ltb i len h))
    where
      u : ℕ → ℕ
      u i = pick (eqb (get_or fs i 0) 0) (get_or cs i 0) 2

  -- the packed bases are those bytes
  dna-tab : dna (chars 2 bases ao len) (chars 1 flags bo len) ≡ tab (up 2 len) dna_byte
  unfolding dna high_first cs fs
  dna-tab =
      ap (λ (n : ℕ). tab (up 2 n) (λ b. word 2 (reverse (tab 4 (λ k. get_or m (b * 4 + k) 0))))) length-under
      ∙ tab-ext (up 2 len) (λ b. word 2 (reverse (tab 4 (λ k. get_or m (b * 4 + k) 0)))) dna_byte
      (λ b h. ap (λ (l : List ℕ). word 2 (reverse l)) (tab-ext 4 (λ k. get_or m (b * 4 + k) 0) (λ k. exchanged (placed (b * 4 + k))) (λ k l. base_placed (b * 4 + k))))
    where
      m : List ℕ
      m = map exchanged (under_t cs fs)

  -- base j of a word that was read at base `done`
  read_placed : Below 8 bases → (done k x f : ℕ) → x ≡ word 8 bases / 2 ^ (2 * (ao + done)) % 2 ^ (2 * k) → done + k ≤ len → (j : ℕ) → j < k
      → f / 2 ^ j % 2 ≡ char_at 1 flags (bo + (done + j)) → under 2 x f j ≡ placed (done + j)
  read_placed b done k x f e l j h q =
      let m : done + j < len = omega arith in
      ap₂ (λ (g c : ℕ). pick (eqb g 0) c 2) q (base_bits bases b ao done k x j e h) ∙ sym (rw (lt-ltb (done + j) len m))

  -- a whole word, and the last one
  pub turn_placed : Below 8 bases → Below 8 flags → (done x f : ℕ) → x ≡ word 8 bases / 2 ^ (2 * (ao + done)) % 2 ^ 64 → f ≡ word 8 flags / 2 ^ (bo + done) % 2 ^ 32
      → done + 32 ≤ len → (j : ℕ) → j < 32 → under 2 x f j ≡ placed (done + j)
  turn_placed b c done x f ex ef l j h = read_placed b done 32 x f ex l j h (flag-bits flags c (bo + done) 32 f j ef h ∙ ap (char_at 1 flags) (add_assoc bo done j))

  pub last_placed : Below 8 bases → Below 8 flags → (done left x a f : ℕ) → x ≡ word 8 bases / 2 ^ (2 * (ao + done)) % 2 ^ (2 * left)
      → a ≡ word 8 flags / 2 ^ (bo + done) % 2 ^ left
      → done + left ≡ len → left < 32 → f ≡ bit_or a (4294967295 / 2 ^ left * 2 ^ left % 2 ^ 64) → (j : ℕ) → j < 32 → under 2 x f j ≡ placed (done + j)
  last_placed b c done left x a f ex ea l m ef j h =
      let small : a < 2 ^ left = subst (λ (y : ℕ). y < 2 ^ left) (sym ea) (mod-lt (word 8 flags / 2 ^ (bo + done)) (pow_pos left)) in
      below_or j left
      (λ q.
      read_placed b done left x f ex (omega arith) j q (filled-low a left f m small ef j q ∙ flag-bits flags c (bo + done) left a j ea q ∙ ap (char_at 1 flags) (add_assoc bo done j)))
      (λ q.
      let r : len ≤ done + j = omega arith in
      ap (λ (g : ℕ). pick (eqb g 0) (x / 2 ^ (2 * j) % 4) 2) (filled-high a left f m small ef j q h) ∙ sym (rw (le-ltb (done + j) len r)))

  -- the bytes written so far, and k more of a word of 32 bases
  pub dna-turn : (at done i k x f y z : ℕ) {d e : List ℕ} → y ≡ word 2 (tab 32 (under 2 x f)) → z ≡ word 8 (map (flip 2 exchanged 4) (chars_of 8 8 y)) → k ≤ 8
      → 4 * i ≡ 4 * at + done → i + k ≤ length d → ((j : ℕ) → j < 32 → under 2 x f j ≡ placed (done + j))
      → Made (λ j. dna_byte (j - at)) at i d e → Made (λ j. dna_byte (j - at)) at (i + k) d (sets e i (chars_of 8 k z))
  dna-turn at done i k x f y z {d} {e} ey ez hk p l s m =
      made-to
      (made-sets (chars_of 8 k z) m (omega arith) (omega (arith, length-chars_of 8 k z)) (λ b h. entry b (subst (λ (n : ℕ). b < n) (length-chars_of 8 k z) h)))
      (ap (λ (n : ℕ). i + n) (length-chars_of 8 k z))
    where
      entry : (b : ℕ) → b < k → get_or (chars_of 8 k z) b 0 ≡ dna_byte (i + b - at)
      entry b h =
          ap (λ (v : List ℕ). get_or v b 0) (chars_of-tab 8 k z)
          ∙ get_or-tab k (λ j. z / 2 ^ (8 * j) % 2 ^ 8) b h
          ∙ exchange_pairs y z ez b (omega arith)
          ∙ ap (λ (v : List ℕ). word 2 (reverse v))
          (tab-ext 4 (λ c. exchanged (y / 2 ^ (2 * (b * 4 + c)) % 4)) (λ c. exchanged (placed ((i + b - at) * 4 + c)))
          (λ c q.
          let r : b * 4 + c < 32 = omega arith in
          let w : done + (b * 4 + c) ≡ (i + b - at) * 4 + c = omega arith in
          ap exchanged (under-pair 2 x f y (lit< tt) ey (b * 4 + c) r ∙ s (b * 4 + c) r ∙ ap placed w)))

  -- all of them
  pub dna-all : (at : ℕ) {d e : List ℕ} → at + up 2 len ≤ length d
      → Made (λ j. dna_byte (j - at)) at (at + up 2 len) d e → e ≡ sets d at (dna (chars 2 bases ao len) (chars 1 flags bo len))
  dna-all at {d} l m =
      made-parts at (up 2 len) m l
      ∙ ap₂ (λ (v : List ℕ) (n : ℕ). take at d ++ (v ++ drop (at + n) d))
      (tab-ext (up 2 len) (λ i. dna_byte (at + i - at)) dna_byte (λ i h. ap dna_byte (add-sub_cancel_left at i)) ∙ sym dna-tab)
      (sym long)
      ∙ sym (sets-eq v d at (omega (arith, long)) ∙ append_assoc (take at d) v (drop (at + length v) d))
    where
      v : List ℕ
      v = dna (chars 2 bases ao len) (chars 1 flags bo len)

      long : length v ≡ up 2 len
      long = ap length dna-tab ∙ length-tab (up 2 len) dna_byte
