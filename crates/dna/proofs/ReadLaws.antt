-- The bases of a file in a store: the bytes that a word of 32 bases makes, zeros in the spare places, and all of them as a list.
-- Assumes nothing.
use mathlib.Core.Bool.{false}
use mathlib.Core.List.{List, ◌++◌, map}
use mathlib.Core.Path.{◌≡◌, sym, ap, ap₂, ◌∙◌, subst}
use Prim.Native.Nat.{ℕ, ◌+◌, ◌-◌, ◌*◌, ◌/◌, ◌%◌, ◌^◌, ◌≤◌, ◌<◌}
use native.Mathlib.Nat.{mod-lt, div-eq_of_lt, div-add-mod', lt_of_lt_of_le}
use native.Mathlib.Omega.{arith}
use borrow.Author.Tests.{lt-ltb, le-ltb}
use lib.Dec.{eqb, ltb, lit<}
use lib.ListN.{length, get_or, take, drop, get_or-eq_default}
use lib.Pow.{pow_pos, pow_mono}
use lib.Seq.{sets, get_or-take, get_or-drop}
use Rattle.codes.specs.Codes.{up, trailing, pick, tab, char_at}
use Rattle.codes.specs.Made.{Made}
use Rattle.codes.specs.Words.{word, chars_of, flip, pack, packed}
use Rattle.codes.proofs.FieldLaws.{field_of}
use Rattle.codes.proofs.MadeLaws.{made-to, made-is, made_at}
use Rattle.codes.proofs.TabLaws.{length-tab, get_or-tab, tab-ext, chars_of-tab, word_at}
use Rattle.codes.proofs.WidthLaws.{below_or}
use Rattle.codes.proofs.WordLaws.{Below, length-chars_of, Below-drop}
use Rattle.forms.specs.Reading.{filled_with}
use Rattle.forms.proofs.NumberLaws.{Below-take}
use Rattle.forms.proofs.WriteLaws.{zeros_on}
use Rattle.fields.proofs.WriteLaws.{made-sets}
use Rattle.dna.specs.Dna.{exchanged, base_at, bases_at}
use Rattle.dna.specs.Numbers.{number_at}
use Rattle.dna.proofs.DnaLaws.{under, under-pair, byte_pairs, exchange_pair}

-- ---- a file read by words

-- the bytes of k that were loaded
pub loaded_some : (s : List ℕ) → Below 8 s → (at k x : ℕ) → x ≡ number_at false k s at → (b : ℕ) → b < k → x / 2 ^ (8 * b) % 2 ^ 8 ≡ get_or s (at + b) 0
unfolding number_at
loaded_some s f at k x e b h =
    ap (λ (y : ℕ). y / 2 ^ (8 * b) % 2 ^ 8) e
    ∙ word_at 8 (take k (drop at s)) (Below-take 8 k (drop at s) (Below-drop 8 at s f)) b
    ∙ get_or-take k (drop at s) b 0 h
    ∙ get_or-drop at s b 0

-- ---- the bytes of a store

module _ (file flags : List ℕ) (d n : ℕ) where
  -- base i, code 3 under a set flag, and zero behind the last
  abbrev pub held : ℕ → ℕ
  held i = pick (ltb i n) (pick (eqb (char_at 1 flags i) 0) (base_at file d i) 3) 0

  abbrev pub held_byte : ℕ → ℕ
  held_byte b = word 2 (tab 4 (λ k. held (b * 4 + k)))

  length-bases : length (bases_at file d n (char_at 1 flags)) ≡ n
  unfolding bases_at
  length-bases = length-tab n (λ i. pick (eqb (char_at 1 flags i) 0) (base_at file d i) 3)

  -- base i of the list
  base_held : (i : ℕ) → get_or (bases_at file d n (char_at 1 flags)) i 0 ≡ held i
  unfolding bases_at
  base_held i =
      below_or i n (λ h. get_or-tab n (λ i. pick (eqb (char_at 1 flags i) 0) (base_at file d i) 3) i h ∙ sym (rw (lt-ltb i n h)))
      (λ h. get_or-eq_default (bases_at file d n (char_at 1 flags)) 0 (omega (arith, length-bases)) ∙ sym (rw (le-ltb i n h)))

  -- packed they are those bytes
  held_tab : packed 2 (bases_at file d n (char_at 1 flags)) ≡ tab (up 2 n) held_byte
  unfolding packed pack
  held_tab =
      ap (λ (m : ℕ). tab (up 2 m) (λ b. word 2 (tab 4 (λ k. get_or (bases_at file d n (char_at 1 flags)) (b * 4 + k) 0)))) length-bases
      ∙ tab-ext (up 2 n) (λ b. word 2 (tab 4 (λ k. get_or (bases_at file d n (char_at 1 flags)) (b * 4 + k) 0))) held_byte
      (λ b h. ap (word 2) (tab-ext 4 (λ k. get_or (bases_at file d n (char_at 1 flags)) (b * 4 + k) 0) (λ k. held (b * 4 + k)) (λ k l. base_held (b * 4 + k))))

  -- base j of a word whose bytes are those of the file from byte i of the bases on
  module _ (done i k x z : ℕ) (p : 4 * i ≡ done) (hk : k ≤ 8) (ex : (b : ℕ) → b < k → x / 2 ^ (8 * b) % 2 ^ 8 ≡ get_or file (d + i + b) 0)
      (ez : z ≡ word 8 (map (flip 2 exchanged 4) (chars_of 8 8 x))) where
    base_read : (j : ℕ) → j < 4 * k → z / 2 ^ (2 * j) % 4 ≡ base_at file d (done + j)
    unfolding base_at
    base_read j h =
        let q : d + i + j / 4 ≡ d + (done + j) / 4 = omega arith in
        let r : j % 4 ≡ (done + j) % 4 = omega arith in
        ap (λ (y : ℕ). z / 2 ^ (2 * y) % 4) (sym (div-add-mod' j 4))
        ∙ exchange_pair x z ez (j / 4) (j % 4) (omega arith) (omega arith)
        ∙ ap₂ (λ (c m : ℕ). exchanged (c / 2 ^ (2 * (3 - m)) % 4)) (ex (j / 4) (omega arith) ∙ ap (λ (y : ℕ). get_or file y 0) q) r

    -- with its flag
    pub read_held : (f y : ℕ) → y ≡ word 2 (tab 32 (under 3 z f)) → (j : ℕ) → j < 4 * k → done + j < n → f / 2 ^ j % 2 ≡ char_at 1 flags (done + j)
        → y / 2 ^ (2 * j) % 4 ≡ held (done + j)
    read_held f y ey j h m ef =
        under-pair 3 z f y (lit< tt) ey j (omega arith) ∙ ap₂ (λ (g c : ℕ). pick (eqb g 0) c 3) ef (base_read j h) ∙ sym (rw (lt-ltb (done + j) n m))

  -- a word's bases with those from n on cleared
  pub cleared_held : (done left y : ℕ) → done + left ≡ n → ((j : ℕ) → j < left → y / 2 ^ (2 * j) % 4 ≡ held (done + j)) → (j : ℕ)
      → y % 2 ^ (2 * left) / 2 ^ (2 * j) % 4 ≡ held (done + j)
  cleared_held done left y e s j =
      below_or j left (λ h. field_of y (2 * j) 2 (2 * left) (omega arith) ∙ s j h)
      (λ h.
      let m : n ≤ done + j = omega arith in
      let w : 2 ^ (2 * left) ≤ 2 ^ (2 * j) = pow_mono (omega arith) in
      ap (λ (v : ℕ). v % 4) (div-eq_of_lt (lt_of_lt_of_le (mod-lt y (pow_pos (2 * left))) w)) ∙ sym (rw (le-ltb (done + j) n m)))

  -- the bytes written so far, and k more of a word
  pub held_turn : (done i k v : ℕ) {old out : List ℕ} → 4 * i ≡ done → i + k ≤ length old → ((j : ℕ) → j < 4 * k → v / 2 ^ (2 * j) % 4 ≡ held (done + j))
      → Made held_byte 0 i old out → Made held_byte 0 (i + k) old (sets out i (chars_of 8 k v))
  held_turn done i k v {old} {out} p l s m =
      made-to
      (made-sets (chars_of 8 k v) m (omega arith) (omega (arith, length-chars_of 8 k v)) (λ b h. entry b (subst (λ (c : ℕ). b < c) (length-chars_of 8 k v) h)))
      (ap (λ (c : ℕ). i + c) (length-chars_of 8 k v))
    where
      entry : (b : ℕ) → b < k → get_or (chars_of 8 k v) b 0 ≡ held_byte (i + b)
      entry b h =
          ap (λ (u : List ℕ). get_or u b 0) (chars_of-tab 8 k v)
          ∙ get_or-tab k (λ j. v / 2 ^ (8 * j) % 2 ^ 8) b h
          ∙ byte_pairs v b
          ∙ ap (word 2)
          (tab-ext 4 (λ c. v / 2 ^ (2 * (b * 4 + c)) % 4) (λ c. held ((i + b) * 4 + c))
          (λ c q. let w : done + (b * 4 + c) ≡ (i + b) * 4 + c = omega arith in s (b * 4 + c) (omega arith) ∙ ap held w))

  -- all of them, and zeros behind
  pub held_all : (e : ℕ) {old mid new : List ℕ} → e ≡ up 2 n → up 2 n + trailing ≤ length old → Made held_byte 0 e old mid → Made (λ j. 0) e (e + trailing) mid new
      → new ≡ filled_with (packed 2 (bases_at file d n (char_at 1 flags))) old
  held_all e {old} {mid} q l m z = zeros_on t old trailing is (made_at trailing z (q ∙ sym long)) (omega (arith, long, m.long))
    where
      t : List ℕ
      t = packed 2 (bases_at file d n (char_at 1 flags))

      long : length t ≡ up 2 n
      long = ap length held_tab ∙ length-tab (up 2 n) held_byte

      is : mid ≡ t ++ drop (length t) old
      is = made-is (made-to m q) (omega arith) ∙ ap₂ (λ (u : List ℕ) (c : ℕ). u ++ drop c old) (sym held_tab) (sym long)
