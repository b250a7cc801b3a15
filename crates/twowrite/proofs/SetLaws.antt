-- Parts that are written one after another are written together: the numbers of runs, and the parts of a record.
-- Assumes nothing.
use mathlib.Core.Bool.{Bool, false}
use mathlib.Core.List.{List, [], ◌∷◌, ◌++◌, append_assoc, append-nil}
use mathlib.Core.Path.{◌≡◌, refl, sym, ap, ap₂, ◌∙◌}
use Prim.Native.Nat.{ℕ, suc, ◌+◌, ◌*◌, ◌≤◌, ◌<◌}
use native.Mathlib.Omega.{arith}
use lib.ListN.{length, set, length-append}
use lib.Seq.{set_comm, sets, length-sets}
use Rattle.dna.specs.Dna.{dna}
use Rattle.fields.specs.Runs.{Run, runs}
use Rattle.fields.proofs.WriteLaws.{sets-append}
use Rattle.twobit.specs.Files.{spelled, each, record_of}
use Rattle.twobit.proofs.FileLaws.{length-spelled, length-each}

each_append : (big : Bool) (f : Run → ℕ) (rs ts : List Run) → each big f (rs ++ ts) ≡ each big f rs ++ each big f ts
unfolding each
each_append big f [] ts = refl
each_append big f (r ∷ rs) ts =
    ap (λ (l : List ℕ). spelled big 4 (f r) ++ l) (each_append big f rs ts) ∙ sym (append_assoc (spelled big 4 (f r)) (each big f rs) (each big f ts))

-- one run more
pub each-one : (big : Bool) (f : Run → ℕ) (rs : List Run) (r : Run) → each big f (rs ++ r ∷ []) ≡ each big f rs ++ spelled big 4 (f r)
unfolding each
each-one big f rs r = each_append big f rs (r ∷ []) ∙ ap (λ (l : List ℕ). each big f rs ++ l) (append-nil (spelled big 4 (f r)))

-- what is written at j behind n bytes that are written at i
pub sets-next : (a b d : List ℕ) {d' e : List ℕ} (i n j : ℕ) → length a ≡ n → i + n ≡ j → d' ≡ sets d i a → e ≡ sets d' j b → e ≡ sets d i (a ++ b)
sets-next a b d i n j l p x y = y ∙ ap₂ (λ (t : List ℕ) (q : ℕ). sets t q b) x (sym p ∙ ap (λ (m : ℕ). i + m) (sym l)) ∙ sets-append a b d i

-- writing keeps the length
pub sets-length : (d e : List ℕ) (i : ℕ) (bs : List ℕ) → e ≡ sets d i bs → length e ≡ length d
sets-length d e i bs x = ap length x ∙ length-sets d i bs

-- a byte in front of a part is written before it or after it
set-sets : (b d : List ℕ) (i j x : ℕ) → i < j → set (sets d j b) i x ≡ sets (set d i x) j b
set-sets [] d i j x l = refl
set-sets (y ∷ b) d i j x l = set-sets b (set d j y) i (suc j) x (omega (arith, l)) ∙ ap (λ (t : List ℕ). sets t (suc j) b) (set_comm d j i y x (λ e. omega (arith, l, e)))

-- parts that do not meet are written in either order
sets-swap : (a b d : List ℕ) (i j : ℕ) → i + length a ≤ j → sets (sets d j b) i a ≡ sets (sets d i a) j b
sets-swap [] b d i j l = refl
sets-swap (x ∷ a) b d i j l = ap (λ (t : List ℕ). sets t (suc i) a) (set-sets b d i j x (omega (arith, l))) ∙ sets-swap a b (set d i x) (suc i) j (omega (arith, l))

-- two parts grow, the one at i up to j at most
pub sets-both : (a b x y d : List ℕ) {d' e e' : List ℕ} (i j n : ℕ) → length a ≡ n → length b ≡ n → i + n + length x ≤ j
    → d' ≡ sets (sets d i a) j b → e ≡ sets d' (i + n) x → e' ≡ sets e (j + n) y → e' ≡ sets (sets d i (a ++ x)) j (b ++ y)
sets-both a b x y d i j n la lb l u v w =
    sets-next b y (sets d i (a ++ x)) j n (j + n) lb refl
    (v ∙ ap (λ (t : List ℕ). sets t (i + n) x) u ∙ sets-swap x b (sets d i a) (i + n) j l
    ∙ ap (λ (t : List ℕ). sets t j b) (sets-next a x d i n (i + n) la refl refl refl)) w

-- the parts of a record, each written behind the one before
pub record_written : (cs fs : List ℕ) (len count at : ℕ) (d₀ d₁ d₂ d₃ d₄ d₅ d₆ : List ℕ) → len ≡ length fs → count ≡ length (runs fs)
    → d₁ ≡ sets d₀ at (spelled false 4 len) → d₂ ≡ sets d₁ (at + 4) (spelled false 4 count)
    → d₃ ≡ sets d₂ (at + 8) (each false (λ r. r.start) (runs fs) ++ each false (λ r. r.size) (runs fs)) → d₄ ≡ sets d₃ (at + 8 + 8 * count) (spelled false 4 0)
    → d₅ ≡ sets d₄ (at + 8 + 8 * count + 4) (spelled false 4 0) → d₆ ≡ sets d₅ (at + 8 + 8 * count + 8) (dna cs fs) → d₆ ≡ sets d₀ at (record_of false cs fs)
unfolding record_of
record_written cs fs len count at d₀ d₁ d₂ d₃ d₄ d₅ d₆ e₁ e₂ x₁ x₂ x₃ x₄ x₅ x₆ =
    let n : ℕ → List ℕ = spelled false 4 in
    let starts : List ℕ = each false (λ r. r.start) (runs fs) in
    let sizes : List ℕ = each false (λ r. r.size) (runs fs) in
    let masks : ℕ = at + 8 + 8 * count in
    let four : (m : ℕ) → length (n m) ≡ 4 = length-spelled false 4 in
    let all : length (starts ++ sizes) ≡ 8 * count =
    omega (arith, length-append starts sizes, length-each false (λ r. r.start) (runs fs), length-each false (λ r. r.size) (runs fs), e₂) in
    sets-next (n (length fs)) (n (length (runs fs)) ++ (starts ++ (sizes ++ (n 0 ++ (n 0 ++ dna cs fs))))) d₀ at 4 (at + 4) (four (length fs)) refl
    (x₁ ∙ ap (λ (m : ℕ). sets d₀ at (n m)) e₁)
    (sets-next (n (length (runs fs))) (starts ++ (sizes ++ (n 0 ++ (n 0 ++ dna cs fs)))) d₁ (at + 4) 4 (at + 8) (four (length (runs fs))) (omega arith)
    (x₂ ∙ ap (λ (m : ℕ). sets d₁ (at + 4) (n m)) e₂)
    (sets-next (starts ++ sizes) (n 0 ++ (n 0 ++ dna cs fs)) d₂ (at + 8) (8 * count) masks all refl x₃
    (sets-next (n 0) (n 0 ++ dna cs fs) d₃ masks 4 (masks + 4) (four 0) refl x₄ (sets-next (n 0) (dna cs fs) d₄ (masks + 4) 4 (masks + 8) (four 0) (omega arith) x₅ x₆))
    ∙ ap (sets d₂ (at + 8)) (append_assoc starts sizes (n 0 ++ (n 0 ++ dna cs fs)))))
