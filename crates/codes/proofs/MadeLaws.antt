-- The laws of a run of new entries: it grows by one entry, or by a run behind it; and as a list it is a table between what stood before and behind.
-- Assumes nothing.
use mathlib.Core.List.{List, ◌∷◌, ◌++◌}
use mathlib.Core.Path.{◌≡◌, refl, sym, ap, ap₂, ◌∙◌, subst}
use Prim.Native.Nat.{ℕ, zero, suc, ◌+◌, ◌≤◌, ◌<◌}
use native.Mathlib.Decide.{ℕ_discrete}
use native.Mathlib.Nat.{zero-add, le_refl}
use native.Mathlib.Omega.{arith}
use lib.ListN.{length, get_or, set, take, drop, replicate, length-set, length-drop, take-append-drop}
use lib.Seq.{ext_get_or, get_or-set_same, get_or-set_other, get_or-take, get_or-drop, length-take-le, drop-drop}
use Rattle.codes.specs.Codes.{tab}
use Rattle.codes.specs.Made.{Made}
use Rattle.codes.proofs.TabLaws.{length-tab, get_or-tab, tab-ext}
use Rattle.codes.proofs.WidthLaws.{below_or}

-- what holds of each entry from `from` up to j, and of entry j anew
pub each_more : (P : ℕ → ℕ → Type 0) (from j v : ℕ) (e : List ℕ) → j < length e → ((i : ℕ) → from ≤ i → i < j → P i (get_or e i 0)) → P j v
    → (i : ℕ) → from ≤ i → i < j + 1 → P i (get_or (set e j v) i 0)
each_more P from j v e l h p i a b =
    elim (ℕ_discrete i j) [
      | yes q ↦ subst (λ (k : ℕ). P k (get_or (set e j v) k 0)) (sym q) (subst (P j) (sym (get_or-set_same e j v 0 l)) p)
      | no n ↦ subst (P i) (sym (get_or-set_other e j i v 0 n)) (h i a (omega arith))
    ]

module _ {f : ℕ → ℕ} {from : ℕ} {d : List ℕ} where
  pub made_none : {to : ℕ} → to ≤ from → Made f from to d d
  made_none h = record { long = refl; below = λ j l. refl; new = λ j a b. absurd (omega arith); above = λ j l. refl }

  pub made_more : {j v : ℕ} {e : List ℕ} → Made f from j d e → from ≤ j → j < length d → v ≡ f j → Made f from (j + 1) d (set e j v)
  made_more {j} {v} {e} z a l q = record {
    long = length-set e j v ∙ z.long;
    below = λ i h. get_or-set_other e j i v 0 (λ p. omega arith) ∙ z.below i h;
    new = each_more (λ i x. x ≡ f i) from j v e (omega (arith, z.long)) z.new q;
    above = λ i h. get_or-set_other e j i v 0 (λ p. omega arith) ∙ z.above i (omega arith);
  }

  -- the next entry is as it was
  pub made-next : {j : ℕ} {e : List ℕ} → Made f from j d e → get_or e j 0 ≡ get_or d j 0
  made-next {j} z = z.above j (le_refl j)

  -- a second run, whose entries are as f has them
  pub made-join : {mid to : ℕ} {g : ℕ → ℕ} {e x : List ℕ} → Made f from mid d e → Made g mid to e x → from ≤ mid → mid ≤ to
      → ((j : ℕ) → mid ≤ j → j < to → get_or e j 0 ≡ get_or d j 0 → g j ≡ f j) → Made f from to d x
  made-join {mid} z y a b s = record {
    long = y.long ∙ z.long;
    below = λ j h. y.below j (omega arith) ∙ z.below j h;
    new = λ j h l. below_or j mid (λ m. y.below j m ∙ z.new j h m) (λ m. y.new j m l ∙ s j m l (z.above j m));
    above = λ j h. y.above j h ∙ z.above j (omega arith);
  }

  -- a second run by the same rule
  pub made-on : {mid to : ℕ} {e x : List ℕ} → Made f from mid d e → Made f mid to e x → from ≤ mid → mid ≤ to → Made f from to d x
  made-on z y a b = made-join z y a b (λ j h l q. refl)

  -- a second run by the same rule, that begins within the first
  pub made-over : {a mid to : ℕ} {e x : List ℕ} → Made f from mid d e → Made f a to e x → from ≤ a → a ≤ mid → mid ≤ to → Made f from to d x
  made-over {a} z y l m n = record {
    long = y.long ∙ z.long;
    below = λ j h. y.below j (omega arith) ∙ z.below j h;
    new = λ j h k. below_or j a (λ b. y.below j b ∙ z.new j h (omega arith)) (λ b. y.new j b k);
    above = λ j h. y.above j h ∙ z.above j (omega arith);
  }

  -- the same run by another rule
  pub made_as : {to : ℕ} {g : ℕ → ℕ} {e : List ℕ} → Made g from to d e → ((j : ℕ) → from ≤ j → j < to → g j ≡ f j) → Made f from to d e
  made_as z s = record { long = z.long; below = z.below; new = λ j h l. z.new j h l ∙ s j h l; above = z.above }

  -- the same run up to the same entry
  pub made-to : {j to : ℕ} {e : List ℕ} → Made f from j d e → j ≡ to → Made f from to d e
  made-to {e = e} z q = subst (λ (n : ℕ). Made f from n d e) q z

-- as long a run from the same entry
pub made_at : {f : ℕ → ℕ} {a b : ℕ} {d e : List ℕ} (k : ℕ) → Made f a (a + k) d e → a ≡ b → Made f b (b + k) d e
made_at {f} {d = d} {e} k z q = subst (λ (n : ℕ). Made f n (n + k) d e) q z

-- what stood before the run, the run, and what stands behind it
pub made-parts : {f : ℕ → ℕ} {d e : List ℕ} (a k : ℕ) → Made f a (a + k) d e → a + k ≤ length d → e ≡ take a d ++ (tab k (λ i. f (a + i)) ++ drop (a + k) d)
made-parts {f} {d} {e} a k z l =
    sym (take-append-drop a e) ∙ ap₂ (λ (x y : List ℕ). x ++ y) front (sym (take-append-drop k (drop a e)) ∙ ap₂ (λ (x y : List ℕ). x ++ y) middle (drop-drop k a e ∙ back))
  where
    front : take a e ≡ take a d
    front =
        let p : length (take a e) ≡ a = length-take-le a e (omega (arith, z.long)) in
        ext_get_or 0 (take a e) (take a d) (p ∙ sym (length-take-le a d (omega arith)))
        (λ i h. let m : i < a = omega arith in get_or-take a e i 0 m ∙ z.below i m ∙ sym (get_or-take a d i 0 m))

    middle : take k (drop a e) ≡ tab k (λ i. f (a + i))
    middle =
        let p : length (take k (drop a e)) ≡ k = length-take-le k (drop a e) (omega (arith, z.long, length-drop a e)) in
        ext_get_or 0 (take k (drop a e)) (tab k (λ i. f (a + i))) (p ∙ sym (length-tab k (λ i. f (a + i))))
        (λ i h.
        let m : i < k = omega arith in
        get_or-take k (drop a e) i 0 m ∙ get_or-drop a e i 0 ∙ z.new (a + i) (omega arith) (omega arith) ∙ sym (get_or-tab k (λ i. f (a + i)) i m))

    back : drop (a + k) e ≡ drop (a + k) d
    back =
        ext_get_or 0 (drop (a + k) e) (drop (a + k) d) (length-drop (a + k) e ∙ omega (arith, z.long, length-drop (a + k) d))
        (λ i h. get_or-drop (a + k) e i 0 ∙ z.above (a + k + i) (omega arith) ∙ sym (get_or-drop (a + k) d i 0))

-- a run from the front
pub made-is : {f : ℕ → ℕ} {n : ℕ} {d e : List ℕ} → Made f 0 n d e → n ≤ length d → e ≡ tab n f ++ drop n d
made-is {f} {n} {d} {e} z l =
    made-parts 0 n (made-to z (sym (zero-add n))) (subst (λ (k : ℕ). k ≤ length d) (sym (zero-add n)) l)
    ∙ ap₂ (λ (x : List ℕ) (k : ℕ). x ++ drop k d) (tab-ext n (λ i. f (0 + i)) f (λ i h. ap f (zero-add i))) (zero-add n)

-- a run over everything
pub made_all : {f : ℕ → ℕ} {n : ℕ} {d e : List ℕ} → Made f 0 n d e → length d ≡ n → e ≡ tab n f
made_all {f} {n} {d} {e} z q =
    ext_get_or 0 e (tab n f) (z.long ∙ q ∙ sym (length-tab n f)) (λ i h. let m : i < n = omega (arith, z.long) in z.new i (omega arith) m ∙ sym (get_or-tab n f i m))

-- a run of zeros
pub made-zeros : {d e : List ℕ} (a k : ℕ) → Made (λ j. 0) a (a + k) d e → a + k ≤ length d → e ≡ take a d ++ (replicate k 0 ++ drop (a + k) d)
unfolding tab
made-zeros {d} a k z l = made-parts a k z l ∙ ap (λ (x : List ℕ). take a d ++ (x ++ drop (a + k) d)) (zeros k)
  where
    zeros : (k : ℕ) → tab k (λ j. 0) ≡ replicate k 0
    zeros zero = refl
    zeros (suc k) = ap (λ (x : List ℕ). 0 ∷ x) (zeros k)

-- a run that holds a list from the front
pub made_list : {d e : List ℕ} {n : ℕ} (s : List ℕ) → Made (λ j. get_or s j 0) 0 n d e → n ≡ length s → length s ≤ length d → e ≡ s ++ drop (length s) d
made_list {d} {n = n} s z q l =
    made-is (made-to z q) l
    ∙ ap (λ (x : List ℕ). x ++ drop (length s) d)
    (ext_get_or 0 (tab (length s) g) s (length-tab (length s) g) (λ i h. get_or-tab (length s) g i (subst (λ (k : ℕ). i < k) (length-tab (length s) g) h)))
  where
    g : ℕ → ℕ
    g j = get_or s j 0
