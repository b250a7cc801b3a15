-- A loop that writes the runs of flags one after another: the next run, and what is written so far.
-- Assumes nothing.
use mathlib.Core.Bool.{false}
use mathlib.Core.List.{List, [], ◌∷◌, ◌++◌, append_assoc, append-nil}
use mathlib.Core.Path.{◌≡◌, refl, sym, ap, ap₂, ◌∙◌}
use Prim.Native.Nat.{ℕ, suc, ◌+◌, ◌-◌, ◌*◌, ◌^◌, ◌≤◌, ◌<◌}
use native.Mathlib.Decide.{ℕ_discrete}
use native.Mathlib.Omega.{arith}
use borrow.Author.Tests.{eq-eqb, ne_eqb}
use lib.ListN.{length, drop, length-append}
use lib.Seq.{sets, length-sets}
use Rattle.codes.specs.Codes.{up, chars}
use Rattle.codes.proofs.CharLaws.{length-chars, chars-fit}
use Rattle.codes.proofs.WidthLaws.{below_or}
use Rattle.fields.specs.Runs.{Run, joined, runs, runs_from, leading}
use Rattle.fields.proofs.ViewLaws.{Room}
use Rattle.fields.proofs.RunLaws.{same_to, same_within, leading_le, runs_none, runs_next, drop-chars}
use Rattle.twobit.specs.Files.{spelled, each, record_size}
use Rattle.twobit.proofs.FileLaws.{length-spelled, length-each}
use Rattle.twowrite.proofs.SetLaws.{each-one, sets-next, sets-both, sets-length}

-- a flag more is at most a run more
joined_length : (i : ℕ) (rs : List Run) → length (joined i rs) ≤ suc (length rs)
joined_length i [] = omega arith
joined_length i (r ∷ rs) =
    elim (ℕ_discrete r.start (suc i)) [
      | yes e ↦ rw (eq-eqb r.start (suc i) e) (omega arith)
      | no n ↦ rw (ne_eqb r.start (suc i) n) (omega arith)
    ]

-- there are not more runs than flags
runs_length : (i : ℕ) (fs : List ℕ) → length (runs_from i fs) ≤ length fs
unfolding runs_from
runs_length i [] = omega arith
runs_length i (f ∷ fs) =
    elim (ℕ_discrete f 0) [
      | yes e ↦ rw (eq-eqb f 0 e) (omega (arith, runs_length (suc i) fs))
      | no n ↦ rw (ne_eqb f 0 n) (omega (arith, runs_length (suc i) fs, joined_length i (runs_from (suc i) fs)))
    ]

module _ (s : List ℕ) where
  -- the next run from p on, with number i for p: it begins at q and ends at r
  pub record Next (i p q r to : ℕ) : Type 0 where
    pub on : p ≤ q
    pub some : q < r
    pub within : r ≤ to
    pub run : runs_from i (chars 1 s p (to - p)) ≡ record { start = i + (q - p); size = r - q } ∷ runs_from (i + (r - p)) (chars 1 s r (to - r))

  module _ (i p q r to : ℕ) (l : p ≤ to) (eq : q ≡ p + same_to s 0 p to) (er : r ≡ q + same_to s 1 q to) (h : 0 < length (runs_from i (chars 1 s p (to - p)))) where
    -- the flags from p on, the clear ones first, then those of the run
    abbrev fs : List ℕ
    fs = chars 1 s p (to - p)

    abbrev a : ℕ
    a = leading 0 fs

    abbrev b : ℕ
    b = leading 1 (drop a fs)

    begins : q ≤ to
    begins = omega (arith, same_within s 0 p to l)

    ends : r ≤ to
    ends = omega (arith, same_within s 1 q to begins)

    clear : a ≡ q - p
    clear = omega arith

    behind : drop a fs ≡ chars 1 s q (to - q)
    behind = drop-chars s p (to - p) a (omega (arith, begins)) ∙ ap₂ (λ (j k : ℕ). chars 1 s j k) (sym eq) (omega arith)

    long : b ≡ r - q
    long = omega (arith, ap (leading 1) behind)

    more : a < length fs
    more = below_or a (length fs) (λ m. m) (λ m. absurd (omega (arith, ap length (runs_none i fs (omega (arith, leading_le 0 fs))), h)))

    rest : drop (a + b) fs ≡ chars 1 s r (to - r)
    rest = drop-chars s p (to - p) (a + b) (omega (arith, long, ends)) ∙ ap₂ (λ (j k : ℕ). chars 1 s j k) (omega (arith, long)) (omega (arith, long))

    found : (1 ≤ b) × (runs_from i fs ≡ record { start = i + a; size = b } ∷ runs_from (i + a + b) (drop (a + b) fs))
    found = runs_next i fs (chars-fit 1 s p (to - p)) more

    from-r : i + a + b ≡ i + (r - p)
    from-r = omega (arith, long)

    pub next_run : Next i p q r to
    next_run = record {
      on = omega arith;
      some = omega (arith, found.0, long);
      within = ends;
      run = found.1
          ∙ ap₂ (λ (x y : ℕ). record { start = i + x; size = y } ∷ runs_from (i + a + b) (drop (a + b) fs)) clear long
          ∙ ap₂ (λ (x : ℕ) (l : List ℕ). record { start = i + (q - p); size = r - q } ∷ runs_from x l) from-r rest;
    }

-- the bytes of the starts of runs, and of their sizes
abbrev starts : List Run → List ℕ
starts = each false (λ r. r.start)

abbrev sizes : List Run → List ℕ
sizes = each false (λ r. r.size)

-- the first i runs are written, their starts at byte at and their sizes at byte mid; those from p on are left
pub record Written (s : List ℕ) (bo len : ℕ) (old : List ℕ) (at mid end : ℕ) (out : List ℕ) (p i : ℕ) : Type 0 where
  pub from : bo ≤ p
  pub within : p ≤ end
  pub done : List Run
  pub all : runs (chars 1 s bo len) ≡ done ++ runs_from (p - bo) (chars 1 s p (end - p))
  pub so_far : length done ≡ i
  pub bytes : out ≡ sets (sets old at (starts done)) mid (sizes done)

module _ (s : List ℕ) (bo len : ℕ) (old : List ℕ) (at mid : ℕ) where
  pub written_none : Written s bo len old at mid (bo + len) old bo 0
  unfolding each
  written_none =
      let z : bo - bo ≡ 0 = omega arith in
      let n : len ≡ bo + len - bo = omega arith in record {
        from = omega arith;
        within = omega arith;
        done = [];
        all = ap₂ (λ (i k : ℕ). runs_from i (chars 1 s bo k)) (sym z) n;
        so_far = refl;
        bytes = refl;
      }

  module _ (out : List ℕ) (p i : ℕ) (w : Written s bo len old at mid (bo + len) out p i) where
    -- the buffer is as long as it was
    pub written-length : length out ≡ length old
    written-length = sets-length (sets old at (starts w.done)) out mid (sizes w.done) w.bytes ∙ length-sets old at (starts w.done)

    -- a run is left where not all are written
    pub written-left : i < length (runs (chars 1 s bo len)) → 0 < length (runs_from (p - bo) (chars 1 s p (bo + len - p)))
    written-left h = omega (arith, h, w.so_far, ap length w.all, length-append w.done (runs_from (p - bo) (chars 1 s p (bo + len - p))))

    -- the next run is the first of those that are left
    left_next : (q r : ℕ) → Next s (p - bo) p q r (bo + len)
        → runs_from (p - bo) (chars 1 s p (bo + len - p)) ≡ record { start = q - bo; size = r - q } ∷ runs_from (r - bo) (chars 1 s r (bo + len - r))
    left_next q r x =
        let dq : p - bo + (q - p) ≡ q - bo = omega (arith, x.on, w.from) in
        let dr : p - bo + (r - p) ≡ r - bo = omega (arith, x.on, x.some, w.from) in
        x.run ∙ ap₂ (λ (j k : ℕ). record { start = j; size = r - q } ∷ runs_from k (chars 1 s r (bo + len - r))) dq dr

    -- one more is written
    pub written_next : (q r : ℕ) {half new : List ℕ} → Next s (p - bo) p q r (bo + len) → at + 4 * i + 4 ≤ mid
        → half ≡ sets out (at + 4 * i) (spelled false 4 (q - bo)) → new ≡ sets half (mid + 4 * i) (spelled false 4 (r - q)) → Written s bo len old at mid (bo + len) new r (i + 1)
    written_next q r x l y z =
        let run : Run = record { start = q - bo; size = r - q } in
        let rest : List Run = runs_from (r - bo) (chars 1 s r (bo + len - r)) in
        let long : (f : Run → ℕ) → length (each false f w.done) ≡ 4 * i = λ f. length-each false f w.done ∙ ap (λ (j : ℕ). 4 * j) w.so_far in
        let four : at + 4 * i + length (spelled false 4 (q - bo)) ≤ mid = omega (arith, l, length-spelled false 4 (q - bo)) in
        record {
          from = omega (arith, x.on, x.some, w.from);
          within = x.within;
          done = w.done ++ run ∷ [];
          all = w.all ∙ ap (λ (l : List Run). w.done ++ l) (left_next q r x) ∙ sym (append_assoc w.done (run ∷ []) rest);
          so_far = length-append w.done (run ∷ []) ∙ ap (λ (j : ℕ). j + 1) w.so_far;
          bytes = sets-both (starts w.done) (sizes w.done) (spelled false 4 (q - bo)) (spelled false 4 (r - q)) old at mid (4 * i) (long (λ r. r.start)) (long (λ r. r.size)) four
              w.bytes y z
              ∙ ap₂ (λ (a b : List ℕ). sets (sets old at a) mid b) (sym (each-one false (λ r. r.start) w.done run)) (sym (each-one false (λ r. r.size) w.done run));
        }

    -- all are written
    pub written_all : i ≡ length (runs (chars 1 s bo len)) → mid ≡ at + 4 * i → out ≡ sets old at (starts (runs (chars 1 s bo len)) ++ sizes (runs (chars 1 s bo len)))
    written_all e m =
        sets-next (starts w.done) (sizes w.done) old at (4 * i) mid (length-each false (λ r. r.start) w.done ∙ ap (λ (j : ℕ). 4 * j) w.so_far) (sym m) refl w.bytes
        ∙ ap (λ (l : List Run). sets old at (starts l ++ sizes l))
        (all_of w.done (runs_from (p - bo) (chars 1 s p (bo + len - p))) (runs (chars 1 s bo len)) w.all (w.so_far ∙ e))
      where
        all_of : (a b c : List Run) → c ≡ a ++ b → length a ≡ length c → a ≡ c
        all_of a [] c x y = sym (x ∙ append-nil a)
        all_of a (r ∷ b) c x y = absurd (omega (arith, ap length x, y, length-append a (r ∷ b)))

-- a view of flags has few runs
pub runs_few : (s : List ℕ) (bo len : ℕ) → Room 1 (length s) bo len → length (runs (chars 1 s bo len)) ≤ 2 ^ 31
runs_few s bo len r = omega (arith, runs_length 0 (chars 1 s bo len), length-chars 1 s bo len, r.fits, r.small)

-- the bytes of the record of a view of flags
pub record_size-is : (s : List ℕ) (bo len : ℕ) {count size : ℕ} → count ≡ length (runs (chars 1 s bo len)) → size ≡ up 2 len → 16 + 8 * count + size ≡ record_size (chars 1 s bo len)
unfolding record_size
record_size-is s bo len x y = ap₂ (λ (m n : ℕ). 16 + 8 * m + n) x (y ∙ ap (up 2) (sym (length-chars 1 s bo len)))
