-- Each call changes only the bytes that its run names: none where it is refused or has no letters to push; from old length / C8
-- to ceil(end / C8) + 48 for a push, from m / C8 to ceil(m / C8) + 48 for a cut, the first 48 for a clear; the bytes of the
-- characters for an overwrite, and of these only the overwritten characters.
-- Assumes nothing.
use Rattle.std.specs.Prelude.{Ok}
use mathlib.Core.List.{List, [], ◌∷◌, map}
use mathlib.Core.Path.{◌≡◌, refl, sym, ap, ◌∙◌, subst}
use Prim.Native.Nat.{ℕ, ◌+◌, ◌*◌, ◌/◌, ◌≤◌, ◌<◌, zero-le}
use native.Mathlib.Nat.{add-zero, le_of_eq, mul-le-mul_right}
use native.Mathlib.Omega.{arith}
use lib.ListN.{length, get_or, length-map, get_or-eq_default}
use Rattle.codes.specs.Codes.{IsWidth, per, up, trailing, char_at, code}
use Rattle.codes.specs.Refusals.{if_done}
use Rattle.codes.specs.Words.{pack}
use Rattle.codes.proofs.CharLaws.{get_or-pack, length-pack, pack-ext, pack-char_at}
use Rattle.codes.proofs.WidthLaws.{below_or, up-hi, up_le}
use Rattle.stores.specs.Changes.{run_start, run_end}
use Rattle.stores.specs.Stores.{Call, clear, push_ascii, push_seq, overwrite, cut, outcome, still, deed, buffer_after, after}
use Rattle.runs.specs.Runs.{seq_start, splice, overwritten}
use Rattle.runs.specs.Runs as Runs
use Rattle.runs.proofs.FreshLaws.{kept_below, kept_above}
use Rattle.stores.proofs.CallLaws.{by_outcome}
use Rattle.stores.proofs.KeptLaws.{over-char, char_by}
use Rattle.runs.proofs.SeqLaws.{seq_end}
use Rattle.runs.proofs.SpliceLaws.{splice-old, splice-far}

module _ {w : ℕ} (W : IsWidth w) (bs : List ℕ) (bytes : (b : ℕ) → get_or bs b 0 < 256) (len : ℕ) where
  -- a splice changes no byte before its first character, nor from the one where it stops
  spliced-out : (at : ℕ) (cs : List ℕ) (stop u j : ℕ) → stop ≤ u * per w → (at / per w ≤ j → j < u → ⊥) → get_or (pack w (length bs) (splice (char_at w bs) at cs stop)) j 0 ≡ get_or bs j 0
  spliced-out at cs stop u j s h =
      below_or j (length bs)
      (λ l.
      get_or-pack w (length bs) (splice (char_at w bs) at cs stop) j l
      ∙ below_or j (at / per w)
      (λ a. kept_below W bs at cs stop bytes j a)
      (λ a. below_or j u (λ b. absurd (h a b)) (λ b. kept_above W bs at cs stop bytes j (omega (arith, mul-le-mul_right (per w) b)))))
      (λ l.
      get_or-eq_default (pack w (length bs) (splice (char_at w bs) at cs stop)) 0 {n = j} (omega (arith, length-pack w (length bs) (splice (char_at w bs) at cs stop)))
      ∙ sym (get_or-eq_default bs 0 {n = j} l))

  from_out : (at : ℕ) (cs : List ℕ) (e j : ℕ) → at + length cs ≡ e → (at / per w ≤ j → j < up w e + trailing → ⊥) → get_or (Runs.written w bs at cs) j 0 ≡ get_or bs j 0
  unfolding Runs.written
  from_out at cs e j q h = spliced-out at cs ((up w (at + length cs) + trailing) * per w) (up w e + trailing) j (le_of_eq (ap (λ (x : ℕ). (up w x + trailing) * per w) q)) h

  over-out : (at : ℕ) (cs : List ℕ) (e j : ℕ) → at + length cs ≡ e → (at / per w ≤ j → j < up w e → ⊥) → get_or (overwritten w bs at cs) j 0 ≡ get_or bs j 0
  unfolding overwritten
  over-out at cs e j q h = spliced-out at cs (at + length cs) (up w e) j (subst (λ (x : ℕ). x ≤ up w e * per w) (sym q) (up-hi W e)) h

  over_none : (at : ℕ) → overwritten w bs at [] ≡ bs
  unfolding overwritten
  over_none at =
      pack-ext W (length bs) (splice (char_at w bs) at [] (at + 0)) (char_at w bs)
      (λ i l. below_or i at (λ a. splice-old (char_at w bs) at [] (at + 0) i a) (λ a. splice-far (char_at w bs) at [] (at + 0) i (omega arith)))
      ∙ pack-char_at W bs bytes

  deed-out : (c : Call) (j : ℕ) → (run_start w len c ≤ j → j < run_end w len c → ⊥) → get_or (buffer_after w bs (deed w len c)) j 0 ≡ get_or bs j 0
  deed-out clear j h = from_out 0 [] 0 j refl (λ a b. h zero-le (omega (arith, up_le W 0)))
  deed-out (push_ascii []) j h = refl
  deed-out (push_ascii (l ∷ ls)) j h = from_out len (map (code w) (l ∷ ls)) (len + length (l ∷ ls)) j (ap (λ (n : ℕ). len + n) (length-map (l ∷ ls) (code w))) h
  deed-out (push_seq vs o n) j h = from_out len _ (seq_start w len o + n) j (seq_end W len vs o n) h
  deed-out (overwrite at []) j h = ap (λ (l : List ℕ). get_or l j 0) (over_none at)
  deed-out (overwrite at (l ∷ ls)) j h = over-out at (map (code w) (l ∷ ls)) (at + length (l ∷ ls)) j (ap (λ (n : ℕ). at + n) (length-map (l ∷ ls) (code w))) h
  deed-out (cut n) j h = from_out n [] n j (add-zero n) h

  -- a byte that is not in the run of a call that is done
  pub written : (c : Call) (j : ℕ) → ((Ok tt) ≡ outcome w (length bs) len c → run_start w len c ≤ j → j < run_end w len c → ⊥) → get_or (after w bs len c) j 0 ≡ get_or bs j 0
  unfolding after
  written c j h =
      by_outcome (λ o. get_or (buffer_after w bs (if_done o (deed w len c) still)) j 0 ≡ get_or bs j 0) (outcome w (length bs) len c) (λ e. deed-out c j (h e)) (λ r e. refl)

  -- every other character than those that are overwritten
  pub overwritten-kept : (at : ℕ) (ls : List ℕ) (i : ℕ) → (at ≤ i → i < at + length ls → ⊥) → char_at w (after w bs len (overwrite at ls)) i ≡ char_at w bs i
  overwritten-kept at ls i h = char_by W bs len (overwrite at ls) i (λ e. over-char W bs at ls i h)
