-- The laws of characters that a call leaves: those below the old and the new length that it does not overwrite.
-- Assumes nothing.
use Rattle.std.specs.Prelude.{Ok}
use mathlib.Core.List.{List, [], ◌∷◌, map}
use mathlib.Core.Path.{◌≡◌, refl, sym, ◌∙◌}
use Prim.Native.Nat.{ℕ, ◌+◌, ◌*◌, ◌/◌, ◌^◌, ◌≤◌, ◌<◌}
use native.Mathlib.Nat.{zero-div, zero-mod, le-div_iff_mul-le}
use native.Mathlib.Omega.{arith}
use lib.ListN.{length, get_or, length-map, get_or-eq_default}
use lib.Pow.{pow_pos}
use Rattle.codes.specs.Codes.{IsWidth, per, char_at, code}
use Rattle.codes.specs.Refusals.{if_done}
use Rattle.codes.specs.Words.{pack}
use Rattle.codes.proofs.CharLaws.{char_at-lt, char_at-pack, length-pack}
use Rattle.codes.proofs.WidthLaws.{below_or, per_pos}
use Rattle.stores.specs.Changes.{Overwrites}
use Rattle.runs.specs.Runs.{seq_chars, splice, written, overwritten}
use Rattle.stores.specs.Stores.{Call, clear, push_ascii, push_seq, overwrite, cut, outcome, still, deed, span, buffer_after, answered, after}
use Rattle.stores.proofs.CallLaws.{by_outcome}
use Rattle.runs.proofs.SeqLaws.{seq_lt}
use Rattle.runs.proofs.SpliceLaws.{splice-old, splice-far, splice-lt, codes_lt}

module _ {w : ℕ} (W : IsWidth w) where
  -- past the last byte every character is 0
  char_at-out : (bs : List ℕ) (i : ℕ) → length bs * per w ≤ i → char_at w bs i ≡ 0
  unfolding char_at
  char_at-out bs i h = rw (get_or-eq_default bs 0 {n = i / per w} ((le-div_iff_mul-le (per_pos W)).1 h), zero-div, zero-mod)

  module _ (bs : List ℕ) where
    spliced-char : (at : ℕ) (cs : List ℕ) (stop i : ℕ) → ((i : ℕ) → get_or cs i 0 < 2 ^ w) → (at ≤ i → i < stop → ⊥)
        → char_at w (pack w (length bs) (splice (char_at w bs) at cs stop)) i ≡ char_at w bs i
    spliced-char at cs stop i fit h =
        let f : ℕ → ℕ = splice (char_at w bs) at cs stop in
        below_or i (length bs * per w)
        (λ l.
        char_at-pack W (length bs) f (splice-lt (char_at w bs) at cs stop (2 ^ w) (char_at-lt w bs) fit) i l
        ∙ below_or i at (λ a. splice-old (char_at w bs) at cs stop i a) (λ a. below_or i stop (λ b. absurd (h a b)) (λ b. splice-far (char_at w bs) at cs stop i b)))
        (λ l. char_at-out (pack w (length bs) f) i (rw (length-pack w (length bs) f) l) ∙ sym (char_at-out bs i l))

    from-char : (at : ℕ) (cs : List ℕ) (i : ℕ) → ((i : ℕ) → get_or cs i 0 < 2 ^ w) → i < at → char_at w (written w bs at cs) i ≡ char_at w bs i
    unfolding written
    from-char at cs i fit h = spliced-char at cs _ i fit (λ a b. omega arith)

    pub over-char : (at : ℕ) (ls : List ℕ) (i : ℕ) → (at ≤ i → i < at + length ls → ⊥) → char_at w (overwritten w bs at (map (code w) ls)) i ≡ char_at w bs i
    unfolding overwritten
    over-char at ls i h = spliced-char at (map (code w) ls) _ i (codes_lt W ls) (λ a b. h a (omega (arith, length-map ls (code w))))

    module _ (len : ℕ) where
      deed-char : (c : Call) (i : ℕ) → i < len → i < (span w len c).2 → (Overwrites c i → ⊥) → char_at w (buffer_after w bs (deed w len c)) i ≡ char_at w bs i
      deed-char clear i l m h = absurd (omega arith)
      deed-char (push_ascii []) i l m h = refl
      deed-char (push_ascii (x ∷ xs)) i l m h = from-char len (map (code w) (x ∷ xs)) i (codes_lt W (x ∷ xs)) l
      deed-char (push_seq vs o n) i l m h = from-char len (seq_chars w len vs o n) i (seq_lt W len vs o n) l
      deed-char (overwrite at ls) i l m h = over-char at ls i (λ a b. h (a, b))
      deed-char (cut n) i l m h = from-char n [] i (λ j. pow_pos w) m

      -- a character that a call leaves where it is done
      pub char_by : (c : Call) (i : ℕ) → ((Ok tt) ≡ outcome w (length bs) len c → char_at w (buffer_after w bs (deed w len c)) i ≡ char_at w bs i)
          → char_at w (after w bs len c) i ≡ char_at w bs i
      unfolding after
      char_by c i h = by_outcome (λ o. char_at w (buffer_after w bs (if_done o (deed w len c) still)) i ≡ char_at w bs i) (outcome w (length bs) len c) h (λ r e. refl)

      -- a character below the old and the new length that no call which is done overwrites
      pub char_kept : (c : Call) (i : ℕ) → i < len → i < (answered w (length bs) len c).values.2 → ((Ok tt) ≡ outcome w (length bs) len c → Overwrites c i → ⊥)
          → char_at w (after w bs len c) i ≡ char_at w bs i
      unfolding answered
      char_kept c i l m h = char_by c i (λ e. deed-char c i l (rw (sym e) at m) (h e))
