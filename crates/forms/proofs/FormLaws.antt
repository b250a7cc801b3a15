-- A form is written part by part; and it is judged part by part.
-- Assumes nothing.
use Rattle.std.specs.Prelude.{Some, None}
use mathlib.Core.Bool.{Bool, true, false, ◌&&◌}
use mathlib.Core.List.{List, [], ◌∷◌, ◌++◌, append_assoc}
use mathlib.Core.Path.{◌≡◌, refl, sym, ap, ap₂, ◌∙◌, subst}
use Prim.Native.Nat.{ℕ, suc, ◌+◌, ◌^◌, ◌≤◌, ◌<◌}
use native.Mathlib.Nat.{add_assoc}
use native.Mathlib.Omega.{arith}
use lib.Dec.{leb, eqb}
use lib.ListN.{length, get_or, take, drop, length-append}
use borrow.Author.Tests.{eq-eqb, ne_eqb, le-leb, lt-leb}
use Rattle.codes.specs.Codes.{up, pick, chars}
use Rattle.codes.specs.Words.{packed}
use Rattle.codes.proofs.CharLaws.{length-chars}
use Rattle.codes.specs.Widths.{width_2}
use Rattle.codes.proofs.WordLaws.{Below}
use Rattle.forms.specs.Forms.{stored, form_size}
use Rattle.forms.specs.Reading.{head_of, sound_from, length_of, spare_clear, right_tracks, is_form, form_length}
use Rattle.forms.specs.Numbers.{Spelling, spelt, spelling, Fits}
use Rattle.forms.proofs.NumberLaws.{spelling-fits}
use Rattle.forms.proofs.TrackLaws.{length-packed}
use Rattle.codes.proofs.Turns.{put_on}

module _ (xs : List ℕ) (ao : ℕ) (ys : List ℕ) (bo n : ℕ) (old : List ℕ) where
  -- the base bytes behind the head, and the flag bytes behind them
  pub form_written : (o₁ o₂ o₃ : List ℕ) (i j : ℕ) → i ≡ suc (length (spelt 5 n)) → j ≡ i + up 2 n → o₁ ≡ 1 ∷ (spelt 5 n ++ drop (suc (length (spelt 5 n))) old)
      → o₂ ≡ take i o₁ ++ (packed 2 (chars 2 xs ao n) ++ drop (i + up 2 n) o₁) → o₃ ≡ take j o₂ ++ (packed 1 (chars 1 ys bo n) ++ drop (j + up 1 n) o₂)
      → o₃ ≡ stored (chars 2 xs ao n) (chars 1 ys bo n) ++ drop (form_size n) old
  unfolding stored
  form_written o₁ o₂ o₃ i j ei ej e₁ e₂ e₃ =
      put_on j (up 1 n) ((1 ∷ spelt 5 n) ++ ps) qs old o₂ o₃ long (second ∙ ap (λ (k : ℕ). ((1 ∷ spelt 5 n) ++ ps) ++ drop k old) (sym ej)) e₃
      ∙ ap₂ (λ (l : List ℕ) (k : ℕ). l ++ drop k old)
      (append_assoc (1 ∷ spelt 5 n) ps qs ∙ ap (λ (k : ℕ). 1 ∷ (spelt 5 k ++ (ps ++ qs))) (sym (length-chars 2 xs ao n)))
      (ap (λ (k : ℕ). k + up 1 n) (ej ∙ ap (λ (k : ℕ). k + up 2 n) ei) ∙ add_assoc (suc (length (spelt 5 n))) (up 2 n) (up 1 n))
    where
      ps : List ℕ
      ps = packed 2 (chars 2 xs ao n)

      qs : List ℕ
      qs = packed 1 (chars 1 ys bo n)

      second : o₂ ≡ ((1 ∷ spelt 5 n) ++ ps) ++ drop (i + up 2 n) old
      second = put_on i (up 2 n) (1 ∷ spelt 5 n) ps old o₁ o₂ (sym ei) (e₁ ∙ ap (λ (k : ℕ). 1 ∷ (spelt 5 n ++ drop k old)) (sym ei)) e₂

      long : length ((1 ∷ spelt 5 n) ++ ps) ≡ j
      long = length-append (1 ∷ spelt 5 n) ps ∙ ap₂ (λ (p q : ℕ). p + q) (sym ei) (length-packed width_2 (chars 2 xs ao n) ∙ ap (up 2) (length-chars 2 xs ao n)) ∙ sym ej

-- ---- the head of a form

pub head_empty : (bs : List ℕ) → length bs ≡ 0 → None ≡ head_of bs
unfolding head_of
head_empty [] e = refl
head_empty (b ∷ bs) e = absurd (omega arith)

pub head_other : (bs : List ℕ) → (get_or bs 0 0 ≡ 1 → ⊥) → None ≡ head_of bs
unfolding head_of
head_other [] h = refl
head_other (b ∷ bs) h = rw (ne_eqb b 1 h)

pub head_one : (bs : List ℕ) → get_or bs 0 0 ≡ 1 → spelling 5 (drop 1 bs) ≡ head_of bs
unfolding head_of
head_one [] e = absurd (omega arith)
head_one (b ∷ bs) e = rw (eq-eqb b 1 e)

pub head_fits : (bs : List ℕ) → Below 8 bs → Fits 5 (head_of bs)
unfolding head_of
head_fits [] h = tt
head_fits (b ∷ bs) h = by (eqb b 1)
  where
    by : (t : Bool) → Fits 5 (pick t (spelling 5 bs) None)
    by true = spelling-fits 5 bs h.1
    by false = tt

-- ---- whether bytes are a form, where the head is known

pub is_form-none : (bs : List ℕ) → head_of bs ≡ None → is_form bs ≡ false
unfolding is_form
is_form-none bs e = ap (sound_from bs) e

pub is_form-some : (bs : List ℕ) (s : Spelling) → head_of bs ≡ Some s → is_form bs ≡ (leb s.value (2 ^ 29) && right_tracks bs s.value (suc s.size))
unfolding is_form
is_form-some bs s e = ap (sound_from bs) e

pub is_form-long : (bs : List ℕ) (s : Spelling) → head_of bs ≡ Some s → 2 ^ 29 < s.value → is_form bs ≡ false
is_form-long bs s e h = is_form-some bs s e ∙ ap (λ (b : Bool). b && right_tracks bs s.value (suc s.size)) (lt-leb s.value (2 ^ 29) h)

pub is_form-tracks : (bs : List ℕ) (s : Spelling) → head_of bs ≡ Some s → s.value ≤ 2 ^ 29 → is_form bs ≡ right_tracks bs s.value (suc s.size)
is_form-tracks bs s e h = is_form-some bs s e ∙ ap (λ (b : Bool). b && right_tracks bs s.value (suc s.size)) (le-leb s.value (2 ^ 29) h)

-- what the judgement of bytes tells
pub checked_none : (bs : List ℕ) → pick (is_form bs) (head_of bs) None ≡ None → is_form bs ≡ false
checked_none bs h = by (is_form bs) refl h
  where
    by : (t : Bool) → is_form bs ≡ t → pick t (head_of bs) None ≡ None → is_form bs ≡ false
    by true e h = is_form-none bs h
    by false e h = e

pub form_length-is : (bs : List ℕ) (s : Spelling) → head_of bs ≡ Some s → form_length bs ≡ s.value
unfolding form_length
form_length-is bs s e = ap length_of e

pub record Judged (bs : List ℕ) (s : Spelling) : Type 0 where
  pub accepted : is_form bs ≡ true
  pub head : head_of bs ≡ Some s
  pub long : form_length bs ≡ s.value
  pub short : s.size ≤ 5

pub checked_some : (bs : List ℕ) (s : Spelling) → Below 8 bs → pick (is_form bs) (head_of bs) None ≡ Some s → Judged bs s
checked_some bs s h e = by (is_form bs) refl e
  where
    by : (t : Bool) → is_form bs ≡ t → pick t (head_of bs) None ≡ Some s → Judged bs s
    by true q e = record { accepted = q; head = e; long = form_length-is bs s e; short = (subst (Fits 5) e (head_fits bs h)).1 }
    by false q e = let z : ◌≡◌ {A = ℕ} 0 1 = cc in absurd (omega arith)

-- ---- the tracks of a form

module _ (bs : List ℕ) (n body : ℕ) where
  pub tracks_end : (length bs ≡ body + (up 2 n + up 1 n) → ⊥) → false ≡ right_tracks bs n body
  tracks_end h = rw (ne_eqb (length bs) (body + (up 2 n + up 1 n)) h)

  pub tracks_base : length bs ≡ body + (up 2 n + up 1 n) → spare_clear 2 n (take (up 2 n) (drop body bs)) ≡ false → false ≡ right_tracks bs n body
  tracks_base e f = rw (eq-eqb (length bs) (body + (up 2 n + up 1 n)) e) (rw f)

  pub tracks_flag : length bs ≡ body + (up 2 n + up 1 n) → spare_clear 2 n (take (up 2 n) (drop body bs)) ≡ true → spare_clear 1 n (drop (body + up 2 n) bs) ≡ right_tracks bs n body
  tracks_flag e t = rw (eq-eqb (length bs) (body + (up 2 n + up 1 n)) e) (rw t)
