-- Only the characters of a view count for the parts made of it: accepted views with equal characters are sliced and normalised to parts of equal
-- number, length and characters. (Their bytes and places are those of the buffers that were lent.)
-- Assumes nothing.
use Rattle.std.specs.Prelude.{Ok, Err}
use mathlib.Core.List.{List, [], ◌∷◌}
use mathlib.Core.Path.{◌≡◌, refl, sym, ap, ◌∙◌}
use Prim.Native.Nat.{ℕ, ◌+◌, ◌-◌}
use lib.ListN.{length, take, drop}
use Rattle.codes.specs.Codes.{IsWidth, chars}
use Rattle.codes.specs.Refusals.{Answer, first, if_done, number_of, bad_end, bad_start, Outcome}
use Rattle.codes.proofs.CharLaws.{same_length}
use Rattle.codes.proofs.Viewed.{Same, viewed}
use Rattle.fields.specs.Fields.{slice_tests}
use Rattle.fields.specs.Spans.{Span}
use Rattle.fields.proofs.ViewLaws.{slice_cut}
use Rattle.views.specs.Views.{Lent, lent, empty, sliced, normalised}
use Rattle.views.proofs.SliceLaws.{chars-between, normalised-holds}

-- the characters of a part
abbrev pub chars_in : ℕ → Lent → List ℕ
chars_in w p = chars w p.span.bytes p.offset p.len

-- parts of equal number, length and characters
pub record Alike (w : ℕ) (x y : Answer Lent) : Type 0 where
  pub no : x.no ≡ y.no
  pub len : x.values.len ≡ y.values.len
  pub characters : chars_in w x.values ≡ chars_in w y.values

-- a slice's part, by its outcome
len-if : (q : Outcome) (p z : Lent) → (if_done q p z).len ≡ if_done q p.len z.len
len-if (Ok tt) p z = refl
len-if (Err r) p z = refl

chars-if : (w : ℕ) (q : Outcome) (p z : Lent) → chars_in w (if_done q p z) ≡ if_done q (chars_in w p) (chars_in w z)
chars-if w (Ok tt) p z = refl
chars-if w (Err r) p z = refl

same_if : (q : Outcome) (xs ys zs : List ℕ) → (q ≡ Ok tt → xs ≡ ys) → if_done q xs zs ≡ if_done q ys zs
same_if (Ok tt) xs ys zs h = h refl
same_if (Err r) xs ys zs h = refl

module _ {w : ℕ} (s t : Span) {o m p n : ℕ} (v : Same w s.bytes o m t.bytes p n) where
  pub normalised-viewed : IsWidth w → Alike w (normalised w s o m) (normalised w t p n)
  normalised-viewed W =
      let a = normalised-holds s o m v.left W in
      let b = normalised-holds t p n v.right W in
      let same = a.1.characters ∙ v.same ∙ sym b.1.characters in
      record { no = a.0 ∙ sym b.0; len = same_length w _ _ _ _ _ _ same; characters = same }

  module _ (start end : ℕ) where
    between : first (slice_tests w (length s.bytes) o m start end) ≡ Ok tt → first (slice_tests w (length t.bytes) p n start end) ≡ Ok tt
        → chars w s.bytes (o + start) (end - start) ≡ chars w t.bytes (p + start) (end - start)
    between d e =
        let a = slice_cut w (length s.bytes) o m start end d in
        let b = slice_cut w (length t.bytes) p n start end e in
        chars-between w s.bytes o m start end a.starts a.ends
        ∙ ap (λ (cs : List ℕ). take (end - start) (drop start cs)) v.same
        ∙ sym (chars-between w t.bytes p n start end b.starts b.ends)

    pub sliced-viewed : Alike w (sliced w s o m start end) (sliced w t p n start end)
    unfolding sliced chars
    sliced-viewed =
        let q : Outcome = first (slice_tests w (length s.bytes) o m start end) in
        let r : Outcome = first (slice_tests w (length t.bytes) p n start end) in
        let e : q ≡ r = viewed v (λ k _. bad_end k end ∷ bad_start start end ∷ []) (λ u k cs. u) in
        let x : Lent = lent s (o + start) (end - start) in
        let y : Lent = lent t (p + start) (end - start) in
        record {
          no = ap number_of e;
          len = len-if q x (empty s) ∙ ap (λ (u : Outcome). if_done u (end - start) 0) e ∙ sym (len-if r y (empty t));
          characters = chars-if w q x (empty s)
              ∙ same_if q (chars_in w x) (chars_in w y) [] (λ d. between d (sym e ∙ d))
              ∙ ap (λ (u : Outcome). if_done u (chars_in w y) []) e
              ∙ sym (chars-if w r y (empty t));
        }
