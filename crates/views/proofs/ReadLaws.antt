-- Reading a slice, by what the calls say in turn: the tests, the view, its slice, the slice normalised, and its character.
-- Assumes nothing.
use Rattle.std.specs.Prelude.{Result, Ok}
use denote.Ref.{Bor}
use mathlib.Core.List.{List}
use mathlib.Core.Path.{◌≡◌, ap, ◌∙◌}
use Prim.Native.Nat.{ℕ}
use lib.ListN.{length}
use Rattle.codes.specs.Answers.{says}
use Rattle.codes.specs.Codes.{IsWidth}
use Rattle.codes.specs.Refusals.{Answer, answer, first, if_done, Outcome}
use Rattle.codes.specs.declared.refusals.Refusal.{Refusal}
use Rattle.fields.specs.Fields.{slice_tests, got}
use Rattle.fields.specs.Spans.{span_of}
use Rattle.views.specs.Answers.{part_says}
use Rattle.views.specs.Views.{Lent, made, sliced, normalised, got_sliced}
use Rattle.views.specs.declared.view.Part.{Part}
use Rattle.views.proofs.SliceLaws.{got_of, sliced_of, normalised_of, got_sliced-is}

-- a call on the view of a part
abbrev slice_says : ℕ → Part → Part → ℕ → ℕ → Type 0
slice_says k p q start end = part_says q ≡ sliced k (span_of p.view.bytes) p.view.offset.0 p.view.len.0 start end

abbrev normal_says : ℕ → Part → Part → Type 0
normal_says k p q = part_says q ≡ normalised k (span_of p.view.bytes) p.view.offset.0 p.view.len.0

pub got_sliced-says : {k : ℕ} (W : IsWidth k) (s : Bor (List ℕ)) (o len start end i : ℕ) (p₁ p₂ p₃ : Part) (g : Result ℕ Refusal)
    → Ok tt ≡ first (slice_tests k (length s.now) o len start end)
    → part_says p₁ ≡ made k (span_of s) o len
    → slice_says k p₁ p₂ start end
    → normal_says k p₂ p₃
    → says g ≡ got k p₃.view.bytes.now p₃.view.offset.0 p₃.view.len.0 i
    → says g ≡ got_sliced k s.now o len start end i
got_sliced-says {k} W s o len start end i p₁ p₂ p₃ g e₀ e₁ e₂ e₃ e₄ =
    read ∙ ap (λ (q : Outcome). if_done q (got_of k (normalised_of k (sliced_of k (made k (span_of s) o len).values start end).values).values i) (answer q 0 0)) e₀
    ∙ got_sliced-is W (span_of s) o len start end i
  where
    read : says g ≡ got_of k (normalised_of k (sliced_of k (made k (span_of s) o len).values start end).values).values i
    read = e₄ ∙ ap (λ (z : Answer Lent). got_of k z.values i) (e₃ ∙ ap (λ (y : Answer Lent). normalised_of k y.values) (e₂ ∙ ap (λ (p : Answer Lent). sliced_of k p.values start end) e₁))
