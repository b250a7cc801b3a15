-- What a part says that is handed back, by its numbers and its bytes.
-- Assumes nothing.
use Rattle.std.specs.Prelude.{Result, Ok, Err}
use mathlib.Core.Path.{◌≡◌, refl, ap, ◌∙◌}
use Prim.Native.Nat.{ℕ, ◌+◌, ◌-◌, ◌%◌}
use lib.ListN.{length}
use Rattle.codes.specs.Answers.{says_by}
use Rattle.codes.specs.Codes.{per}
use Rattle.codes.specs.Refusals.{first, answer, if_done, view_tests, Outcome}
use Rattle.codes.specs.declared.refusals.Refusal.{Refusal}
use Rattle.codes.proofs.RefusalLaws.{says_through}
use Rattle.fields.specs.Answers.{numbers_say}
use Rattle.fields.specs.Fields.{slice_tests}
use Rattle.fields.specs.Spans.{Span, front, normal_part}
use Rattle.fields.specs.declared.inner.parts.Numbers.{Numbers}
use Rattle.views.specs.Answers.{part_says}
use Rattle.views.specs.Views.{lent, empty, made, sliced, normalised}
use Rattle.views.specs.declared.view.Part.{Part}

-- a part of the span s, by its numbers n and the span t that holds its bytes
module _ (s t : Span) (n : Result Numbers Refusal) (p : Part) (is : part_says p ≡ says_by (λ x. lent t x.offset.0 x.len.0) (empty s) n) where
  -- what it says by the outcome q
  pub part_by : (q : Outcome) (o len : ℕ) → numbers_say n ≡ answer q (o, len) (0, 0) → part_says p ≡ answer q (lent t o len) (empty s)
  part_by q o len e = is ∙ says_through (λ (x : Numbers). (x.offset.0, x.len.0)) (0, 0) (λ (v : ℕ × ℕ). lent t v.0 v.1) (empty s) q (o, len) n e

  -- where its bytes are those of u, and none beside a refusal
  pub part_if : (q : Outcome) (u : Span) (o len : ℕ) → numbers_say n ≡ answer q (o, len) (0, 0) → t ≡ if_done q u (front s) → part_says p ≡ answer q (lent u o len) (empty s)
  part_if q u o len e eb = part_by q o len e ∙ ap (λ (v : Span). answer q (lent v o len) (empty s)) eb ∙ only q
    where
      only : (r : Outcome) → answer r (lent (if_done r u (front s)) o len) (empty s) ≡ answer r (lent u o len) (empty s)
      only (Ok _) = refl
      only (Err _) = refl

-- the bytes themselves, or a normalised part of them
module _ (s t : Span) (n : Result Numbers Refusal) (p : Part) (is : part_says p ≡ says_by (λ x. lent t x.offset.0 x.len.0) (empty s) n) (w o len : ℕ) where
  abbrev tests : Outcome
  tests = first (view_tests w (length s.bytes) o len)

  pub made-says : t ≡ s → numbers_say n ≡ answer tests (o, len) (0, 0) → part_says p ≡ made w s o len
  unfolding made
  made-says eb e = part_by s t n p is tests o len e ∙ ap (λ (v : Span). answer tests (lent v o len) (empty s)) eb

  pub sliced-says : (start end : ℕ) → t ≡ s → numbers_say n ≡ answer (first (slice_tests w (length s.bytes) o len start end)) (o + start, end - start) (0, 0)
      → part_says p ≡ sliced w s o len start end
  unfolding sliced
  sliced-says start end eb e =
      let q = first (slice_tests w (length s.bytes) o len start end) in
      part_by s t n p is q (o + start) (end - start) e ∙ ap (λ (v : Span). answer q (lent v (o + start) (end - start)) (empty s)) eb

  pub normalised-says : numbers_say n ≡ answer tests (o % per w, len) (0, 0) → t ≡ if_done tests (normal_part w s o len) (front s) → part_says p ≡ normalised w s o len
  unfolding normalised
  normalised-says e eb = part_if s t n p is tests (normal_part w s o len) (o % per w) len e eb
