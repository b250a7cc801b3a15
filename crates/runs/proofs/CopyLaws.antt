-- The laws of bytes copied by words.
-- Assumes nothing.
use mathlib.Core.List.{List}
use mathlib.Core.Path.{◌≡◌, ap, ◌∙◌}
use Prim.Native.Nat.{ℕ, ◌+◌, ◌-◌, ◌*◌, ◌/◌, ◌%◌, ◌^◌, ◌≤◌, ◌<◌}
use native.Mathlib.Omega.{arith}
use lib.ListN.{length, get_or}
use lib.Seq.{sets}
use Rattle.codes.specs.Made.{Made}
use Rattle.codes.specs.Words.{word, chars_of}
use Rattle.codes.proofs.MadeLaws.{made_none, made-over, made-to}
use Rattle.codes.proofs.TabLaws.{Below-of}
use Rattle.codes.proofs.WordLaws.{length-chars_of}
use Rattle.fields.proofs.LoadLaws.{loaded_char}
use Rattle.fields.proofs.WriteLaws.{made-sets}

module _ (s : List ℕ) (bytes : (i : ℕ) → get_or s i 0 < 256) where
  -- a word copied to `at`, over the end of a run that has come to `mid` or behind it
  pub made_word : (from lead mid at x : ℕ) {d e : List ℕ} → Made (λ j. get_or s (lead + (j - from)) 0) from mid d e
      → from ≤ at → at ≤ mid → mid ≤ at + 8 → at + 8 ≤ length d → x ≡ word 8 s / 2 ^ (8 * (lead + (at - from))) % 2 ^ 64
      → Made (λ j. get_or s (lead + (j - from)) 0) from (at + 8) d (sets e at (chars_of 8 8 x))
  made_word from lead mid at x {d} {e} z a b c l q =
      made-over z
      (made-to (made-sets (chars_of 8 8 x) (made_none {to = at} (omega arith)) (omega arith) (omega (arith, z.long, length-chars_of 8 8 x))
      (λ i h. loaded_char s (Below-of 8 s bytes) (lead + (at - from)) x q i (omega (arith, length-chars_of 8 8 x)) ∙ ap (λ (y : ℕ). get_or s y 0) (omega arith)))
      (ap (λ (y : ℕ). at + y) (length-chars_of 8 8 x)))
      a b c
