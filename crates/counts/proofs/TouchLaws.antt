-- The range that the code of each call counts afresh touches the blocks that the definition says.
-- Assumes nothing.
use mathlib.Core.List.{List, [], ◌∷◌, map}
use mathlib.Core.Path.{◌≡◌, sym, ap, ◌∙◌}
use Prim.Native.Nat.{ℕ, ◌+◌, ◌≤◌, max}
use native.Mathlib.Nat.{le_refl}
use native.Mathlib.Omega.{arith}
use lib.ListN.{length, length-map}
use Rattle.codes.specs.Codes.{code}
use Rattle.codes.specs.Widths.{width_1}
use Rattle.runs.specs.Runs.{seq_start}
use Rattle.runs.proofs.SeqLaws.{seq_end}
use Rattle.stores.specs.Stores.{push_ascii, push_seq, overwrite, cut, deed}
use Rattle.counts.specs.Blocks.{touched, recounted}
use Rattle.counts.proofs.BlockLaws.{recounted-none}

module _ (entries : List ℕ) (len : ℕ) (flags : List ℕ) where
  pub touched-letters : (ls : List ℕ) → recounted entries (len, len + length ls) flags ≡ recounted entries (touched len (deed 1 len (push_ascii ls))) flags
  touched-letters [] = sym (recounted-none entries len (len + 0) flags (omega arith)) ∙ recounted-none entries 0 0 flags (le_refl 0)
  touched-letters (l ∷ ls) =
      ap (λ (n : ℕ). recounted entries (len, n) flags) (let e : len + length (l ∷ ls) ≡ max len (len + length (map (code 1) (l ∷ ls))) = omega (arith, length-map (l ∷ ls) (code 1)) in e)

  pub touched-seq : (bs : List ℕ) (o n : ℕ) → recounted entries (len, seq_start 1 len o + n) flags ≡ recounted entries (touched len (deed 1 len (push_seq bs o n))) flags
  touched-seq bs o n = ap (λ (x : ℕ). recounted entries (len, x) flags) (omega (arith, seq_end width_1 len bs o n))

  pub touched-over : (at : ℕ) (ls : List ℕ) → recounted entries (at, at + length ls) flags ≡ recounted entries (touched len (deed 1 len (overwrite at ls))) flags
  touched-over at ls = ap (λ (n : ℕ). recounted entries (at, at + n) flags) (sym (length-map ls (code 1)))

  pub touched-cut : (n : ℕ) → n ≤ len → recounted entries (n, len) flags ≡ recounted entries (touched len (deed 1 len (cut n))) flags
  touched-cut n h = ap (λ (x : ℕ). recounted entries (n, x) flags) (let e : len ≡ max len (n + 0) = omega arith in e)
