-- The word of a list is made of the words of its two parts. Assumes nothing.
use Rattle.std.specs.Prelude.{Ok}
use mathlib.Core.Path.{sym, ap, ap₂, ◌∙◌}
use Prim.Native.Nat.{ℕ}
use native.Mathlib.Omega.{arith}
use borrow.Author.Tests.{lt-ltb, le-ltb}
use mathlib.Core.List.{List, map}
use native.Mathlib.Nat.{zero-add, le_of_eq}
use lib.ListN.{take, drop, length-drop}
use lib.Seq.{length-take-le, take_all}
use Rattle.codes.specs.Codes.{lossy}
use Rattle.codes.specs.Refusals.{answer}
use Rattle.codes.specs.Words.{word}
use Rattle.codes.proofs.CodeLaws.{lossy-lt}
use Rattle.codes.proofs.WordLaws.{word_cut, word_fits}
use Rattle.codes.proofs.Pairs.{halves_are}
use Rattle.codes.proofs.RefusalLaws.{ltb-zero}
use Rattle.codes.proofs.words.pack_kmer_u128_lossy.Goals as goal

-- the word of letters
abbrev of : List ℕ → ℕ
of s = word 2 (map lossy s)

pub returns-then-n-gt64 : goal.returns-then-n-gt64
returns-then-n-gt64 c = simp (ltb-zero, lt-ltb _ _ c.if-n-gt64.true)

pub returns-then-n-le32 : goal.returns-then-n-le32
returns-then-n-le32 c =
    let s : List ℕ = c.args.letters.now in
    simp (ltb-zero, le-ltb _ _ c.if-n-gt64.false)
    (ap (λ (p : ℕ × ℕ). answer (Ok tt) p (0, 0))
    (ap (λ (x : ℕ). (x, 0)) c.pack.ensures ∙ halves_are (of s) (of s) 0 (word_fits 2 lossy lossy-lt 32 s (omega arith)) (zero-add _)))

pub slice_bounds-pack-end : goal.slice_bounds-pack-end
slice_bounds-pack-end c = sym (length-take-le 32 c.args.letters.now (omega arith))

pub pack-requires-2 : goal.pack-requires-2
pack-requires-2 c = le_of_eq (length-take-le 32 c.args.letters.now (omega arith))

pub returns : goal.returns
returns c =
    let s : List ℕ = c.args.letters.now in
    simp (ltb-zero, le-ltb _ _ c.if-n-gt64.false)
    (ap (λ (p : ℕ × ℕ). answer (Ok tt) p (0, 0))
    (ap₂ (λ (a b : ℕ). (a, b)) c.pack-2.ensures (c.pack-3.ensures ∙ ap of (take_all _ (drop 32 s) (le_of_eq (length-drop 32 s))))
    ∙ halves_are (of s) (of (take 32 s)) (of (drop 32 s)) (word_fits 2 lossy lossy-lt 32 (take 32 s) (le_of_eq (length-take-le 32 s (omega arith)))) (word_cut 2 lossy 32 s (omega arith))))
