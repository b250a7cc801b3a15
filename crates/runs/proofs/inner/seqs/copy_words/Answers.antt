use mathlib.Core.List.{List}
use mathlib.Core.Path.{◌≡◌, refl, sym, ap, ◌∙◌, subst}
use Prim.Native.Nat.{ℕ, ◌+◌, ◌-◌, ◌*◌, ◌/◌, ◌%◌, ◌^◌, ◌≤◌}
use native.Mathlib.Nat.{le_refl}
use native.Mathlib.Omega.{arith}
use lib.Seq.{sets}
use Rattle.codes.specs.Made.{Made}
use Rattle.codes.specs.Words.{word, chars_of}
use Rattle.codes.proofs.MadeLaws.{made-to}
use Rattle.runs.proofs.CopyLaws.{made_word}
use Rattle.runs.proofs.inner.seqs.copy_words.Invariants.{over}
use Rattle.runs.proofs.inner.seqs.copy_words.Goals.{At-loop-k}
use Rattle.runs.proofs.inner.seqs.copy_words.Goals as goal

-- a word copied to `at`, over the end of the bytes that are copied up to `mid`
more : (c : At-loop-k) (mid at p x : ℕ) {d e : List ℕ}
    → let a = c.args in
    let view = a.view.now in
    Made (over view a.lead a.from) a.from mid a.buffer.now d → a.from ≤ at → at ≤ mid → mid ≤ at + 8 → at + 8 ≤ a.to → p ≡ a.lead + (at - a.from)
    → x ≡ word 8 view / 2 ^ (8 * p) % 2 ^ 64 → e ≡ sets d at (chars_of 8 8 x) → Made (over view a.lead a.from) a.from (at + 8) a.buffer.now e
more c mid at p x z f l m t s q r =
    let a = c.args in
    let view = a.view.now in
    subst (λ (e : List ℕ). Made (over view a.lead a.from) a.from (at + 8) a.buffer.now e) (sym r)
    (made_word view (λ j. (c.type_inv.view j).fits) a.from a.lead mid at x z f l m (omega arith) (q ∙ ap (λ (j : ℕ). word 8 view / 2 ^ (8 * j) % 2 ^ 64) s))

pub loop-k-preserved : goal.loop-k-preserved
loop-k-preserved c =
    let at = c.args.from + 8 * c.loop-k.k in
    made-to
    (more (goal.at.loop-k-preserved c).At-loop-k at at (c.args.lead + 8 * c.loop-k.k) c.load64.result c.loop-k.invariant (omega arith) (le_refl at) (omega arith) (omega arith) (omega arith)
    c.load64.ensures c.store64.ensures)
    (omega arith)

pub returns : goal.returns
returns c =
    made-to
    (more (goal.at.returns c).At-loop-k (c.args.from + 8 * c.loop-k.k) (c.args.to - 8) _ c.load64-2.result c.loop-k.invariant (omega arith) (omega arith) (omega arith) (omega arith) refl
    c.load64-2.ensures c.store64-2.ensures)
    (omega arith)
