use mathlib.Core.List.{List}
use mathlib.Core.Path.{◌≡◌, sym, subst}
use Prim.Native.Nat.{ℕ, ◌+◌, ◌-◌, ◌*◌, ◌≤◌}
use native.Mathlib.Nat.{le_refl}
use native.Mathlib.Omega.{arith}
use lib.Seq.{sets}
use Rattle.codes.specs.Made.{Made}
use Rattle.codes.specs.Words.{chars_of}
use Rattle.codes.proofs.MadeLaws.{made_none, made-to, made-over}
use Rattle.codes.specs.Widths.{width_1}
use Rattle.runs.specs.Bytes.{letters_word}
use Rattle.runs.proofs.LetterRunLaws.{letters_more}
use Rattle.runs.proofs.inner.whole.flags_words.Goals.{At-loop-j, else-loop-j-test, then-loop-j-test+else-last-j-gt8}
use Rattle.runs.proofs.inner.whole.flags_words.Goals as goal

-- eight bytes of flags more, from byte j on
module _ (c : At-loop-j) where
  abbrev Flagged : ℕ → List ℕ → Type 0
  Flagged = λ to e. Made (λ b. letters_word 1 8 c.args.letters.now (c.args.first + (b - c.args.from) * 8)) c.args.from to c.args.buffer.now e

  more : (x : ℕ) {e : List ℕ} → c.loop-j.j + 8 ≤ c.args.to → x ≡ letters_word 1 64 c.args.letters.now (c.args.first + (c.loop-j.j - c.args.from) * 8)
      → e ≡ sets c.loop-j.buffer c.loop-j.j (chars_of 8 8 x) → Flagged (c.loop-j.j + 8) e
  more x l q s = letters_more width_1 c.args.letters.now c.args.from c.args.first c.loop-j.invariant.1 (omega arith) (omega arith) (omega arith) q s

pub loop-j-preserved : goal.loop-j-preserved
loop-j-preserved c = (omega arith, more (goal.at.loop-j-preserved c).At-loop-j c.flags64.result (omega arith) c.flags64.ensures c.store64.ensures)

pub returns : goal.returns
returns c =
    let a = c.args in
    let l = c.loop-j in
    let e = (goal.at.returns c).At-loop-j in
    let end = a.to - 8 in
    let last : (mid : ℕ) → Flagged e mid c.loop-j-test.buffer → end ≤ mid → mid ≤ a.to → Flagged e a.to c.store64-2.new.out =
    λ mid z m t.
    made-over z
    (made-to
    (letters_more width_1 a.letters.now a.from a.first {a = end} (made_none (le_refl end)) (le_refl end) (omega arith) (omega (arith, z.long)) c.flags64-2.ensures c.store64-2.ensures)
    (omega arith))
    (omega arith) m (omega arith) in
    elim c.loop-j-test.branch [
      | else-loop-j-test w ↦ last l.j (subst (Flagged e l.j) (sym w.buffer-is) l.invariant.1) (omega arith) (omega arith)
      | then-loop-j-test+else-last-j-gt8 w ↦
          last (l.j + 8) (subst (Flagged e (l.j + 8)) (sym w.buffer-is) (more e w.flags64.result (omega arith) w.flags64.ensures w.store64.ensures)) (omega arith) (omega arith)
    ]
