-- Each test is one of the splice. Assumes nothing.
use mathlib.Core.Path.{sym, ◌∙◌}
use Prim.Native.Nat.{◌-◌}
use native.Mathlib.Omega.{arith}
use Rattle.runs.specs.Bytes.{fresh_char}
use Rattle.runs.proofs.SpliceLaws.{splice-old, splice-new, splice-far, get_or-codes, get_or-codes_out}
use Rattle.runs.proofs.inner.edges.fresh_char.Goals as goal

pub returns-then-i-at : goal.returns-then-i-at
unfolding fresh_char
returns-then-i-at g c = c.digit.ensures ∙ sym (splice-old _ _ _ _ _ (omega arith))

pub returns-then-stop-i : goal.returns-then-stop-i
unfolding fresh_char
returns-then-stop-i g c = c.digit-then-stop-i.ensures ∙ sym (splice-far _ _ _ _ _ (omega arith))

pub returns-then-j-letters : goal.returns-then-j-letters
unfolding fresh_char
returns-then-j-letters g c =
    let a = c.args in
    c.code_of.ensures ∙ sym (splice-new _ _ _ _ _ (omega arith) (omega arith) ∙ get_or-codes g.W.Width.BITS a.letters.now (a.i - a.at) (omega arith))

pub returns : goal.returns
unfolding fresh_char
returns g c =
    let a = c.args in
    sym (splice-new _ _ _ _ _ (omega arith) (omega arith) ∙ get_or-codes_out g.W.Width.BITS a.letters.now (a.i - a.at) (omega arith))
