-- The part from 1 on is lent and comes back with the number; then the first byte is set. Assumes nothing.
use mathlib.Core.List.{List, ◌∷◌, ◌++◌}
use mathlib.Core.Path.{◌≡◌, ap, ◌∙◌}
use Prim.Native.Nat.{ℕ, suc, ◌+◌}
use native.Mathlib.Omega.{arith}
use lib.ListN.{length, drop, set}
use Rattle.forms.specs.Numbers.{spelt}
use Rattle.codes.proofs.Turns.{lent-on}
use Rattle.forms.proofs.WriteLaws.{head_on}
use Rattle.forms.proofs.inner.writing.write_head.Goals as goal

pub returns : goal.returns
returns c =
    let a = c.args in
    let k : 1 + length (spelt 5 a.n) ≡ suc (length (spelt 5 a.n)) = omega arith in
    ap (λ (l : List ℕ). set l 0 1) (lent-on 1 (length (spelt 5 a.n)) (spelt 5 a.n) a.out.now c.spell.new.out c.spell.ensures)
    ∙ head_on 1 a.out.now _ (omega arith)
    ∙ ap (λ (j : ℕ). 1 ∷ (spelt 5 a.n ++ drop j a.out.now)) k
