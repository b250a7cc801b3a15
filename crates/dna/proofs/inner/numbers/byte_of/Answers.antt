-- In either order the byte is one of the k from `at` on. Assumes nothing.
use mathlib.Core.Bool.{Bool}
use mathlib.Core.Path.{sym, ap, ◌∙◌}
use Prim.Native.Nat.{◌+◌, ◌-◌}
use native.Mathlib.Omega.{arith}
use lib.ListN.{get_or, take, drop}
use Rattle.dna.specs.Numbers.{ordered}
use Rattle.dna.proofs.NumberLaws.{byte_little, byte_big}
use Rattle.dna.proofs.inner.numbers.byte_of.Goals as goal

pub overflow_cast-result : goal.overflow_cast-result
overflow_cast-result c = let a = c.args in omega (arith, (c.type_inv.file (a.at + (a.k - 1 - a.j))).fits)

pub returns-then-big : goal.returns-then-big
returns-then-big c =
    let a = c.args in
    sym (ap (λ (b : Bool). get_or (ordered b (take a.k (drop a.at a.file.now))) a.j 0) c.if-big.true ∙ byte_big a.file.now a.at a.k c.requires.1 a.j c.requires.0)

pub overflow_cast-result-2 : goal.overflow_cast-result-2
overflow_cast-result-2 c = let a = c.args in omega (arith, (c.type_inv.file (a.at + a.j)).fits)

pub returns : goal.returns
returns c =
    let a = c.args in
    sym (ap (λ (b : Bool). get_or (ordered b (take a.k (drop a.at a.file.now))) a.j 0) c.if-big.false ∙ byte_little a.file.now a.at a.k c.requires.1 a.j c.requires.0)
