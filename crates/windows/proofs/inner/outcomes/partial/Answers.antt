-- The tests are the definition's, in its order. Assumes nothing.
use Prim.Native.Nat.{◌-◌}
use native.Mathlib.Omega.{arith}
use borrow.Author.Tests.{lt-ltb, le-ltb}
use Rattle.windows.proofs.inner.outcomes.partial.Goals as goal

pub returns-then-steps-eq0 : goal.returns-then-steps-eq0
returns-then-steps-eq0 c = rw (le-ltb 0 c.args.steps (omega arith))

pub overflow_sub-n : goal.overflow_sub-n
overflow_sub-n c = omega (arith, c.count-n.ensures, c.requires)

pub returns-then-skip-n : goal.returns-then-skip-n
returns-then-skip-n c =
    let a = c.args in
    rw (lt-ltb 0 a.steps (omega arith), lt-ltb a.skip (a.k.0 - 1) (omega (arith, c.count-n.ensures)))

pub returns : goal.returns
returns c =
    let a = c.args in
    rw (c.count.ensures, c.count-n.ensures, lt-ltb 0 a.steps (omega arith), le-ltb a.skip (a.k.0 - 1) (omega (arith, c.count-n.ensures)))
