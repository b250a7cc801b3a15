-- The tests are the definition's, in its order. Assumes nothing.
use Prim.Native.Nat.{◌^◌}
use native.Mathlib.Omega.{arith}
use borrow.Author.Tests.{lt-ltb, le-ltb}
use Rattle.lanes.proofs.inner.shapes.bad_shape.Goals as goal

pub returns-then-c-lt1 : goal.returns-then-c-lt1
returns-then-c-lt1 c = simp (lt-ltb c.args.context.0 1 (omega arith))

pub returns-then-c-gt-MOST : goal.returns-then-c-gt-MOST
returns-then-c-gt-MOST c = let a = c.args in simp (le-ltb a.context.0 1 (omega arith), lt-ltb (2 ^ 31) a.context.0 (omega arith))

pub returns-then-factor-lt1 : goal.returns-then-factor-lt1
returns-then-factor-lt1 c =
    let a = c.args in simp (le-ltb a.context.0 1 (omega arith), le-ltb (2 ^ 31) a.context.0 (omega arith), lt-ltb a.factor 1 (omega arith))

pub returns : goal.returns
returns c =
    let a = c.args in simp (le-ltb a.context.0 1 (omega arith), le-ltb (2 ^ 31) a.context.0 (omega arith), le-ltb a.factor 1 (omega arith))
