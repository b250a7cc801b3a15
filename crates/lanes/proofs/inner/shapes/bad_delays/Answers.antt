-- The tests are the definition's, in its order. Assumes nothing.
use Prim.Native.Nat.{◌^◌}
use native.Mathlib.Omega.{arith}
use borrow.Author.Tests.{lt-ltb, le-ltb}
use Rattle.lanes.proofs.inner.shapes.bad_delays.Goals as goal

pub returns-then-d-gt-MOST : goal.returns-then-d-gt-MOST
returns-then-d-gt-MOST c = simp (lt-ltb (2 ^ 31) c.args.first.0 (omega arith))

pub returns-then-e-gt-MOST : goal.returns-then-e-gt-MOST
returns-then-e-gt-MOST c = let a = c.args in simp (le-ltb (2 ^ 31) a.first.0 (omega arith), lt-ltb (2 ^ 31) a.second.0 (omega arith))

pub returns : goal.returns
returns c =
    let a = c.args in
    rw (c.count-d.ensures, c.count-e.ensures) (simp (le-ltb (2 ^ 31) a.first.0 (omega arith), le-ltb (2 ^ 31) a.second.0 (omega arith)))
