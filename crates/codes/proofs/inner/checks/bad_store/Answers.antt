-- The same test with no sum that could wrap. Assumes nothing.
use mathlib.Core.Path.{sym}
use Prim.Native.Nat.{◌+◌, ◌-◌}
use native.Mathlib.Omega.{arith}
use borrow.Author.Tests.{lt-ltb}
use Rattle.codes.specs.Codes.{up, trailing}
use Rattle.codes.proofs.WidthLaws.{ltb-eq}
use Rattle.codes.proofs.inner.checks.bad_store.Goals as goal

pub returns-then-n-lt-TRAILING : goal.returns-then-n-lt-TRAILING
returns-then-n-lt-TRAILING g c =
    let a = c.args in
    sym (lt-ltb a.n (up g.W.Width.BITS a.len.0 + trailing) (omega arith))

pub returns : goal.returns
returns g c =
    let a = c.args in
    ltb-eq (a.n - trailing) c.count.result a.n (up g.W.Width.BITS a.len.0 + trailing) (λ l. omega arith) (λ l. omega arith)
