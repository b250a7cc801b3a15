-- The bits from the 8k-th on are not all 0; eight bytes hold every offset. Assumes nothing.
use mathlib.Core.Path.{◌≡◌, sym, ap}
use Prim.Native.Nat.{ℕ, ◌*◌, ◌^◌}
use native.Mathlib.Omega.{arith}
use lib.Pow.{pow_pos}
use borrow.Author.Tests.{lt-leb}
use Rattle.twowrite.proofs.StepLaws.{shifted_some}
use Rattle.twowrite.proofs.inner.sequences.far_record.Goals as goal

pub returns-then-k-lt8 : goal.returns-then-k-lt8
returns-then-k-lt8 c = let a = c.args in shifted_some (2 ^ (8 * a.k)) a.at (pow_pos (8 * a.k))

pub returns-else-k-lt8 : goal.returns-else-k-lt8
returns-else-k-lt8 c =
    let a = c.args in
    let k : a.k ≡ 8 = omega arith in
    let p : 2 ^ (8 * a.k) ≡ 2 ^ 64 = ap (λ (m : ℕ). 2 ^ (8 * m)) k in
    sym (lt-leb (2 ^ (8 * a.k)) a.at (omega arith))
