-- The tests are the definition's, in its order; the product is small. Assumes nothing.
use mathlib.Core.List.{List}
use mathlib.Core.Path.{◌≡◌, ap}
use Prim.Native.Nat.{ℕ, suc, ◌+◌, ◌*◌, ◌^◌, ◌≤◌}
use native.Mathlib.Nat.{mul-le-mul}
use native.Mathlib.Omega.{arith}
use borrow.Author.Tests.{le-ltb, lt-leb}
use Rattle.codes.specs.Refusals.{Test}
use Rattle.codes.proofs.TestLaws.{first_at}
use Rattle.twobit.specs.Files.{index_end}
use Rattle.twowrite.specs.Writing.{start_tests}
use Rattle.twowrite.proofs.inner.headers.start_outcome.Goals.{Else-n-gt4294967295, Start}
use Rattle.twowrite.proofs.inner.headers.start_outcome.Goals as goal

abbrev tests : Start → List Test
tests s = start_tests s.args.k s.args.n s.args.m s.args.room

-- the index without the names
small : (c : Else-n-gt4294967295) → (let a = c.args in a.n * suc a.k ≤ 2 ^ 32 * 9)
small c = let a = c.args in mul-le-mul {n₂ = 2 ^ 32} {m₂ = 9} (omega arith) (omega arith)

same : (n k : ℕ) → n * (k + 1) ≡ n * suc k
same n k = ap (λ (m : ℕ). n * m) (omega arith)

pub returns : goal.returns
returns c =
    let a = c.args in
    first_at 2 (tests (goal.at.returns c).Start)
    (lt-leb (2 ^ 32) a.n (omega arith), (le-ltb a.room (index_end a.k a.n a.m) (omega (arith, same a.n a.k)), tt))
