-- Each bound is 128 times the one before: so many groups stand before the last. Assumes nothing.
use mathlib.Core.Path.{sym}
use Prim.Native.Nat.{◌/◌}
use native.Mathlib.Omega.{arith}
use Rattle.forms.proofs.NumberLaws.{length-spelt_last, length-spelt_on}
use Rattle.forms.proofs.inner.numbers.spelt_size.Goals as goal

pub returns-then-n-lt128 : goal.returns-then-n-lt128
returns-then-n-lt128 c =
    let n = c.args.n in
    sym (length-spelt_last 4 n (omega arith))

pub returns-then-n-lt16384 : goal.returns-then-n-lt16384
returns-then-n-lt16384 c =
    let n = c.args.n in
    sym (length-spelt_on 4 n 1 (omega arith) (length-spelt_last 3 (n / 128) (omega arith)))

pub returns-then-n-lt2097152 : goal.returns-then-n-lt2097152
returns-then-n-lt2097152 c =
    let n = c.args.n in
    sym (length-spelt_on 4 n 2 (omega arith) (length-spelt_on 3 (n / 128) 1 (omega arith) (length-spelt_last 2 (n / 128 / 128) (omega arith))))

pub returns-then-n-lt268435456 : goal.returns-then-n-lt268435456
returns-then-n-lt268435456 c =
    let n = c.args.n in
    let m = n / 128 / 128 in
    sym
    (length-spelt_on 4 n 3 (omega arith)
    (length-spelt_on 3 (n / 128) 2 (omega arith) (length-spelt_on 2 m 1 (omega arith) (length-spelt_last 1 (m / 128) (omega arith)))))

pub returns : goal.returns
returns c =
    let n = c.args.n in
    let m = n / 128 / 128 in
    sym
    (length-spelt_on 4 n 4 (omega arith)
    (length-spelt_on 3 (n / 128) 3 (omega arith)
    (length-spelt_on 2 m 2 (omega arith) (length-spelt_on 1 (m / 128) 1 (omega arith) (length-spelt_last 0 (m / 128 / 128) (omega arith))))))
