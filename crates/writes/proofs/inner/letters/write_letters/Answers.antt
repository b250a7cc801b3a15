-- Three runs, one behind the other. Assumes nothing.
use native.Mathlib.Omega.{arith}
use Rattle.codes.proofs.MadeLaws.{made-on}
use Rattle.writes.proofs.inner.letters.write_letters.Goals as goal

pub returns-else-n-lt8 : goal.returns-else-n-lt8
returns-else-n-lt8 c =
    let front = c.write_some-else-n-lt8.ensures in
    made-on (made-on front c.write_whole.ensures (omega arith) (omega arith)) c.write_some-else-n-lt8-2.ensures (omega arith) (omega arith)
