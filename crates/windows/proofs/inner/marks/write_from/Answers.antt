-- The eight entries of a step from `skip` on; below it nothing is written. Assumes nothing.
use native.Mathlib.Omega.{arith}
use Rattle.windows.proofs.WindowLaws.{marks_place}
use Rattle.windows.proofs.inner.marks.write_from.Goals as goal

pub returns-then-skip-j : goal.returns-then-skip-j
returns-then-skip-j c =
    let a = c.args in
    marks_place a.j a.skip a.marks c.write_marks.ensures (omega arith)
