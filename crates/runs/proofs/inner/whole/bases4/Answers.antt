-- Two halves of 2 letters. Assumes nothing.
use Prim.Native.Nat.{◌<◌}
use native.Mathlib.Omega.{arith}
use Rattle.codes.specs.Widths.{width_2}
use Rattle.runs.proofs.WholeLaws.{letters_two, letters_lt}
use Rattle.runs.proofs.inner.whole.bases4.Goals as goal

pub overflow_mul-result : goal.overflow_mul-result
overflow_mul-result c =
    let h : c.bases2-2.result < 16 = rw c.bases2-2.ensures (letters_lt width_2 2 _ _) in
    omega arith

pub overflow_add-result : goal.overflow_add-result
overflow_add-result c =
    let h : c.bases2-2.result < 16 = rw c.bases2-2.ensures (letters_lt width_2 2 _ _) in
    let l : c.bases2.result < 16 = rw c.bases2.ensures (letters_lt width_2 2 _ _) in
    omega arith

pub returns : goal.returns
returns c = letters_two 2 _ 2 _ _ _ c.bases2.ensures c.bases2-2.ensures
