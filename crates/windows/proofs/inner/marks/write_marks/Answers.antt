use mathlib.Core.Path.{sym, ap, ◌∙◌}
use Prim.Native.Nat.{ℕ}
use native.Mathlib.Nat.{add-sub_cancel_left}
use native.Mathlib.Omega.{arith}
use lib.ListN.{get_or}
use Rattle.codes.proofs.MadeLaws.{made_none, made_more, made-to}
use Rattle.windows.specs.Marks.{shown}
use Rattle.windows.proofs.inner.marks.write_marks.Goals as goal

pub loop-l-init : goal.loop-l-init
loop-l-init c = made_none (omega arith)

pub overflow_add-out : goal.overflow_add-out
overflow_add-out c = omega arith

pub bounds-out-e : goal.bounds-out-e
bounds-out-e c = omega (arith, c.loop-l.invariant.long)

pub loop-l-preserved : goal.loop-l-preserved
loop-l-preserved c =
    let l = c.loop-l in
    let a = c.args in
    let v = c.show.ensures ∙ ap (λ (m : ℕ). shown a.j (get_or a.marks m 0)) (sym (add-sub_cancel_left a.e l.l)) in
    made-to (made_more l.invariant (omega arith) (omega arith) v) (omega arith)

pub shape_of-out : goal.shape_of-out
shape_of-out c = c.loop-l.invariant.long

pub returns : goal.returns
returns c = made-to c.loop-l.invariant (omega arith)
