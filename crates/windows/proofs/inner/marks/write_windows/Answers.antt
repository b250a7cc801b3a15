use mathlib.Core.Path.{◌≡◌, refl, ◌∙◌, subst}
use Prim.Native.Nat.{ℕ}
use native.Mathlib.Omega.{arith}
use Rattle.windows.specs.Marks.{TurnsMarks}
use Rattle.windows.proofs.WindowLaws.{turns_none, turns_more}
use Rattle.windows.proofs.inner.marks.write_windows.Goals as goal

pub loop-t-init : goal.loop-t-init
loop-t-init c = (refl, let a = c.args in turns_none a.k a.skip a.j a.words a.marks a.out.now)

pub overflow_add-j : goal.overflow_add-j
overflow_add-j c = omega arith

pub overflow_add-j-in-loop-t : goal.overflow_add-j-in-loop-t
overflow_add-j-in-loop-t c = omega arith

pub mark-next-requires : goal.mark-next-requires
mark-next-requires c = omega arith

pub overflow_add-j-in-loop-t-2 : goal.overflow_add-j-in-loop-t-2
overflow_add-j-in-loop-t-2 c = omega arith

pub write_from-requires : goal.write_from-requires
write_from-requires c = (omega arith, omega (arith, c.loop-t.invariant.0, c.requires.skip_in_bounds))

pub loop-t-preserved : goal.loop-t-preserved
loop-t-preserved c =
    let l = c.loop-t in
    let a = c.args in
    let next = turns_more a.k a.skip a.j l.t a.words l.invariant.1 (omega arith) c.mark-next.ensures c.write_from.ensures in
    (c.write_from.ensures.long ∙ l.invariant.0, next)

pub shape_of-out : goal.shape_of-out
shape_of-out c = c.loop-t.invariant.0

pub returns : goal.returns
returns c =
    let a = c.args in
    let e : c.loop-t.t ≡ a.count = omega arith in
    subst (λ (t : ℕ). TurnsMarks a.k a.skip a.j t a.words a.marks c.loop-t.now a.out.now c.loop-t.out) e c.loop-t.invariant.1
