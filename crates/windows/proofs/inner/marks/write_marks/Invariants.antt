-- The invariant: the lanes below l are written. Assumes nothing.
use Prim.Native.Nat.{◌+◌, ◌-◌}
use lib.ListN.{get_or}
use Rattle.codes.specs.Made.{Made}
use Rattle.windows.specs.Marks.{shown}
use Rattle.windows.proofs.inner.marks.write_marks.Given as goal

abbrev pub invariant-loop-l : goal.invariant-loop-l
invariant-loop-l l = Made (λ q. shown l.j (get_or l.marks (q - l.e) 0)) l.e (l.e + l.l) l.initial.out l.out
