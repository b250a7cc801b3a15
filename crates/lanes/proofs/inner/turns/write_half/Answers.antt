use native.Mathlib.Omega.{arith}
use Rattle.codes.proofs.MadeLaws.{made_none, made-to}
use Rattle.codes.proofs.WidthLaws.{width_pos}
use Rattle.lanes.proofs.TurnLaws.{turn_shift, turned_more}
use Rattle.lanes.proofs.inner.turns.write_half.Goals as goal

pub loop-t-init : goal.loop-t-init
loop-t-init g c = made_none (omega arith)

pub overflow_mul-w : goal.overflow_mul-w
overflow_mul-w g c = rw c.BITS-w.ensures (omega (arith, turn_shift g.W.Width.divides c.loop-t.t c.args.count 32 (omega arith) c.requires.0))

pub write_step-requires : goal.write_step-requires
write_step-requires g c =
    rw c.BITS-w.ensures (let l = c.loop-t in (omega (arith, width_pos g.W.Width.divides, turn_shift g.W.Width.divides l.t c.args.count 32 (omega arith) c.requires.0), omega (arith, l.invariant.long)))

pub loop-t-preserved : goal.loop-t-preserved
loop-t-preserved g c = turned_more g.W.Width.BITS c.args.part c.loop-t.t c.loop-t.invariant (rw c.BITS-w.ensures at c.write_step.ensures)

pub returns : goal.returns
returns g c = made-to c.loop-t.invariant (omega arith)
