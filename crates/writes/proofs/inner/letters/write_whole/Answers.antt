use native.Mathlib.Omega.{arith}
use Rattle.codes.proofs.MadeLaws.{made_none, made-to}
use Rattle.writes.proofs.LetterLaws.{letters_four}
use Rattle.writes.proofs.inner.letters.write_whole.Goals as goal

pub loop-b-init : goal.loop-b-init
loop-b-init c = made_none (omega arith)

pub loop-b-preserved : goal.loop-b-preserved
loop-b-preserved c =
    let l = c.loop-b in
    made-to
    (letters_four _ _ l.b l.invariant (omega arith) (omega (arith, l.invariant.long)) (omega arith)
    c.low_letter.ensures c.low_letter-in-loop-b.ensures c.low_letter-in-loop-b-2.ensures c.low_letter-in-loop-b-3.ensures)
    (omega arith)

pub shape_of-out : goal.shape_of-out
shape_of-out c = c.loop-b.invariant.long

pub returns : goal.returns
returns c = made-to c.loop-b.invariant (omega arith)
