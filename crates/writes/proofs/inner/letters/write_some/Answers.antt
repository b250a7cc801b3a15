use native.Mathlib.Omega.{arith}
use Rattle.codes.proofs.MadeLaws.{made_none, made_more, made-to}
use Rattle.writes.proofs.LetterLaws.{letter_at_lem}
use Rattle.writes.proofs.inner.letters.write_some.Goals as goal

pub loop-i-init : goal.loop-i-init
loop-i-init c = made_none (omega arith)

pub digit-requires : goal.digit-requires
digit-requires c = omega arith

pub bounds-out-i : goal.bounds-out-i
bounds-out-i c = omega (arith, c.loop-i.invariant.long)

pub loop-i-preserved : goal.loop-i-preserved
loop-i-preserved c =
    let l = c.loop-i in
    made_more l.invariant (omega arith) (omega arith) (letter_at_lem _ _ l.i _ _ c.digit.ensures c.low_letter.ensures)

pub shape_of-out : goal.shape_of-out
shape_of-out c = c.loop-i.invariant.long

pub returns : goal.returns
returns c = made-to c.loop-i.invariant (omega arith)
