use mathlib.Core.Path.{refl}
use native.Mathlib.Omega.{arith}
use lib.ListN.{length-set}
use Rattle.codes.proofs.MadeLaws.{made_none}
use Rattle.forms.proofs.NumberLaws.{spelt-here, spelt-turn, spelt-end}
use Rattle.forms.proofs.inner.numbers.spell.Goals as goal

pub loop-rest-init : goal.loop-rest-init
loop-rest-init c = record { few = omega arith; small = c.requires.0; behind = refl; done = made_none (omega arith) }

pub overflow_add-out : goal.overflow_add-out
overflow_add-out c = omega arith

pub overflow_cast-out : goal.overflow_cast-out
overflow_cast-out c = omega arith

pub bounds-out-i : goal.bounds-out-i
bounds-out-i c = let l = c.loop-rest in omega (arith, spelt-here _ _ _ _ _ c.requires.1 l.invariant, l.invariant.done.long)

pub overflow_add-i : goal.overflow_add-i
overflow_add-i c = omega (arith, c.loop-rest.invariant.few)

pub loop-rest-smaller : goal.loop-rest-smaller
loop-rest-smaller c = omega arith

pub loop-rest-preserved : goal.loop-rest-preserved
loop-rest-preserved c = spelt-turn _ _ _ _ _ c.requires.1 c.loop-rest.invariant (omega arith)

pub overflow_cast-out-2 : goal.overflow_cast-out-2
overflow_cast-out-2 c = omega arith

pub bounds-out-i-2 : goal.bounds-out-i-2
bounds-out-i-2 c = let l = c.loop-rest in omega (arith, spelt-here _ _ _ _ _ c.requires.1 l.invariant, l.invariant.done.long)

pub shape_of-out : goal.shape_of-out
shape_of-out c = simp length-set c.loop-rest.invariant.done.long

pub returns : goal.returns
returns c = spelt-end _ _ _ _ _ c.requires.1 c.loop-rest.invariant (omega arith)
