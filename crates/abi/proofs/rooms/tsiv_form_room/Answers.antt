-- The counts of the parts, none of them large. Assumes nothing.
use native.Mathlib.Omega.{arith}
use Rattle.forms.proofs.NumberLaws.{length-spelt}
use Rattle.abi.proofs.rooms.tsiv_form_room.Goals as goal

pub overflow_add-result : goal.overflow_add-result
overflow_add-result c = omega (arith, c.spelt_room.ensures, length-spelt 5 c.args.n)

pub overflow_add-result-3 : goal.overflow_add-result-3
overflow_add-result-3 c = omega (arith, c.spelt_room.ensures, length-spelt 5 c.args.n)
