-- Past 2^35 all five groups are there. Assumes nothing.
use mathlib.Core.Path.{refl, sym}
use Prim.Native.Nat.{◌/◌}
use native.Mathlib.Omega.{arith}
use Rattle.forms.specs.Numbers.{spelt}
use Rattle.forms.proofs.NumberLaws.{length-spelt_on}
use Rattle.abi.proofs.rooms.spelt_room.Goals as goal

pub returns : goal.returns
unfolding spelt
returns c =
    let n = c.args.n in
    sym
    (length-spelt_on 4 n 4 (omega arith)
    (length-spelt_on 3 (n / 128) 3 (omega arith)
    (length-spelt_on 2 (n / 128 / 128) 2 (omega arith) (length-spelt_on 1 (n / 128 / 128 / 128) 1 (omega arith) (length-spelt_on 0 (n / 128 / 128 / 128 / 128) 0 (omega arith) refl)))))
