use mathlib.Core.Path.{refl, sym, ap, ◌∙◌}
use native.Mathlib.Nat.{div-one, mod-mod}
use lib.ListN.{set}
use Rattle.codes.specs.Codes.{letter}
use Rattle.codes.specs.Words.{chars_of}
use Rattle.codes.proofs.Turns.{unpack_turn}
use Rattle.codes.proofs.inner.packing.unpack.Goals as goal

pub loop-letter-init : goal.loop-letter-init
unfolding chars_of
loop-letter-init c = (sym (div-one _), refl)

pub loop-letter-preserved : goal.loop-letter-preserved
loop-letter-preserved c =
    let t = unpack_turn 2 letter _ _ _ _ _ c.loop-letter-test.true c.loop-letter.invariant.0 c.loop-letter.invariant.1 in
    (t.rest_is, ap (set c.loop-letter.letter-items c.loop-letter.letter-index) (c.low_letter.ensures ∙ ap letter (mod-mod c.loop-letter.rest 4)) ∙ t.out_is)
