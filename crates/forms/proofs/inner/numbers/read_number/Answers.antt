use mathlib.Core.Path.{◌≡◌, refl, sym, ap, ◌∙◌, subst}
use Prim.Native.Nat.{ℕ, ◌-◌}
use native.Mathlib.Omega.{arith}
use Rattle.codes.proofs.TabLaws.{Below-of}
use lib.ListN.{drop, get_or}
use Rattle.forms.specs.Numbers.{spelling, led, Fits}
use Rattle.forms.proofs.NumberLaws.{spelling-small, spelling-step, spelling-past}
use Rattle.forms.proofs.inner.numbers.read_number.Goals as goal

pub loop-i-init : goal.loop-i-init
unfolding spelling
loop-i-init c = (omega arith, refl)

pub lead-read-requires : goal.lead-read-requires
lead-read-requires c =
    let l = c.loop-i in
    subst (Fits 8) (sym l.invariant.1) (spelling-small l.i _ (Below-of 8 c.args.bytes.now (λ j. (c.type_inv.bytes j).fits)))

pub loop-i-preserved-then-i-bytes : goal.loop-i-preserved-then-i-bytes
loop-i-preserved-then-i-bytes c =
    let l = c.loop-i in
    let bytes = c.args.bytes.now in
    (omega arith, c.lead-read.ensures ∙ ap (led (get_or bytes (l.i - 1) 0)) l.invariant.1 ∙ sym (spelling-step _ l.i (omega arith) l.invariant.0 (omega arith)))

pub loop-i-preserved : goal.loop-i-preserved
loop-i-preserved c =
    let l = c.loop-i in
    (omega arith, l.invariant.1 ∙ spelling-past _ _ l.i (omega arith) ∙ sym (spelling-past _ _ (l.i - 1) (omega arith)))

pub returns : goal.returns
returns c =
    let l = c.loop-i in
    let z : l.i ≡ 0 = omega arith in
    l.invariant.1 ∙ ap (λ (k : ℕ). spelling (5 - k) (drop k c.args.bytes.now)) z
