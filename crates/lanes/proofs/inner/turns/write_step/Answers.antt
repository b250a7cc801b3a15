use mathlib.Core.Path.{◌≡◌, sym, ap₂, ◌∙◌}
use Prim.Native.Nat.{ℕ, ◌*◌, ◌/◌, ◌%◌, ◌^◌}
use native.Mathlib.Nat.{add-sub_cancel_left, one-mul}
use native.Mathlib.Omega.{arith}
use lib.Dec.{lit<}
use lib.ListN.{get_or}
use lib.Pow.{pow_pos, shl_exact}
use Rattle.codes.specs.Codes.{IsWidth}
use Rattle.codes.proofs.MadeLaws.{made_none, made_more, made-to}
use Rattle.lanes.proofs.inner.turns.write_step.Goals as goal

-- the code's 1 << w
one : {w : ℕ} → IsWidth w → 1 * 2 ^ w % 2 ^ 32 ≡ 2 ^ w
one {w} W = shl_exact {a = 1} 1 w 32 (lit< tt) (omega (arith, W.small)) ∙ one-mul (2 ^ w)

pub loop-l-init : goal.loop-l-init
loop-l-init g c = made_none (omega arith)

pub overflow_cast-out-in-loop-l : goal.overflow_cast-out-in-loop-l
overflow_cast-out-in-loop-l g c = rw c.BITS-w.ensures (record { fits = omega (arith, g.W.Width.divides.small) })

pub overflow_shl-out : goal.overflow_shl-out
overflow_shl-out g c = rw c.BITS-w.ensures (omega (arith, g.W.Width.divides.small))

pub nonzero_rem-out : goal.nonzero_rem-out
nonzero_rem-out g c = rw (c.BITS-w.ensures, one g.W.Width.divides) (pow_pos g.W.Width.BITS)

pub loop-l-preserved : goal.loop-l-preserved
loop-l-preserved g c =
    let l = c.loop-l in
    let a = c.args in
    let v = ap₂ (λ (m p : ℕ). get_or a.part m 0 / 2 ^ a.s % p) (sym (add-sub_cancel_left a.e l.l)) (one g.W.Width.divides) in
    rw c.BITS-w.ensures (made-to (made_more l.invariant (omega arith) (omega arith) v) (omega arith))

pub returns : goal.returns
returns g c = made-to c.loop-l.invariant (omega arith)
