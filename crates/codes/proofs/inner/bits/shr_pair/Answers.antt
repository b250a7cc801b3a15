use mathlib.Core.Path.{sym, ap, ◌∙◌}
use Prim.Native.Nat.{ℕ, ◌+◌, ◌*◌, ◌/◌, ◌^◌}
use native.Mathlib.Nat.{div-one}
use native.Mathlib.Omega.{arith}
use Rattle.codes.proofs.Pairs.{shr_within, shr_past}
use Rattle.codes.proofs.inner.bits.shr_pair.Goals as goal

pub returns-then-s-eq0 : goal.returns-then-s-eq0
returns-then-s-eq0 c = sym (ap (λ (k : ℕ). (c.args.high * 2 ^ 64 + c.args.low) / 2 ^ k) c.if-s-eq0.true ∙ div-one _)

pub returns-then-s-ge64 : goal.returns-then-s-ge64
returns-then-s-ge64 c = shr_past 64 c.args.low c.args.high c.args.s c.if-s-ge64.true c.ranges.low.fits

pub returns : goal.returns
returns c = shr_within 64 c.args.low c.args.high c.args.s (omega arith) c.ranges.low.fits
