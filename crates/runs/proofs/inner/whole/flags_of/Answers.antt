use mathlib.Core.Path.{subst}
use Prim.Native.Nat.{ℕ, ◌+◌, ◌*◌}
use native.Mathlib.Omega.{arith}
use borrow.Author.Rules.{rules}
use Rattle.codes.proofs.TabLaws.{Below-of}
use Rattle.runs.proofs.FlagLaws.{spread_made, Stacked, stacked_more, stacked_turned}
use Rattle.runs.proofs.inner.whole.flags_of.Goals as goal

pub loop-k-preserved : goal.loop-k-preserved
loop-k-preserved c =
    let x = c.load64 in
    let a = c.args in
    let k = c.loop-k.k in
    let bytes = Below-of 8 a.letters.now (λ j. (c.shared_slice_known-1.given j).fits) in
    let v = spread_made a.letters.now (a.i + 8 * k) x.result c.flags_in.result bytes x.ensures c.flags_in.ensures in
    stacked_more a.letters.now a.i k (omega arith) c.flags_in.result v c.loop-k.y c.loop-k.invariant

pub returns : goal.returns
returns c =
    let a = c.args in
    let z : Stacked a.letters.now a.i a.n c.loop-k.y = subst (λ (k : ℕ). Stacked a.letters.now a.i k c.loop-k.y) {x = c.loop-k.k} (omega arith) c.loop-k.invariant in
    stacked_turned a.letters.now a.i a.n c.loop-k.y c.turn.result (omega arith) z (search rules) c.turn.ensures
