use mathlib.Core.Path.{◌≡◌, sym, ap₂, ◌∙◌}
use Prim.Native.Nat.{ℕ, ◌+◌, ◌-◌, ◌*◌, ◌≤◌}
use native.Mathlib.Nat.{le_refl}
use native.Mathlib.Omega.{arith}
use lib.Seq.{slice}
use Rattle.fields.specs.Flags.{sum}
use Rattle.counts.proofs.SumLaws.{sum-parts, sum-none}
use Rattle.counts.proofs.inner.ranges.sum_run.Goals.{After-sum_many}
use Rattle.counts.proofs.inner.ranges.sum_run.Goals as goal

pub loop-b-init : goal.loop-b-init
loop-b-init c = let a = c.args in (omega arith, sym (sum-none a.entries.now a.from a.from (le_refl a.from)), omega arith)

-- the entries of one turn more
turn : (c : After-sum_many)
    → let a = c.args in
    let total = c.loop-b.total + c.sum_many.result in
    (total ≡ sum (slice a.from c.smaller.result a.entries.now)) × (total ≤ 65535 * (c.smaller.result - a.from))
turn c =
    let a = c.args in
    let n = c.smaller.ensures in (
      ap₂ (λ (x y : ℕ). x + y) c.loop-b.invariant.1 c.sum_many.ensures.0
          ∙ sum-parts a.entries.now a.from c.loop-b.b c.smaller.result (omega arith) (omega (arith, n)) (omega (arith, n)),
      omega (arith, n, c.loop-b.invariant.2, c.sum_many.ensures.1),
    )

pub loop-b-preserved : goal.loop-b-preserved
loop-b-preserved c =
    let n : c.smaller.result ≡ c.loop-b.b + 65536 = omega (arith, c.smaller.ensures) in
    let t = rw n at (turn (goal.at.loop-b-preserved c).After-sum_many) in
    (omega arith, t.0, t.1)

pub returns : goal.returns
returns c =
    let all : c.loop-b.b ≡ c.args.to = omega arith in
    (rw all at c.loop-b.invariant.1, rw all at c.loop-b.invariant.2)

-- the last turn
pub returns-2 : goal.returns-2
returns-2 c =
    let n : c.smaller.result ≡ c.args.to = omega (arith, c.smaller.ensures) in
    rw n at (turn (goal.at.returns-2 c).After-sum_many)
