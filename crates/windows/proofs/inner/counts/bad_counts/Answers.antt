use mathlib.Core.Bool.{Bool, false, ◌||◌}
use mathlib.Core.Path.{◌≡◌, refl, sym, ap₂, ◌∙◌, subst}
use Prim.Native.Nat.{ℕ}
use native.Mathlib.Omega.{arith}
use Rattle.windows.specs.Windows.{any_lane}
use Rattle.windows.proofs.RunLaws.{bad_lane, any_step, any_true}
use Rattle.windows.proofs.inner.counts.bad_counts.Goals.{After-bad_lane}
use Rattle.windows.proofs.inner.counts.bad_counts.Goals as goal

pub loop-l-init : goal.loop-l-init
loop-l-init c = refl

pub bad_lane-requires : goal.bad_lane-requires
bad_lane-requires c =
    (c.requires.0, rw c.wide-in-loop-l.ensures (c.requires.1 c.loop-l.l))

module _ (c : After-bad_lane) where
  abbrev bad : ℕ → Bool
  bad = let a = c.args in bad_lane a.most a.counts a.enter a.leave

  at_lane : bad c.loop-l.l ≡ c.bad_lane.result
  at_lane = sym (rw (c.wide-in-loop-l-2.ensures, c.wide-in-loop-l.ensures, c.wide.ensures) at c.bad_lane.ensures)

pub returns-then-bad_lane : goal.returns-then-bad_lane
returns-then-bad_lane c = sym (any_true 8 c.loop-l.l (bad (goal.at.returns-then-bad_lane c).After-bad_lane) (omega arith) (at_lane (goal.at.returns-then-bad_lane c).After-bad_lane
    ∙ c.if-bad_lane.true))

pub loop-l-preserved : goal.loop-l-preserved
loop-l-preserved c =
    any_step c.loop-l.l (bad (goal.at.loop-l-preserved c).After-bad_lane)
    ∙ ap₂ (λ (x y : Bool). x || y) c.loop-l.invariant (at_lane (goal.at.loop-l-preserved c).After-bad_lane ∙ c.if-bad_lane.false)

pub returns : goal.returns
returns c =
    let a = c.args in
    let e : c.loop-l.l ≡ 8 = omega arith in
    sym (subst (λ (n : ℕ). any_lane n (bad_lane a.most a.counts a.enter a.leave) ≡ false) e c.loop-l.invariant)
