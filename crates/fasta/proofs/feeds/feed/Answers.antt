use Rattle.std.proofs.Common.{◌+◌, ◌<◌, ◌≤◌, length, drop, sym, ◌∙◌, arith, length-drop, rules, ltb-false}
use Rattle.fasta.proofs.BoundLaws.{seen-empty}
use Rattle.fasta.proofs.TurnLaws.{stands-first, stands-length, stands-bounded, stands-further, stands-over}
use Rattle.fasta.proofs.feeds.feed.Goals.{After-step-stepped, Else-is_full, else-loop-used-test, then-loop-used-test+then-is_full}
use Rattle.fasta.proofs.feeds.feed.Goals as goal

-- in a turn: there are bytes, there is room, and the step keeps within them
module _ (c : Else-is_full) where
  room : c.loop-used.end + 96 ≤ length c.loop-used.text
  room =
      let e = c.loop-used.end in
      let t = c.loop-used.text in
      omega (arith, ltb-false (length (drop e t)) 96 (sym c.is_full.ensures ∙ c.if-is_full.false), length-drop e t)

  turned : c.loop-used.used < length c.args.part.now
  turned = c.loop-used-test.true

module _ (c : After-step-stepped) where
  stepped :
      (0 < c.step-stepped.result.used)
      × (c.loop-used.used + c.step-stepped.result.used ≤ length c.args.part.now)
      × (c.loop-used.end + c.step-stepped.result.wrote ≤ length c.args.text.now)
  stepped =
      let e = (goal.at.After-step-stepped c).Else-is_full in
      let p = c.step-stepped.ensures in
      stands-bounded c.loop-used.invariant (turned e) (room e) (p.says, (p.bases, (p.flags, (p.other, p.out))))

pub loop-used-init : goal.loop-used-init
loop-used-init c =
    let a = c.args in
    stands-first a.part.now a.text.now a.filled a.reader a.bases.now a.flags.now a.other.now

pub slice_bounds-step-count : goal.slice_bounds-step-count
slice_bounds-step-count c = omega arith

pub slice_bounds-step-count-in-loop-used : goal.slice_bounds-step-count-in-loop-used
slice_bounds-step-count-in-loop-used c = omega (arith, room (goal.at.slice_bounds-step-count-in-loop-used c).Else-is_full)

pub slice_bounds-step-start-in-loop-used : goal.slice_bounds-step-start-in-loop-used
slice_bounds-step-start-in-loop-used c = let h = room (goal.at.slice_bounds-step-start-in-loop-used c).Else-is_full in search rules

pub overflow_add-used : goal.overflow_add-used
overflow_add-used c = omega (arith, (stepped (goal.at.overflow_add-used c).After-step-stepped).1)

pub overflow_add-end : goal.overflow_add-end
overflow_add-end c = omega (arith, (stepped (goal.at.overflow_add-end c).After-step-stepped).2)

pub loop-used-smaller : goal.loop-used-smaller
loop-used-smaller c = omega (arith, (stepped (goal.at.loop-used-smaller c).After-step-stepped).0, (stepped (goal.at.loop-used-smaller c).After-step-stepped).1)

pub loop-used-preserved : goal.loop-used-preserved
loop-used-preserved c =
    let e = (goal.at.loop-used-preserved c).Else-is_full in
    let p = c.step-stepped.ensures in
    stands-further c.loop-used.invariant (turned e) (room e) (p.says, (p.bases, (p.flags, (p.other, p.out))))

pub shape_of-text : goal.shape_of-text
shape_of-text c = stands-length c.loop-used.invariant

pub returns : goal.returns
returns c =
    let l = c.loop-used in
    let p = c.args.part.now in
    let out = drop l.end l.text in
    stands-over l.invariant c.then_after.result c.then_after.ensures
    (elim c.loop-used-test.branch [
      | else-loop-used-test w ↦ seen-empty (drop l.used p) out (omega (arith, length-drop l.used p))
      | then-loop-used-test+then-is_full w ↦ rw (sym w.is_full.ensures ∙ w.if-is_full.true)
    ])
