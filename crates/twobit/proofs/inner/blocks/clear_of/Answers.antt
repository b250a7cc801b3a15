use mathlib.Core.Path.{◌≡◌, refl, sym, ap, ◌∙◌}
use Prim.Native.Nat.{ℕ, ◌-◌, min, max}
use native.Mathlib.Omega.{arith}
use Rattle.fields.specs.Runs.{Run}
use Rattle.twobit.specs.Blocks.{end, blocks_from, clear_of}
use Rattle.twobit.specs.Reading.{block_at}
use Rattle.twobit.proofs.BlockLaws.{clear_none, clear-hit, clear-miss}
use Rattle.twobit.proofs.inner.blocks.clear_of.Goals.{After-block_at-b, Joined-a-b, Joined-a-b-2, Start, then-a-b, else-a-b, then-a-b-2, else-a-b-2}
use Rattle.twobit.proofs.inner.blocks.clear_of.Goals as goal

abbrev file_blocks : Start → ℕ → Run
file_blocks s = block_at s.args.big s.args.file.now s.args.p

pub block_at-a-requires : goal.block_at-a-requires
block_at-a-requires c = c.requires

pub loop-j-init : goal.loop-j-init
loop-j-init c = refl

pub block_at-b-requires : goal.block_at-b-requires
block_at-b-requires c = (c.requires.0, omega arith, c.requires.2)

-- the two blocks, as the file has them
module _ (c : After-block_at-b) where
  abbrev first : Run
  first = file_blocks (goal.at.After-block_at-b c).Start c.args.i

  abbrev second : Run
  second = file_blocks (goal.at.After-block_at-b c).Start c.loop-j.j

-- the later start, and the earlier end
from_is : (c : Joined-a-b) → c.if-a-b.from ≡ max (first (goal.at.Joined-a-b c).After-block_at-b).start (second (goal.at.Joined-a-b c).After-block_at-b).start
from_is c =
    let e = c.block_at-a.ensures.0 in
    let f = c.block_at-b.ensures.0 in
    elim c.if-a-b.branch [ then-a-b w ↦ omega (arith, w.if-a-b.true, w.from-is, e, f) | else-a-b w ↦ omega (arith, w.if-a-b.false, w.from-is, e, f) ]

to_is : (c : Joined-a-b-2) → c.if-a-b-2.to ≡ min (end (first (goal.at.Joined-a-b-2 c).After-block_at-b)) (end (second (goal.at.Joined-a-b-2 c).After-block_at-b))
to_is c =
    let e = c.block_at-a.ensures.1 in
    let f = c.block_at-b.ensures.1 in
    elim c.if-a-b-2.branch [ then-a-b-2 w ↦ omega (arith, w.if-a-b-2.true, w.to-is, e, f) | else-a-b-2 w ↦ omega (arith, w.if-a-b-2.false, w.to-is, e, f) ]

pub returns-then-from-to : goal.returns-then-from-to
returns-then-from-to c =
    sym
    (c.loop-j.invariant
    ∙ clear-hit _ _ c.loop-j.j c.args.n (omega arith)
    (omega (arith, c.if-from-to.true, from_is (goal.at.returns-then-from-to c).Joined-a-b, to_is (goal.at.returns-then-from-to c).Joined-a-b-2)))

pub loop-j-preserved : goal.loop-j-preserved
loop-j-preserved c =
    c.loop-j.invariant
    ∙ clear-miss _ _ c.loop-j.j c.args.n (omega arith)
    (omega (arith, c.if-from-to.false, from_is (goal.at.loop-j-preserved c).Joined-a-b, to_is (goal.at.loop-j-preserved c).Joined-a-b-2))

pub returns : goal.returns
returns c =
    let a = c.args in
    let f : ℕ → Run = file_blocks (goal.at.returns c).Start in
    let e : a.n ≡ c.loop-j.j = omega arith in
    clear_none (f a.i) f a.n ∙ ap (λ (j : ℕ). clear_of (f a.i) (blocks_from f j (a.n - j))) e ∙ sym c.loop-j.invariant
