use mathlib.Core.Path.{◌≡◌, sym, ap, ◌∙◌}
use Prim.Native.Nat.{ℕ, ◌-◌, ◌≤◌}
use native.Mathlib.Omega.{arith}
use Rattle.fields.specs.Runs.{Run}
use Rattle.twobit.specs.Blocks.{blocks_from, apart}
use Rattle.twobit.specs.Reading.{block_at}
use Rattle.twobit.proofs.BlockLaws.{blocks-all, Between-none, Between-next, apart_none, apart-clear, apart-fails, apart-first, clear-empty, clear-below, clear_above}
use Rattle.twobit.proofs.inner.blocks.all_apart.Goals.{Joined-block-low, Joined-low-block, Start, then-block-low, else-block-low, then-low-block+then-block-high+then-right, then-low-block+then-block-high+else-right, then-low-block+else-block-high, else-low-block}
use Rattle.twobit.proofs.inner.blocks.all_apart.Goals as goal

abbrev file_blocks : Start → ℕ → Run
file_blocks s = block_at s.args.big s.args.file.now s.args.p

pub loop-i-init : goal.loop-i-init
loop-i-init c = (apart_none (file_blocks (goal.at.loop-i-init c).Start) c.args.n, Between-none 0x2_0000_0000 0 (file_blocks (goal.at.loop-i-init c).Start) c.args.n)

-- how the flag stands before the next turn, where the block has a position
right_is : (c : Joined-low-block)
    → c.if-low-block.right ≡ apart (blocks_from (file_blocks (goal.at.Joined-low-block c).Start) (c.loop-i.i - 1) (c.args.n - (c.loop-i.i - 1)))
right_is c =
    let f = file_blocks (goal.at.Joined-low-block c).Start in
    let n = c.args.n in
    let i = c.loop-i.i in
    let t = c.loop-i-test.true in
    let v = c.loop-i.invariant in
    let bs = blocks_from f i (n - i) in
    elim c.if-low-block.branch [
      | then-low-block+then-block-high+then-right w ↦ w.right-is ∙ apart-first f i n t (omega arith) w.clear_of-right.result (sym w.if-right.true ∙ v.0) w.clear_of-right.ensures
      | then-low-block+then-block-high+else-right w ↦ w.right-is ∙ (w.if-right.false ∙ apart-fails f i n t (omega arith) (sym w.if-right.false ∙ v.0))
      | then-low-block+else-block-high w ↦ w.right-is
          ∙ apart-clear f i n t (omega arith) c.loop-i.right
          (clear_above (f (i - 1)) c.loop-i.low c.loop-i.high bs (omega (arith, w.if-block-high.false, c.block_at-block.ensures.0)) v.1) v.0
      | else-low-block w ↦ w.right-is
          ∙ apart-clear f i n t (omega arith) c.loop-i.right
          (clear-below (f (i - 1)) c.loop-i.low c.loop-i.high bs (omega (arith, w.if-low-block.false, c.block_at-block.ensures.1)) v.1) v.0
    ]

low_is : (c : Joined-block-low) → (c.if-block-low.low ≤ c.loop-i.low) × (c.if-block-low.low ≤ c.block_at-block.result.start)
low_is c =
    elim c.if-block-low.branch [
      | then-block-low w ↦ (omega (arith, w.if-block-low.true, w.low-is), omega (arith, w.low-is))
      | else-block-low w ↦ (omega (arith, w.low-is), omega (arith, w.if-block-low.false, w.low-is))
    ]

pub loop-i-preserved-then-high-block : goal.loop-i-preserved-then-high-block
loop-i-preserved-then-high-block c =
    let low = low_is (goal.at.loop-i-preserved-then-high-block c).Joined-block-low in (
      right_is (goal.at.loop-i-preserved-then-high-block c).Joined-low-block,
      Between-next (file_blocks (goal.at.loop-i-preserved-then-high-block c).Start) c.loop-i.i c.args.n c.loop-i-test.true (omega arith) c.loop-i.low c.loop-i.high c.if-block-low.low
          c.block_at-block.result.end low.0 (omega (arith, c.if-high-block.true))
          (λ h. (omega (arith, low.1, c.block_at-block.ensures.0), omega (arith, c.block_at-block.ensures.1))) c.loop-i.invariant.1,
    )

pub loop-i-preserved-else-high-block : goal.loop-i-preserved-else-high-block
loop-i-preserved-else-high-block c =
    let low = low_is (goal.at.loop-i-preserved-else-high-block c).Joined-block-low in (
      right_is (goal.at.loop-i-preserved-else-high-block c).Joined-low-block,
      Between-next (file_blocks (goal.at.loop-i-preserved-else-high-block c).Start) c.loop-i.i c.args.n c.loop-i-test.true (omega arith) c.loop-i.low c.loop-i.high c.if-block-low.low
          c.loop-i.high low.0 (omega arith)
          (λ h. (omega (arith, low.1, c.block_at-block.ensures.0), omega (arith, c.if-high-block.false, c.block_at-block.ensures.1))) c.loop-i.invariant.1,
    )

pub loop-i-preserved : goal.loop-i-preserved
loop-i-preserved c =
    let f = file_blocks (goal.at.loop-i-preserved c).Start in
    let n = c.args.n in
    let i = c.loop-i.i in
    let t = c.loop-i-test.true in
    let e : (f (i - 1)).size ≡ 0 = omega (arith, c.if-block.false, c.block_at-block.ensures.0, c.block_at-block.ensures.1) in (
      apart-clear f i n t (omega arith) c.loop-i.right (clear-empty (f (i - 1)) (blocks_from f i (n - i)) e) c.loop-i.invariant.0,
      Between-next f i n t (omega arith) c.loop-i.low c.loop-i.high c.loop-i.low c.loop-i.high (omega arith) (omega arith)
          (λ h. let z : ⊥ = omega (arith, e, h) in absurd z) c.loop-i.invariant.1,
    )

pub returns : goal.returns
returns c =
    let a = c.args in
    c.loop-i.invariant.0 ∙ ap apart (blocks-all a.big a.file.now a.p a.n c.requires.0 c.loop-i.i c.loop-i-test.false)
