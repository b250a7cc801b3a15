use mathlib.Core.Path.{◌≡◌, sym, ap, ◌∙◌}
use Prim.Native.Nat.{ℕ, ◌-◌}
use native.Mathlib.Omega.{arith}
use Rattle.fields.specs.Runs.{Run}
use Rattle.twobit.specs.Blocks.{blocks_from, all_inside}
use Rattle.twobit.specs.Reading.{block_at}
use Rattle.twobit.proofs.BlockLaws.{blocks-all, inside-none, inside-out, inside-in}
use Rattle.twobit.proofs.inner.blocks.all_inside.Goals as goal

pub loop-i-init : goal.loop-i-init
loop-i-init c =
    let a = c.args in
    ap (all_inside a.size) (sym (blocks-all a.big a.file.now a.p a.n c.requires.0 0 (omega arith)))

pub returns-then-size-block : goal.returns-then-size-block
returns-then-size-block c =
    sym (c.loop-i.invariant ∙ inside-out _ _ c.loop-i.i c.args.n (omega arith) (omega (arith, c.if-size-block.true, c.block_at-block.ensures.1)))

pub loop-i-preserved : goal.loop-i-preserved
loop-i-preserved c = c.loop-i.invariant ∙ inside-in _ _ c.loop-i.i c.args.n (omega arith) (omega (arith, c.if-size-block.false, c.block_at-block.ensures.1))

pub returns : goal.returns
returns c =
    let a = c.args in
    let f : ℕ → Run = block_at a.big a.file.now a.p in
    let e : a.n ≡ c.loop-i.i = omega arith in
    inside-none a.size f a.n ∙ ap (λ (i : ℕ). all_inside a.size (blocks_from f i (a.n - i))) e ∙ sym c.loop-i.invariant
