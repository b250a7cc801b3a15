use mathlib.Core.List.{List}
use mathlib.Core.Path.{◌≡◌, refl, ap, ◌∙◌, subst}
use Prim.Native.Nat.{ℕ, ◌+◌, ◌-◌, ◌≤◌}
use native.Mathlib.Omega.{arith}
use lib.ListN.{length}
use Rattle.codes.specs.Codes.{up, trailing, pick, char_at}
use Rattle.codes.specs.Made.{Made}
use Rattle.dna.specs.Flags.{Marked}
use Rattle.fields.specs.Runs.{Run}
use Rattle.twobit.specs.Blocks.{end, under}
use Rattle.twobit.specs.Reading.{block_at, blocks_at}
use Rattle.twobit.proofs.BlockLaws.{blocks-all}
use Rattle.twobit.proofs.FillLaws.{block_inside, mark_none, mark_turn, flags_filled}
use Rattle.twobit.proofs.inner.filling.fill_flags.Goals.{After-count-used, Start}
use Rattle.twobit.proofs.inner.filling.fill_flags.Goals as goal

abbrev file_blocks : Start → ℕ → Run
file_blocks s = block_at s.args.big s.args.file.now s.args.p

-- the bytes that are used
used : (c : After-count-used) → c.count-used.result ≡ up 1 c.args.size
used c = c.count-used.ensures ∙ c.bytes_as.ensures ∙ ap (up 1) c.new.ensures

pub overflow_add-used : goal.overflow_add-used
overflow_add-used c = omega (arith, used (goal.at.overflow_add-used c).After-count-used, c.requires.trailing_in_bounds)

pub zero_run-requires : goal.zero_run-requires
zero_run-requires c = (omega arith, omega (arith, used (goal.at.zero_run-requires c).After-count-used, c.requires.trailing_in_bounds))

pub loop-i-init : goal.loop-i-init
loop-i-init c =
    (refl, mark_none (file_blocks (goal.at.loop-i-init c).Start) c.args.n c.zero_run.new.buffer, λ j. (c.type_inv.flags j).fits)

pub mark_run-requires : goal.mark_run-requires
mark_run-requires c =
    let a = c.args in
    let f : end (file_blocks (goal.at.mark_run-requires c).Start (c.loop-i.i - 1)) ≤ a.size =
    block_inside a.big a.file.now a.p a.n a.size (c.loop-i.i - 1) c.requires.n_value.0 c.requires.p_value (omega arith) in
    let z : length c.zero_run.new.buffer ≡ length a.flags.now = c.zero_run.ensures.long in
    (omega (arith, c.block_at-block.ensures.0, c.block_at-block.ensures.1), omega (arith, c.block_at-block.ensures.1, f, c.requires.trailing_in_bounds, c.loop-i.invariant.0, z))

pub loop-i-preserved : goal.loop-i-preserved
loop-i-preserved c =
    let m = c.mark_run.ensures in
    let k = c.block_at-block.result in
    let b : Run = file_blocks (goal.at.loop-i-preserved c).Start (c.loop-i.i - 1) in
    let d : List ℕ = c.loop-i.flags in
    let f : List ℕ = c.mark_run.new.flags in (
      m.long ∙ c.loop-i.invariant.0,
      mark_turn (file_blocks (goal.at.loop-i-preserved c).Start) c.args.n c.loop-i.i c.zero_run.new.buffer c.loop-i.flags c.mark_run.new.flags (omega arith) (omega arith)
          c.loop-i.invariant.1 (subst (λ (x : ℕ). Marked x (end b) d f) c.block_at-block.ensures.0 (subst (λ (y : ℕ). Marked k.start y d f) c.block_at-block.ensures.1 m)),
      λ j. (c.type_inv.flags j).fits,
    )

pub shape_of-flags : goal.shape_of-flags
shape_of-flags c = c.loop-i.invariant.0 ∙ c.zero_run.ensures.long

pub returns : goal.returns
returns c =
    let a = c.args in
    let z : List ℕ = c.zero_run.new.buffer in
    let u = used (goal.at.returns c).After-count-used in
    flags_filled (blocks_at a.big a.file.now a.p) a.size c.requires.p_value a.flags.now z c.loop-i.flags c.requires.trailing_in_bounds
    (subst (λ (n : ℕ). Made (λ j. 0) 0 (n + trailing) a.flags.now z) u c.zero_run.ensures) c.loop-i.invariant.0
    (λ q. c.loop-i.invariant.1 q ∙ ap (λ (bs : List Run). pick (under bs q) 1 (char_at 1 z q)) (blocks-all a.big a.file.now a.p a.n c.requires.n_value.0 c.loop-i.i c.loop-i-test.false))
    (λ i. (c.slice_known-1.given i).fits) c.loop-i.invariant.2
