-- The numbers at the two places are the block's start and its size. Assumes nothing.
use mathlib.Core.Path.{ap₂, ◌∙◌}
use Prim.Native.Nat.{◌+◌, ◌*◌, ◌^◌, ◌≤◌, ◌<◌}
use native.Mathlib.Omega.{arith}
use lib.ListN.{length}
use Rattle.codes.proofs.TabLaws.{Below-of}
use Rattle.codes.proofs.WordLaws.{Below}
use Rattle.dna.specs.Numbers.{number_at}
use Rattle.twobit.proofs.BlockLaws.{number_at-lt, blocks-room, block_start, block_size}
use Rattle.twobit.proofs.inner.blocks.block_at.Goals.{After-number_at-size, Start}
use Rattle.twobit.proofs.inner.blocks.block_at.Goals as goal

-- the blocks lie in the file
room : (s : Start) → s.args.p + 4 + 8 * s.args.n ≤ length s.args.file.now
room s = let a = s.args in blocks-room a.big a.file.now a.p a.n s.requires.0 s.requires.2

-- every byte is below 256
bytes : (c : After-number_at-size) → Below 8 c.args.file.now
bytes c = Below-of 8 c.args.file.now (λ i. (c.type_inv.file i).fits)

pub overflow_add-p : goal.overflow_add-p
overflow_add-p c = omega (arith, room (goal.at.overflow_add-p c).Start)

pub overflow_mul-i : goal.overflow_mul-i
overflow_mul-i c = omega (arith, room (goal.at.overflow_mul-i c).Start)

pub overflow_add-p-2 : goal.overflow_add-p-2
overflow_add-p-2 c = omega (arith, room (goal.at.overflow_add-p-2 c).Start)

pub number_at-start-requires : goal.number_at-start-requires
number_at-start-requires c = (omega arith, omega (arith, room (goal.at.number_at-start-requires c).Start))

pub overflow_add-p-3 : goal.overflow_add-p-3
overflow_add-p-3 c = omega (arith, room (goal.at.overflow_add-p-3 c).Start)

pub overflow_add-n : goal.overflow_add-n
overflow_add-n c = omega (arith, room (goal.at.overflow_add-n c).Start)

pub overflow_mul-n : goal.overflow_mul-n
overflow_mul-n c = omega (arith, room (goal.at.overflow_mul-n c).Start)

pub overflow_add-p-4 : goal.overflow_add-p-4
overflow_add-p-4 c = omega (arith, room (goal.at.overflow_add-p-4 c).Start)

pub number_at-size-requires : goal.number_at-size-requires
number_at-size-requires c = (omega arith, omega (arith, room (goal.at.number_at-size-requires c).Start))

-- both numbers have 32 bits
small : (c : After-number_at-size) → c.number_at-start.result + c.number_at-size.result < 2 ^ 33
small c =
    let a = c.args in
    let h : number_at a.big 4 a.file.now (a.p + 4 + 4 * a.i) < 2 ^ 32 =
    number_at-lt a.big 4 a.file.now (a.p + 4 + 4 * a.i) (bytes (goal.at.After-number_at-size c).After-number_at-size) (omega (arith, room (goal.at.After-number_at-size c).Start)) in
    let k : number_at a.big 4 a.file.now (a.p + 4 + 4 * (a.n + a.i)) < 2 ^ 32 =
    number_at-lt a.big 4 a.file.now (a.p + 4 + 4 * (a.n + a.i)) (bytes (goal.at.After-number_at-size c).After-number_at-size) (omega (arith, room (goal.at.After-number_at-size c).Start)) in
    omega (arith, h, k, c.number_at-start.ensures, c.number_at-size.ensures)

pub overflow_add-result : goal.overflow_add-result
overflow_add-result c = omega (arith, small c)

pub returns : goal.returns
returns c =
    let a = c.args in
    let e = c.number_at-start.ensures ∙ block_start a.big a.file.now a.p a.i in
    (e, ap₂ ◌+◌ e (c.number_at-size.ensures ∙ block_size a.big a.file.now a.p a.n c.requires.0 a.i), small c)
