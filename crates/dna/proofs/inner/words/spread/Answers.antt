-- Five stages cut 32 bits into single ones. Assumes nothing.
use mathlib.Core.Path.{refl}
use Prim.Native.Nat.{ℕ}
use Rattle.codes.proofs.Net.{mask}
use Rattle.dna.proofs.SpreadLaws.{spread_stage, spread_start}
use Rattle.dna.proofs.inner.words.spread.Goals as goal

pub returns : goal.returns
unfolding mask
returns c =
    let f : ℕ = c.args.f in
    spread_stage 1 16 0x5555_5555_5555_5555 f _ refl
    (spread_stage 2 8 0x3333_3333_3333_3333 f _ refl
    (spread_stage 4 4 0x0f0f_0f0f_0f0f_0f0f f _ refl
    (spread_stage 8 2 0x00ff_00ff_00ff_00ff f _ refl
    (spread_stage 16 1 0x0000_ffff_0000_ffff f f refl (spread_start 32 f c.requires)))))
