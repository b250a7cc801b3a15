-- Four stages of the network, each half as wide as the one before. Assumes nothing.
use mathlib.Core.Path.{refl}
use Prim.Native.Nat.{ℕ}
use lib.Dec.{lit<}
use Rattle.codes.proofs.Net.{mask, stage, whole}
use Rattle.codes.proofs.inner.flips.flip_fours.Goals as goal

pub returns : goal.returns
unfolding mask
returns c =
    let x : ℕ = c.args.x in
    stage 64 4 8 0x0f0f_0f0f_0f0f_0f0f x _ refl (lit< tt)
    (stage 64 8 4 0x00ff_00ff_00ff_00ff x _ refl (lit< tt)
    (stage 64 16 2 0x0000_ffff_0000_ffff x _ refl (lit< tt)
    (stage 64 32 1 0xffff_ffff x _ refl (lit< tt)
    (whole 64 x c.ranges.x.fits))))
