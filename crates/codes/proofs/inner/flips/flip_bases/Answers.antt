-- The complement goes into each pair of bits. Assumes nothing.
use mathlib.Core.Path.{ap, ◌∙◌}
use Prim.Native.Nat.{ℕ}
use lib.Bits.{bit_xor}
use lib.Dec.{lit<}
use Rattle.codes.proofs.Net.{rep, xors}
use Rattle.codes.proofs.inner.flips.flip_bases.Goals as goal

pub returns : goal.returns
unfolding rep
returns c = ap (λ (y : ℕ). bit_xor y 0xaaaa_aaaa_aaaa_aaaa) c.flip_pairs.ensures ∙ xors 2 2 (lit< tt) 32 c.args.x
