-- Two stages of the network reverse the pairs of each byte; then each pair is exchanged. Assumes nothing.
use mathlib.Core.Path.{◌≡◌, refl, ap, ◌∙◌}
use Prim.Native.Nat.{ℕ, ◌*◌, ◌%◌, ◌^◌}
use native.Mathlib.Nat.{mod-eq_of_lt, lt_of_le_of_lt, mul-le-mul_right}
use lib.Bits.{bit_and, bit_xor, and_le_r}
use lib.Dec.{lit<}
use Rattle.codes.specs.Words.{flip, same}
use Rattle.codes.proofs.Net.{mask, stage, rep}
use Rattle.dna.specs.Dna.{exchanged}
use Rattle.dna.proofs.PairLaws.{crossed, crossed_flip, flip_twice, flip-bytes}
use Rattle.dna.proofs.inner.words.exchange.Goals as goal

-- the pairs, crossed in a machine word
crossing : (x b : ℕ) → b ≡ flip 2 same 32 x → bit_xor (bit_xor b (bit_and b 0x5555_5555_5555_5555 * 2 ^ 1 % 2 ^ 64)) 0xaaaa_aaaa_aaaa_aaaa ≡ flip 2 exchanged 32 x
unfolding rep
crossing x b e =
    ap (λ (y : ℕ). bit_xor (bit_xor b y) 0xaaaa_aaaa_aaaa_aaaa)
    (mod-eq_of_lt (lt_of_le_of_lt (mul-le-mul_right (2 ^ 1) (and_le_r b 0x5555_5555_5555_5555)) (lit< tt)))
    ∙ ap (λ (y : ℕ). crossed y 0x5555_5555_5555_5555 0xaaaa_aaaa_aaaa_aaaa) e
    ∙ crossed_flip 32 x

pub returns : goal.returns
unfolding mask
returns c =
    let x : ℕ = c.args.x in
    let r : ℕ = flip 8 same 8 x in
    crossing r _ (stage 64 2 16 0x3333_3333_3333_3333 r _ refl (lit< tt) (stage 64 4 8 0x0f0f_0f0f_0f0f_0f0f r _ refl (lit< tt) (flip_twice 8 8 x c.ranges.x.fits)))
    ∙ flip-bytes exchanged 8 x
