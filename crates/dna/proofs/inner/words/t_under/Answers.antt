-- With no flag set the word is as it was. Assumes nothing.
use mathlib.Core.Path.{sym, ap, ◌∙◌}
use Prim.Native.Nat.{ℕ, ◌*◌, ◌%◌, ◌^◌}
use native.Mathlib.Nat.{mod-eq_of_lt}
use lib.Bits.{bit_or, bit_xor}
use Rattle.codes.specs.Words.{word, chars_of}
use Rattle.dna.proofs.PairLaws.{lows, lows_lt, two, two_clear, two_under}
use Rattle.dna.proofs.inner.words.t_under.Goals as goal

pub returns-then-f-eq0 : goal.returns-then-f-eq0
unfolding word chars_of
returns-then-f-eq0 c =
    let x : ℕ = c.args.x in
    let f : ℕ = c.args.f in
    sym (ap (λ (n : ℕ). two x (lows 32 n)) c.if-f-eq0.true ∙ two_clear x) ∙ two_under 32 x f c.ranges.x.fits

pub returns : goal.returns
returns c =
    let x : ℕ = c.args.x in
    let f : ℕ = c.args.f in
    ap (λ (l : ℕ). bit_xor (bit_or (bit_or x l) (l * 2 ^ 1 % 2 ^ 64)) l) c.spread-low.ensures
    ∙ ap (λ (m : ℕ). bit_xor (bit_or (bit_or x (lows 32 f)) m) (lows 32 f)) (mod-eq_of_lt (lows_lt 32 f))
    ∙ two_under 32 x f c.ranges.x.fits
