-- With no flag set the word is as it was. Assumes nothing.
use mathlib.Core.Path.{sym, ap, ◌∙◌}
use Prim.Native.Nat.{ℕ, ◌*◌, ◌%◌, ◌^◌}
use native.Mathlib.Nat.{mod-eq_of_lt}
use lib.Bits.{bit_or}
use Rattle.codes.specs.Words.{word, chars_of}
use Rattle.dna.proofs.PairLaws.{lows, lows_lt, three, three_clear, three_under}
use Rattle.dna.proofs.inner.words.three_under.Goals as goal

pub returns-then-f-eq0 : goal.returns-then-f-eq0
unfolding word chars_of
returns-then-f-eq0 c =
    let x : ℕ = c.args.x in
    let f : ℕ = c.args.f in
    sym (ap (λ (n : ℕ). three x (lows 32 n)) c.if-f-eq0.true ∙ three_clear x) ∙ three_under 32 x f c.ranges.x.fits

pub returns : goal.returns
returns c =
    let x : ℕ = c.args.x in
    let f : ℕ = c.args.f in
    ap (λ (l : ℕ). bit_or (bit_or x l) (l * 2 ^ 1 % 2 ^ 64)) c.spread-low.ensures
    ∙ ap (λ (m : ℕ). bit_or (bit_or x (lows 32 f)) m) (mod-eq_of_lt (lows_lt 32 f))
    ∙ three_under 32 x f c.ranges.x.fits
