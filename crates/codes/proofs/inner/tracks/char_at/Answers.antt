-- The digit of the byte in which the character stands. Assumes nothing.
use mathlib.Core.Path.{◌≡◌, sym, ap, ap₂, ◌∙◌, subst}
use Prim.Native.Nat.{ℕ, ◌*◌, ◌/◌, ◌%◌, ◌^◌, ◌<◌}
use native.Mathlib.Nat.{mod-lt}
use lib.ListN.{length, get_or}
use Rattle.codes.specs.Codes.{per, char_at}
use Rattle.codes.proofs.WidthLaws.{per_pos}
use Rattle.codes.proofs.inner.tracks.char_at.Given.{Over}
use Rattle.codes.proofs.inner.tracks.char_at.Goals.{After-count, After-count-b}
use Rattle.codes.proofs.inner.tracks.char_at.Goals as goal

byte : (g : Over) (c : After-count-b g) → c.count-b.result ≡ c.args.i / per g.W.Width.BITS
byte g c = c.count-b.ensures ∙ c.byte_of.ensures ∙ ap (λ (k : ℕ). k / per g.W.Width.BITS) c.new-at.ensures

pub bounds-bytes-b : goal.bounds-bytes-b
bounds-bytes-b g c = subst (λ (b : ℕ). b < length c.args.bytes.now) (sym (byte g (goal.at.bounds-bytes-b g c).After-count-b)) c.requires

place : (g : Over) (c : After-count g) → c.count.result ≡ c.args.i % per g.W.Width.BITS
place g c =
    c.count.ensures
    ∙ c.within_byte.ensures
    ∙ ap (λ (k : ℕ). k % per g.W.Width.BITS) c.new-at.ensures

pub digit-requires : goal.digit-requires
digit-requires g c =
    subst (λ (k : ℕ). k < per g.W.Width.BITS) (sym (place g c)) (mod-lt c.args.i (per_pos g.W.Width.divides))

pub returns : goal.returns
unfolding char_at
returns g c =
    let a = c.args in
    c.digit.ensures ∙ ap₂ (λ (b k : ℕ). get_or a.bytes.now b 0 / 2 ^ (g.W.Width.BITS * k) % 2 ^ g.W.Width.BITS) (byte g (goal.at.returns g c).After-count-b) (place g (goal.at.returns g c).After-count)
