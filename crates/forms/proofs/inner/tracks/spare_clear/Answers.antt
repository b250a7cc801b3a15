-- The spare bits are those of the last byte, where it is not full. Assumes nothing.
use mathlib.Core.Path.{◌≡◌, sym, ap, ap₂, ◌∙◌, subst}
use Prim.Native.Nat.{ℕ, ◌*◌, ◌/◌, ◌%◌, ◌^◌, ◌<◌}
use native.Mathlib.Nat.{mod-lt}
use native.Mathlib.Omega.{arith}
use lib.Dec.{eqb}
use lib.ListN.{length, get_or}
use Rattle.codes.specs.Codes.{per}
use Rattle.codes.proofs.TabLaws.{Below-of}
use Rattle.codes.proofs.WidthLaws.{per_pos, shift_lt}
use Rattle.forms.proofs.TrackLaws.{spare_none, spare_place, spare_last}
use Rattle.forms.proofs.inner.tracks.spare_clear.Given.{Over}
use Rattle.forms.proofs.inner.tracks.spare_clear.Goals.{After-count-k, After-count-last}
use Rattle.forms.proofs.inner.tracks.spare_clear.Goals as goal

-- how far the last byte is filled
module _ (g : Over) (c : After-count-k g) where
  place : c.count-k.result ≡ c.args.n % per g.W.Width.BITS
  place = c.count-k.ensures ∙ c.within_byte.ensures ∙ ap (λ (x : ℕ). x % per g.W.Width.BITS) c.new-end.ensures

  shift : g.W.Width.BITS * c.count-k.result < 8
  shift = shift_lt g.W.Width.divides c.count-k.result (subst (λ (x : ℕ). x < per g.W.Width.BITS) (sym place) (mod-lt c.args.n (per_pos g.W.Width.divides)))

pub returns-then-k-eq0 : goal.returns-then-k-eq0
returns-then-k-eq0 g c = sym (spare_none g.W.Width.divides _ c.args.track.now (sym (place g (goal.at.returns-then-k-eq0 g c).After-count-k) ∙ c.if-k-eq0.true))

-- and which byte that is
byte : (g : Over) (c : After-count-last g) → c.count-last.result ≡ c.args.n / per g.W.Width.BITS
byte g c = c.count-last.ensures ∙ c.byte_of.ensures ∙ ap (λ (x : ℕ). x / per g.W.Width.BITS) c.new-end.ensures

pub bounds-track-last : goal.bounds-track-last
bounds-track-last g c =
    subst (λ (x : ℕ). x < length c.args.track.now) (sym (byte g (goal.at.bounds-track-last g c).After-count-last))
    (spare_place g.W.Width.divides _ _ c.requires (λ e. c.if-k-eq0.false (place g (goal.at.bounds-track-last g c).After-count-k ∙ e)))

pub overflow_mul-result : goal.overflow_mul-result
overflow_mul-result g c = rw c.BITS.ensures (omega (arith, shift g (goal.at.overflow_mul-result g c).After-count-k))

pub overflow_cast-result : goal.overflow_cast-result
overflow_cast-result g c = rw c.BITS.ensures (omega (arith, shift g (goal.at.overflow_cast-result g c).After-count-k))

pub overflow_shr-result : goal.overflow_shr-result
overflow_shr-result g c = rw c.BITS.ensures (shift g (goal.at.overflow_shr-result g c).After-count-k)

pub returns : goal.returns
returns g c =
    let a = c.args in
    rw c.BITS.ensures (ap₂ (λ (x y : ℕ). eqb (get_or a.track.now x 0 / 2 ^ (g.W.Width.BITS * y)) 0) (byte g (goal.at.returns g c).After-count-last) (place g (goal.at.returns g c).After-count-k)
    ∙ sym (spare_last g.W.Width.divides _ a.track.now (Below-of 8 a.track.now (λ j. (c.type_inv.track j).fits)) c.requires
    (λ e. c.if-k-eq0.false (place g (goal.at.returns g c).After-count-k ∙ e))))
