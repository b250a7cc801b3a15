-- The remainder by C8. Assumes nothing.
use mathlib.Core.Path.{sym, ap₂, ◌∙◌, subst}
use Prim.Native.Nat.{ℕ, ◌%◌, ◌<◌}
use Rattle.codes.proofs.WidthLaws.{per_pos}
use Rattle.codes.proofs.inner.counts.within_byte.Goals as goal

pub nonzero_rem-k : goal.nonzero_rem-k
nonzero_rem-k g c = subst (λ (x : ℕ). 0 < x) (sym c.eighth-c.ensures) (per_pos g.W.Width.divides)

pub returns : goal.returns
returns g c = c.new.ensures ∙ ap₂ (λ (k p : ℕ). k % p) c.count-k.ensures c.eighth-c.ensures
