-- The invariant: the pattern stands at no place passed. Where its first bits are not, it does not stand. Assumes nothing.
use Prim.Native.Nat.{ℕ, ◌<◌}
use Rattle.order.proofs.FindLaws.{Stands}
use Rattle.order.proofs.inner.find.find_at.Given as goal

abbrev pub invariant-places : goal.invariant-places
invariant-places g l = (j : ℕ) → j < l.at → Stands g.W.Width.BITS l.t l.to l.tl l.p l.po l.pl j → ⊥
