-- The bits of an accepted view are its word. Assumes nothing.
use mathlib.Core.Path.{sym, ◌∙◌, subst}
use Prim.Native.Nat.{ℕ, ◌+◌, ◌*◌, ◌/◌, ◌^◌, ◌≤◌, ◌<◌}
use native.Mathlib.Omega.{arith}
use lib.ListN.{length}
use Rattle.fields.proofs.LoadLaws.{view_start, view_field}
use Rattle.fields.proofs.inner.words.view_word.Given.{Over}
use Rattle.fields.proofs.inner.words.view_word.Goals.{After-count, After-count-2}
use Rattle.fields.proofs.inner.words.view_word.Goals as goal

start : (g : Over) (c : After-count g) → let a = c.args in (g.W.Width.BITS * c.count.result / 8 + 17 ≤ length a.bytes.now) × (g.W.Width.BITS * c.count.result < 2 ^ 31)
start g c = view_start g.W.Width.divides c.args.bytes.now c.args.offset.0 c.args.len.0 c.requires.len_value _ c.count.ensures

pub overflow_mul-w : goal.overflow_mul-w
overflow_mul-w g c = record { fits = rw c.BITS-w.ensures (omega (arith, (start g c).1)) }

fits : (g : Over) (c : After-count-2 g) → g.W.Width.BITS * c.count-2.result ≤ 64
fits g c = subst (λ (k : ℕ). g.W.Width.BITS * k ≤ 64) (sym c.count-2.ensures) c.requires.len_bound

pub overflow_mul-w-2 : goal.overflow_mul-w-2
overflow_mul-w-2 g c = record { fits = rw c.BITS-w.ensures (omega (arith, fits g c)) }

pub bits_at-requires : goal.bits_at-requires
bits_at-requires g c = rw c.BITS-w.ensures (fits g c, omega (arith, (start g (goal.at.bits_at-requires g c).After-count).0))

pub returns : goal.returns
returns g c =
    let a = c.args in
    (rw c.BITS-w.ensures at c.bits_at.ensures)
    ∙ view_field g.W.Width.divides a.bytes.now a.offset.0 a.len.0 c.requires.len_value _ c.count.ensures
    (λ i. omega (arith, c.shared_slice_known-1.given i)) _ c.count-2.ensures
