-- Each count is that of its part, and none is large. Assumes nothing.
use mathlib.Core.Path.{◌≡◌, ap, ◌∙◌}
use Prim.Native.Nat.{ℕ}
use native.Mathlib.Omega.{arith}
use lib.ListN.{length}
use Rattle.codes.specs.Widths.{width_1, width_2}
use Rattle.codes.proofs.WidthLaws.{up_le}
use Rattle.forms.specs.Numbers.{spelt}
use Rattle.forms.proofs.NumberLaws.{length-spelt}
use Rattle.forms.proofs.inner.writing.form_size.Goals as goal

pub overflow_add-head : goal.overflow_add-head
overflow_add-head c = omega (arith, c.spelt_size-head.ensures, length-spelt 5 c.count.result)

pub overflow_add-head-2 : goal.overflow_add-head-2
overflow_add-head-2 c =
    let n = c.args.len.0 in
    omega (arith, c.spelt_size-head.ensures, length-spelt 5 c.count.result, up_le width_2 n, up_le width_1 n)

pub returns : goal.returns
returns c =
    let n = c.args.len.0 in
    let k : c.spelt_size-head.result ≡ length (spelt 5 n) = c.spelt_size-head.ensures ∙ ap (λ (x : ℕ). length (spelt 5 x)) c.count.ensures in
    omega (arith, c.new.ensures)
