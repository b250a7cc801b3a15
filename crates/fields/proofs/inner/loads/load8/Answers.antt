-- A byte is a digit of the string's number. Assumes nothing.
use mathlib.Core.Path.{sym, ◌∙◌}
use native.Mathlib.Omega.{arith}
use Rattle.codes.proofs.TabLaws.{Below-of, word_at}
use Rattle.fields.proofs.inner.loads.load8.Goals as goal

pub returns : goal.returns
returns c =
    let a = c.args in
    c.wide.ensures ∙ sym (word_at 8 a.bytes.now (Below-of 8 a.bytes.now (λ i. omega (arith, c.shared_slice_known-1.given i))) a.at)
