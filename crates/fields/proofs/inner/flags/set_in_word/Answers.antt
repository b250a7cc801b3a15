-- The ones of a word are its flags that are set. Assumes nothing.
use native.Mathlib.Omega.{arith}
use Rattle.codes.proofs.TabLaws.{Below-of}
use Rattle.fields.proofs.FlagLaws.{ones-flags, flags_few}
use Rattle.fields.proofs.inner.flags.set_in_word.Goals as goal

pub returns : goal.returns
returns c =
    let a = c.args in
    ones-flags a.bytes.now (Below-of 8 a.bytes.now (λ i. (c.shared_slice_known-1.given i).fits)) c.bits_at.result a.at a.n c.bits_at.ensures

pub overflow_cast-result : goal.overflow_cast-result
overflow_cast-result c =
    let a = c.args in
    omega (arith, returns c, flags_few a.bytes.now a.at a.n)
