-- The test on the length is the definition's. Assumes nothing.
use Rattle.std.specs.Prelude.{Ok}
use mathlib.Core.Path.{ap}
use Prim.Native.Nat.{ℕ}
use borrow.Author.Tests.{lt-ltb, le-ltb}
use Rattle.codes.specs.Refusals.{answer}
use Rattle.codes.proofs.RefusalLaws.{ltb-zero}
use Rattle.codes.proofs.words.pack_kmer_lossy.Goals as goal

pub returns-then-letters-gt32 : goal.returns-then-letters-gt32
returns-then-letters-gt32 c = simp (ltb-zero, lt-ltb _ _ c.if-letters-gt32.true)

pub returns : goal.returns
returns c = simp (ltb-zero, le-ltb _ _ c.if-letters-gt32.false) (ap (λ (x : ℕ). answer (Ok tt) x 0) c.pack.ensures)
