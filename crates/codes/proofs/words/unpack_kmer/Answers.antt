-- A word is one of two halves, the high one 0. Assumes nothing.
use native.Mathlib.Nat.{zero-mul, zero-add}
use Rattle.codes.proofs.words.unpack_kmer.Goals as goal

pub returns : goal.returns
returns c = let q = simp (zero-mul, zero-add) at c.unpack_up_to.ensures in
    record { outcome = q.outcome; bytes = q.bytes }
