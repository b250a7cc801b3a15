-- The tests are the definition's, in its order. Assumes nothing.
use mathlib.Core.Path.{refl, ap, ◌∙◌}
use Prim.Native.Nat.{ℕ, ◌+◌, ◌*◌, ◌^◌}
use native.Mathlib.Omega.{arith}
use borrow.Author.Tests.{lt-ltb, le-ltb}
use mathlib.Core.List.{◌++◌, map}
use lib.ListN.{length, drop}
use Rattle.codes.specs.Codes.{letter}
use Rattle.codes.specs.Words.{chars_of}
use Rattle.codes.proofs.RefusalLaws.{ltb-zero}
use Rattle.codes.proofs.inner.packing.unpack_up_to.Goals as goal

pub returns-then-most-n : goal.returns-then-most-n
returns-then-most-n c =
    let a = c.args in
    let k : ℕ = a.k.0 in record { outcome = simp (ltb-zero, lt-ltb a.most k (omega arith)); bytes = refl }

pub returns-then-out-n : goal.returns-then-out-n
returns-then-out-n c =
    let a = c.args in
    let k : ℕ = a.k.0 in record { outcome = simp (ltb-zero, le-ltb a.most k (omega arith), lt-ltb (length a.out.now) k (omega arith)); bytes = refl }

pub returns : goal.returns
returns c =
    let a = c.args in
    let k : ℕ = a.k.0 in record {
      outcome = simp (ltb-zero, le-ltb a.most k (omega arith), le-ltb (length a.out.now) k (omega arith));
      bytes = c.unpack_pair.ensures ∙ ap (λ (n : ℕ). map letter (chars_of 2 n (a.high * 2 ^ 64 + a.low)) ++ drop n a.out.now) c.count-n.ensures;
    }
