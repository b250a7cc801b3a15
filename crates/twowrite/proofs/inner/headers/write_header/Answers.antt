-- The four numbers stand one after another. Assumes nothing.
use mathlib.Core.Bool.{false}
use mathlib.Core.List.{List, ◌++◌}
use mathlib.Core.Path.{refl}
use Prim.Native.Nat.{ℕ}
use Rattle.twobit.specs.Files.{spelled, signature, header_of}
use Rattle.twobit.proofs.FileLaws.{length-spelled}
use Rattle.twowrite.proofs.SetLaws.{sets-next}
use Rattle.twowrite.proofs.inner.headers.write_header.Goals as goal

pub returns : goal.returns
unfolding header_of
returns c =
    let a = c.args in
    let n : ℕ → List ℕ = spelled false 4 in
    sets-next (n signature) (n a.version ++ (n a.n ++ n 0)) a.out.now 0 4 4 (length-spelled false 4 signature) refl c.put_number.ensures
    (sets-next (n a.version) (n a.n ++ n 0) _ 4 4 8 (length-spelled false 4 a.version) refl c.put_number-2.ensures
    (sets-next (n a.n) (n 0) _ 8 4 12 (length-spelled false 4 a.n) refl c.put_number-3.ensures c.put_number-4.ensures))
