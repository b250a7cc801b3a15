-- The size of the name, the name, and the offset behind it. Assumes nothing.
use mathlib.Core.Bool.{false}
use mathlib.Core.List.{◌++◌}
use mathlib.Core.Path.{◌≡◌, refl, ap, ◌∙◌}
use Prim.Native.Nat.{ℕ, suc, ◌+◌}
use native.Mathlib.Omega.{arith}
use lib.ListN.{length, set, length-set}
use lib.Seq.{sets}
use Rattle.twobit.specs.Files.{spelled, entry_of}
use Rattle.twowrite.proofs.SetLaws.{sets-next, sets-length}
use Rattle.twowrite.proofs.inner.sequences.write_entry.Goals.{After-write_name}
use Rattle.twowrite.proofs.inner.sequences.write_entry.Goals as goal

-- the name stands behind its size, and the buffer is as long as it was
long : (c : After-write_name) → length c.write_name.new.out ≡ length c.args.out.now
long c =
    let a = c.args in
    let d = set a.out.now a.at (length a.name.now) in
    sets-length d c.write_name.new.out (a.at + 1) a.name.now c.write_name.ensures ∙ length-set a.out.now a.at (length a.name.now)

pub shape_of-out : goal.shape_of-out
shape_of-out c =
    let a = c.args in
    sets-length c.write_name.new.out c.put_number.new.out (a.at + 1 + length a.name.now) (spelled false a.k a.place) c.put_number.ensures ∙ long (goal.at.shape_of-out c).After-write_name

pub returns : goal.returns
unfolding entry_of
returns c =
    let a = c.args in
    let d = set a.out.now a.at (length a.name.now) in
    let e : a.at + 1 ≡ suc a.at = omega arith in
    sets-next a.name.now (spelled false a.k a.place) d (a.at + 1) (length a.name.now) (a.at + 1 + length a.name.now) refl refl c.write_name.ensures
    c.put_number.ensures
    ∙ ap (λ (i : ℕ). sets d i (a.name.now ++ spelled false a.k a.place)) e
