-- What is put in parts is what is set from `at` on. Assumes nothing.
use mathlib.Core.List.{◌++◌, append_assoc}
use mathlib.Core.Path.{sym, ap, ◌∙◌, subst}
use Prim.Native.Nat.{ℕ, ◌+◌, ◌≤◌}
use lib.ListN.{length, take, drop}
use lib.Seq.{sets-eq}
use Rattle.codes.specs.Words.{chars_of}
use Rattle.codes.proofs.WordLaws.{length-chars_of}
use Rattle.twobit.specs.Files.{spelled}
use Rattle.twowrite.proofs.inner.numbers.put_number.Goals as goal

pub returns : goal.returns
unfolding spelled
returns c =
    let a = c.args in
    let bs = chars_of 8 a.k a.n in
    c.put_bytes.ensures
    ∙ sym
    (sets-eq bs a.out.now a.at (subst (λ (m : ℕ). a.at + m ≤ length a.out.now) (sym (length-chars_of 8 a.k a.n)) c.requires)
    ∙ append_assoc (take a.at a.out.now) bs (drop (a.at + length bs) a.out.now)
    ∙ ap (λ (m : ℕ). take a.at a.out.now ++ (bs ++ drop (a.at + m) a.out.now)) (length-chars_of 8 a.k a.n))
