-- The part that takes the name is lent and comes back. Assumes nothing.
use mathlib.Core.List.{List, [], ◌++◌, append_assoc}
use mathlib.Core.Path.{◌≡◌, sym, ap, ◌∙◌}
use Prim.Native.Nat.{ℕ, ◌+◌, ◌-◌, ◌≤◌}
use native.Mathlib.Omega.{arith}
use lib.ListN.{length, take, drop, length-drop}
use lib.Seq.{sets, sets-eq, drop-drop}
use Rattle.std.proofs.lemmas.List.{take_rest, drop_all, append-nil}
use Rattle.twowrite.proofs.inner.sequences.write_name.Goals as goal

-- the rest of a buffer from `at` on, which a name was written to the front of
put_back : (bs out rest : List ℕ) (at : ℕ) → at + length bs ≤ length out → rest ≡ bs ++ drop (length bs) (take (length out - at) (drop at out))
    → take at out ++ (rest ++ drop (length out - at) (drop at out)) ≡ sets out at bs
put_back bs out rest at room e =
    let m : ℕ = length out - at in
    let n : ℕ = length bs in
    let behind : List ℕ = drop at out in
    let none : drop m behind ≡ [] = drop_all m behind (omega (arith, length-drop at out)) in
    ap (λ (l : List ℕ). take at out ++ (l ++ drop m behind)) e
    ∙ ap (λ (l : List ℕ). take at out ++ ((bs ++ drop n l) ++ drop m behind)) (take_rest out at)
    ∙ ap (λ (l : List ℕ). take at out ++ ((bs ++ drop n behind) ++ l)) none
    ∙ ap (λ (l : List ℕ). take at out ++ l) (append-nil (bs ++ drop n behind))
    ∙ ap (λ (l : List ℕ). take at out ++ (bs ++ l)) (drop-drop n at out)
    ∙ sym (sets-eq bs out at room ∙ append_assoc (take at out) bs (drop (at + n) out))

pub returns : goal.returns
returns c = put_back c.args.name.now c.args.out.now c.copy.new.to c.args.at c.requires c.copy.ensures
