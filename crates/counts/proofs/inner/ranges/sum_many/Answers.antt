use mathlib.Core.List.{List, [], ◌∷◌}
use mathlib.Core.Path.{◌≡◌, refl, sym, ap, ◌∙◌, subst}
use Prim.Native.Nat.{ℕ, ◌+◌, ◌-◌, ◌^◌, ◌≤◌, ◌<◌}
use native.Mathlib.Omega.{arith}
use borrow.Author.Rules.{rules}
use lib.ListN.{length, take, drop}
use lib.Seq.{get_or-take, get_or-drop}
use Rattle.std.proofs.iter.runs.Made.{chains}
use Rattle.std.proofs.lemmas.Iterator.{YieldsList-from_slice}
use Rattle.std.proofs.lemmas.Iterator.Adapters.{fits_from_length, at_most_from_yields_List}
use Rattle.std.proofs.lemmas.List.{drop-take}
use Rattle.std.proofs.lemmas.List.Edits.{length-between}
use Rattle.std.proofs.lemmas.List.Elements.{All-from_get_or}
use Rattle.std.proofs.lemmas.List.Sums.{sum_by-cons, sum_by-le}
use Rattle.std.specs.List.{All, sum_by, between}
use Rattle.fields.specs.Flags.{sum}
use Rattle.counts.proofs.inner.ranges.sum_many.Goals.{After-sum}
use Rattle.counts.proofs.inner.ranges.sum_many.Goals as goal

pub sum-requires-clause-fits : goal.sum-requires-clause-fits
sum-requires-clause-fits c =
    let part = between c.args.from c.args.to c.args.entries.now in
    let few : length part ≤ 65536 = omega (arith, length-between c.args.entries.now c.args.from c.args.to c.requires.1) in
    fits_from_length _ _ 65536 (2 ^ 32) (at_most_from_yields_List (YieldsList-from_slice part cc) few) c.map.ensures.closure (omega arith) (λ x r q k. search rules)

-- the two sums of a list
sums : (l : List ℕ) → sum_by (λ x. x) l ≡ sum l
unfolding sum
sums [] = refl
sums (n ∷ ns) = sum_by-cons (λ x. x) n ns ∙ ap (λ (x : ℕ). n + x) (sums ns)

pub returns : goal.returns
returns c =
    let a = c.args in
    let part = between a.from a.to a.entries.now in
    let whole : a.from + (a.to - a.from) ≡ a.to = omega arith in
    let long : length part ≡ a.to - a.from = length-between a.entries.now a.from a.to c.requires.1 in
    let is : c.sum.result ≡ sum_by (λ x. x) part = search (rules, chains) in
    let small : All (λ x. x ≤ 65535) part = All-from_get_or (λ x. x ≤ 65535) part 0 (λ i h.
    let m : i < a.to - a.from = omega (arith, long) in
    subst (λ (x : ℕ). x ≤ 65535) (sym (get_or-take (a.to - a.from) (drop a.from a.entries.now) i 0 m ∙ get_or-drop a.from a.entries.now i 0)) (omega (arith, (c.type_inv.entries (a.from + i)).fits))) in (
      is ∙ sums part ∙ ap sum (sym (drop-take a.from (a.to - a.from) a.entries.now) ∙ ap (λ (n : ℕ). drop a.from (take n a.entries.now)) whole),
      omega (arith, is, long, sum_by-le (λ x. x) 65535 part small),
    )
