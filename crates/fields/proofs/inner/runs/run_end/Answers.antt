use mathlib.Core.List.{List}
use mathlib.Core.Path.{◌≡◌, refl, sym, ◌∙◌}
use Prim.Native.Nat.{ℕ, ◌+◌, ◌-◌, ◌^◌, ◌≤◌, ◌<◌, min}
use native.Mathlib.Nat.{le_of_eq}
use native.Mathlib.Omega.{arith}
use borrow.Author.Rules.{rules}
use lib.Count.{count_trailing_zeros, trailing_le}
use Rattle.codes.specs.Codes.{pick, chars}
use Rattle.codes.proofs.TabLaws.{Below-of}
use Rattle.codes.proofs.WordLaws.{Below}
use Rattle.fields.specs.Runs.{leading}
use Rattle.fields.proofs.RunLaws.{zeros_0, zeros_1, same_found, same_on, same_none}
use Rattle.fields.proofs.inner.runs.run_end.Goals.{Else-k-n, Joined-set, then-set, else-set}
use Rattle.fields.proofs.inner.runs.run_end.Goals as goal

pub loop-at-init : goal.loop-at-init
loop-at-init c = (search rules, refl)

pub peek-x-requires : goal.peek-x-requires
peek-x-requires c = omega arith

-- the zeros below the lowest set bit of the word count the flags that are as `set` says
zeros : (c : Joined-set)
    → let a = c.args in
    leading (pick a.set 1 0) (chars 1 a.bytes.now c.loop-at.at c.smaller-n.result) ≡ min (count_trailing_zeros 64 c.if-set.other) c.smaller-n.result
zeros c =
    let a = c.args in
    let s : List ℕ = a.bytes.now in
    let at : ℕ = c.loop-at.at in
    let n : ℕ = c.smaller-n.result in
    let x : ℕ = c.peek-x.result in
    let b : Below 8 s = Below-of 8 s (λ i. (c.shared_slice_known-1.given i).fits) in
    let few : n ≤ 56 = omega (arith, c.smaller-n.ensures) in
    elim c.if-set.branch [
      | then-set w ↦
          let o : c.if-set.other ≡ 2 ^ 64 - 1 - x = w.other-is in
          let h : x < 2 ^ 64 = search rules in
          rw w.if-set.true (zeros_1 s b at n x few c.peek-x.ensures c.if-set.other (omega (arith, o, h)))
      | else-set w ↦
          let o : c.if-set.other ≡ x = w.other-is in
          rw (w.if-set.false, o) (zeros_0 s b at n x few c.peek-x.ensures)
    ]

pub overflow_cast-k : goal.overflow_cast-k
overflow_cast-k c = record { fits = omega (arith, trailing_le 64 c.if-set.other) }

pub overflow_add-result : goal.overflow_add-result
overflow_add-result c = omega (arith, c.smaller-n.ensures)

pub returns-then-k-n : goal.returns-then-k-n
returns-then-k-n c =
    let a = c.args in
    sym (c.loop-at.invariant.1 ∙ same_found a.bytes.now (pick a.set 1 0) c.loop-at.at c.smaller-n.result _ a.end (omega (arith, c.smaller-n.ensures))
    (zeros (goal.at.returns-then-k-n c).Joined-set) c.if-k-n.true)

-- a turn whose flags are all as `set` says
passed : (c : Else-k-n)
    → let a = c.args in
    let next = c.loop-at.at + c.smaller-n.result in
    a.p + leading (pick a.set 1 0) (chars 1 a.bytes.now a.p (a.end - a.p)) ≡ next + leading (pick a.set 1 0) (chars 1 a.bytes.now next (a.end - next))
passed c =
    let a = c.args in
    c.loop-at.invariant.1 ∙ same_on a.bytes.now (pick a.set 1 0) c.loop-at.at c.smaller-n.result _ a.end (omega (arith, c.smaller-n.ensures))
    (zeros (goal.at.Else-k-n c).Joined-set) c.if-k-n.false

pub loop-at-preserved : goal.loop-at-preserved
loop-at-preserved c =
    let n : c.smaller-n.result ≡ 56 = omega (arith, c.smaller-n.ensures) in
    (omega arith, rw n at (passed (goal.at.loop-at-preserved c).Else-k-n))

-- the last turn
pub returns-else-k-n : goal.returns-else-k-n
returns-else-k-n c =
    let a = c.args in
    let next = c.loop-at.at + c.smaller-n.result in
    let e : next ≡ a.end = omega (arith, c.smaller-n.ensures) in
    omega (arith, e, passed (goal.at.returns-else-k-n c).Else-k-n, same_none a.bytes.now (pick a.set 1 0) next a.end (le_of_eq (sym e)))

pub returns : goal.returns
returns c =
    let a = c.args in
    let e : c.loop-at.at ≡ a.end = omega arith in
    omega (arith, e, c.loop-at.invariant.1, same_none a.bytes.now (pick a.set 1 0) c.loop-at.at a.end (le_of_eq (sym e)))
