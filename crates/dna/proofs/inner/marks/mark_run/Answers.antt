use mathlib.Core.Path.{◌≡◌, sym, ◌∙◌, subst}
use Prim.Native.Nat.{ℕ, ◌+◌, ◌*◌, ◌/◌, ◌%◌, ◌^◌, ◌≤◌, ◌<◌}
use native.Mathlib.Nat.{one-mul}
use native.Mathlib.Omega.{arith}
use lib.Bits.{bit_or}
use lib.Dec.{lit<}
use lib.ListN.{length, get_or, set}
use lib.Pow.{shl_exact}
use borrow.Author.Tests.{leb-true}
use Rattle.dna.specs.Flags.{Marked}
use Rattle.dna.proofs.MarkLaws.{marked-none, marked-on, marked-one, marked-eight}
use Rattle.dna.proofs.inner.marks.mark_run.Goals.{In-loop-p, Then-to-p-ge8}
use Rattle.dna.proofs.inner.marks.mark_run.Goals as goal

pub loop-p-init : goal.loop-p-init
loop-p-init c = (omega arith, omega arith, marked-none)

-- byte p / 8 is there
room : (c : In-loop-p) → c.loop-p.p / 8 < length c.loop-p.flags
room c = omega (arith, c.loop-p.invariant.2.long, c.requires)

-- eight flags are left
eight : (c : Then-to-p-ge8) → c.loop-p.p + 8 ≤ c.args.to
eight c = omega (arith, leb-true, c.if-to-p-ge8.true)

pub bounds-flags-p : goal.bounds-flags-p
bounds-flags-p c = room (goal.at.bounds-flags-p c).In-loop-p

pub overflow_add-p : goal.overflow_add-p
overflow_add-p c = omega (arith, leb-true, c.if-to-p-ge8.true)

pub loop-p-smaller-then-to-p-ge8 : goal.loop-p-smaller-then-to-p-ge8
loop-p-smaller-then-to-p-ge8 c = omega (arith, leb-true, c.if-to-p-ge8.true)

pub loop-p-preserved-then-to-p-ge8 : goal.loop-p-preserved-then-to-p-ge8
loop-p-preserved-then-to-p-ge8 c =
    let l = c.loop-p in
    let r = eight c in
    (omega arith, r, marked-on l.invariant.0 (omega arith) l.invariant.2 (marked-eight l.flags l.p c.if-p-eq0.true (room (goal.at.loop-p-preserved-then-to-p-ge8 c).In-loop-p)))

pub bounds-flags-p-else-p-eq0 : goal.bounds-flags-p-else-p-eq0
bounds-flags-p-else-p-eq0 c = room (goal.at.bounds-flags-p-else-p-eq0 c).In-loop-p

pub overflow_cast-flags : goal.overflow_cast-flags
overflow_cast-flags c = omega arith

pub overflow_shl-flags : goal.overflow_shl-flags
overflow_shl-flags c = omega arith

pub bounds-flags-p-else-p-eq0-2 : goal.bounds-flags-p-else-p-eq0-2
bounds-flags-p-else-p-eq0-2 c = room (goal.at.bounds-flags-p-else-p-eq0-2 c).In-loop-p

pub overflow_add-p-else-p-eq0 : goal.overflow_add-p-else-p-eq0
overflow_add-p-else-p-eq0 c = omega arith

pub loop-p-smaller : goal.loop-p-smaller
loop-p-smaller c = omega arith

pub loop-p-preserved : goal.loop-p-preserved
loop-p-preserved c =
    let l = c.loop-p in
    let e = l.flags in
    let k = l.p % 8 in
    let bit : (1 * 2 ^ k) % 2 ^ 8 ≡ 2 ^ k = shl_exact {a = 1} 1 k 8 (lit< tt) (omega arith) ∙ one-mul (2 ^ k) in (
      omega arith,
      omega arith,
      marked-on l.invariant.0 (omega arith) l.invariant.2
          (subst (λ (b : ℕ). Marked l.p (l.p + 1) e (set e (l.p / 8) (bit_or (get_or e (l.p / 8) 0) b))) (sym bit) (marked-one e l.p (room (goal.at.loop-p-preserved c).In-loop-p))),
    )

pub shape_of-flags : goal.shape_of-flags
shape_of-flags c = c.loop-p.invariant.2.long

pub returns : goal.returns
returns c =
    let l = c.loop-p in
    let a = c.args in
    let q : l.p ≡ a.to = omega arith in
    subst (λ (k : ℕ). Marked a.from k a.flags.now l.flags) q l.invariant.2
