use mathlib.Core.List.{List}
use mathlib.Core.Path.{◌≡◌, sym, ap, ◌∙◌, subst}
use Prim.Native.Nat.{ℕ, ◌+◌, ◌-◌, ◌≤◌}
use native.Mathlib.Nat.{zero-add, add-sub_cancel_left}
use native.Mathlib.Omega.{arith}
use borrow.Author.Rules.{rules}
use lib.ListN.{length}
use Rattle.codes.specs.Codes.{chars}
use Rattle.fields.specs.Runs.{runs, runs_from}
use Rattle.fields.proofs.RunLaws.{Turn, same_to, same_within, runs_over, runs_passed, runs_turn}
use Rattle.fields.proofs.inner.runs.count_runs.Invariants.{Passed}
use Rattle.fields.proofs.inner.runs.count_runs.Goals.{After-run_end-p-in-loop-p}
use Rattle.fields.proofs.inner.runs.count_runs.Goals as goal

-- at the start, after a turn, and at the end
passed_none : (s : List ℕ) (first n p : ℕ) → p ≡ first + same_to s 0 first (first + n) → Passed s first n (first + n) p 0
passed_none s first n p e =
    let h = runs_passed s 0 first p (first + n) (omega arith) e in record {
      from = h.0;
      within = h.1;
      few = omega arith;
      clear = h.2;
      all = zero-add (length (runs_from (p - first) (chars 1 s p (first + n - p))))
          ∙ ap length
          (ap (λ (i : ℕ). runs_from i (chars 1 s p (first + n - p))) (sym (zero-add (p - first))) ∙ sym h.3 ∙ ap (λ (k : ℕ). runs (chars 1 s first k)) (add-sub_cancel_left first n));
    }

passed_turn : (s : List ℕ) (first n end p count q r : ℕ) → Passed s first n end p count → Turn s (p - first) p q r end → Passed s first n end r (count + 1)
passed_turn s first n end p count q r h t =
    let d : p - first + (r - p) ≡ r - first = omega (arith, h.from, t.some, t.on) in record {
      from = omega (arith, h.from, t.some, t.on);
      within = t.within;
      few = omega (arith, h.few, t.some, t.on);
      clear = t.clear;
      all = omega (arith, ap length t.run, ap (λ (i : ℕ). length (runs_from i (chars 1 s r (end - r)))) d, h.all);
    }

passed_all : {s : List ℕ} {first n end p count : ℕ} → Passed s first n end p count → end ≤ p → count ≡ length (runs (chars 1 s first n))
passed_all {s} {first} {n} {end} {p} h l = omega (arith, ap length (runs_over s (p - first) p end l), h.all)

pub run_end-p-requires : goal.run_end-p-requires
run_end-p-requires c = (omega arith, c.requires.1)

pub loop-p-init : goal.loop-p-init
loop-p-init c =
    let a = c.args in
    passed_none a.bytes.now a.first a.n c.run_end-p.result c.run_end-p.ensures

pub run_end-q-requires : goal.run_end-q-requires
run_end-q-requires c = (c.loop-p.invariant.within, c.requires.1)

pub run_end-p-requires-in-loop-p : goal.run_end-p-requires-in-loop-p
run_end-p-requires-in-loop-p c =
    let a = c.args in
    let l = same_within a.bytes.now 1 c.loop-p.p (a.first + a.n) c.loop-p.invariant.within in
    (subst (λ (q : ℕ). q ≤ a.first + a.n) (sym c.run_end-q.ensures) l, c.requires.1)

-- the run that a turn passes
turn : (c : After-run_end-p-in-loop-p)
    → let k = c in
    let a = k.args in
    Turn a.bytes.now (k.loop-p.p - a.first) k.loop-p.p c.run_end-q.result c.run_end-p-in-loop-p.result (a.first + a.n)
turn c =
    let k = c in
    let a = k.args in
    runs_turn a.bytes.now (k.loop-p.p - a.first) k.loop-p.p c.run_end-q.result c.run_end-p-in-loop-p.result (a.first + a.n) (search rules) k.loop-p.invariant.clear
    c.run_end-q.ensures c.run_end-p-in-loop-p.ensures

pub overflow_add-count : goal.overflow_add-count
overflow_add-count c =
    record { fits = omega (arith, c.loop-p.invariant.few, (turn c).some, (turn c).on, (turn c).within, c.requires.0) }

pub loop-p-smaller : goal.loop-p-smaller
loop-p-smaller c = omega (arith, (turn c).some, (turn c).on, (turn c).within)

pub loop-p-preserved : goal.loop-p-preserved
loop-p-preserved c =
    let a = c.args in
    passed_turn a.bytes.now a.first a.n (a.first + a.n) c.loop-p.p c.loop-p.count c.run_end-q.result c.run_end-p-in-loop-p.result c.loop-p.invariant (turn c)

pub returns : goal.returns
returns c = passed_all c.loop-p.invariant (search rules)
