use mathlib.Core.List.{List}
use mathlib.Core.Path.{◌≡◌, sym, ap, ◌∙◌, subst}
use Prim.Native.Nat.{ℕ, ◌+◌, ◌-◌, ◌*◌, ◌/◌, ◌≤◌, ◌<◌}
use native.Mathlib.Omega.{arith}
use borrow.Author.Rules.{rules}
use lib.ListN.{length}
use Rattle.fields.proofs.RunLaws.{same_within}
use Rattle.fields.proofs.ViewLaws.{Room, view_accepted}
use Rattle.twowrite.proofs.RunLaws.{Written, Next, next_run, written_none, written-length, written-left, written_next, written_all}
use Rattle.twowrite.proofs.inner.sequences.write_runs.Goals.{After-run_end-stop, Start}
use Rattle.twowrite.proofs.inner.sequences.write_runs.Goals as goal

room : (s : Start) → Room 1 (length s.args.flags.now) s.args.bo s.args.len
room s = view_accepted 1 (length s.args.flags.now) s.args.bo s.args.len s.requires.len_value

pub loop-i-init : goal.loop-i-init
loop-i-init c =
    let a = c.args in
    written_none a.flags.now a.bo a.len a.out.now a.at (a.at + 4 * a.count)

-- the flags reach far enough
far : (s : Start) → (s.args.bo + s.args.len) / 8 + 9 ≤ length s.args.flags.now
far s = omega (arith, (room s).fits)

pub run_end-stop-requires : goal.run_end-stop-requires
run_end-stop-requires c =
    let a = c.args in
    let l = same_within a.flags.now 0 c.loop-i.p (a.bo + a.len) c.loop-i.invariant.within in
    (subst (λ (q : ℕ). q ≤ a.bo + a.len) (sym c.run_end-start.ensures) l, far (goal.at.run_end-stop-requires c).Start)

-- a turn: the next run
module _ (c : After-run_end-stop) where
  abbrev p : ℕ
  p = c.loop-i.p

  abbrev i : ℕ
  i = c.loop-i.i

  abbrev out : List ℕ
  out = c.loop-i.out

  -- where the sizes begin
  abbrev mid : ℕ
  mid = c.args.at + 4 * c.args.count

  abbrev w : Written c.args.flags.now c.args.bo c.args.len c.args.out.now c.args.at mid (c.args.bo + c.args.len) out p i
  w = c.loop-i.invariant

  left : i < c.args.count
  left = search rules

  next : Next c.args.flags.now (p - c.args.bo) p c.run_end-start.result c.run_end-stop.result (c.args.bo + c.args.len)
  next =
      let a = c.args in
      next_run a.flags.now (p - a.bo) p c.run_end-start.result c.run_end-stop.result (a.bo + a.len) w.within c.run_end-start.ensures c.run_end-stop.ensures
      (written-left a.flags.now a.bo a.len a.out.now a.at mid out p i w (subst (λ (n : ℕ). i < n) c.requires.count_value.0 left))

  -- the buffer is as long as it was
  long : length out ≡ length c.args.out.now
  long = written-length c.args.flags.now c.args.bo c.args.len c.args.out.now c.args.at mid out p i w

pub loop-i-preserved : goal.loop-i-preserved
loop-i-preserved c =
    let a = c.args in
    written_next a.flags.now a.bo a.len a.out.now a.at (mid (goal.at.loop-i-preserved c).After-run_end-stop) (out (goal.at.loop-i-preserved c).After-run_end-stop)
    (p (goal.at.loop-i-preserved c).After-run_end-stop) (i (goal.at.loop-i-preserved c).After-run_end-stop) (w (goal.at.loop-i-preserved c).After-run_end-stop)
    c.run_end-start.result c.run_end-stop.result (next (goal.at.loop-i-preserved c).After-run_end-stop)
    (omega (arith, left (goal.at.loop-i-preserved c).After-run_end-stop)) c.put_number.ensures c.put_number-in-loop-i.ensures

pub shape_of-out : goal.shape_of-out
shape_of-out c =
    let a = c.args in
    let k = c.loop-i in
    written-length a.flags.now a.bo a.len a.out.now a.at (a.at + 4 * a.count) k.out k.p k.i k.invariant

pub returns : goal.returns
returns c =
    let a = c.args in
    let k = c.loop-i in
    let e : a.count ≡ k.i = omega arith in
    written_all a.flags.now a.bo a.len a.out.now a.at (a.at + 4 * a.count) k.out k.p k.i k.invariant (sym e ∙ c.requires.count_value.0) (ap (λ (m : ℕ). a.at + 4 * m) e)
