-- Each width's run. Assumes nothing.
use mathlib.Core.List.{List}
use mathlib.Core.Path.{◌≡◌, sym, ◌∙◌, subst}
use Prim.Native.Nat.{ℕ, ◌+◌, ◌-◌, ◌*◌, ◌≤◌}
use native.Mathlib.Omega.{arith}
use lib.ListN.{length}
use Rattle.codes.specs.Codes.{per}
use Rattle.codes.specs.Made.{Made}
use Rattle.codes.proofs.WidthLaws.{width_pos}
use Rattle.runs.specs.Bytes.{letters_word}
use Rattle.runs.proofs.FreshLaws.{whole_room}
use Rattle.runs.proofs.inner.writes.whole_run.Given.{Over}
use Rattle.runs.proofs.inner.writes.whole_run.Goals.{Else-BITS-eq2, Start}
use Rattle.runs.proofs.inner.writes.whole_run.Goals as goal

-- at a width that is known
module _ (g : Over) (s : Start g) {v : ℕ} (known : g.W.Width.BITS ≡ v) where
  abbrev a : s.args.at ≤ s.args.from * per g.W.Width.BITS
  a = s.requires.at_bound.0

  starts : s.args.at ≤ s.args.from * per v
  starts = subst (λ (x : ℕ). s.args.at ≤ s.args.from * per x) known a

  room : s.args.from * per v - s.args.at + (s.args.to - s.args.from) * per v ≤ length s.args.letters.now
  room =
      subst (λ (x : ℕ). s.args.from * per x - s.args.at + (s.args.to - s.args.from) * per x ≤ length s.args.letters.now) known
      (whole_room g.W.Width.BITS s.args.letters.now a s.requires.at_bound.1 s.requires.from_le_to.0)

  run : {d e : List ℕ} → Made (λ j. letters_word v (per v) s.args.letters.now (s.args.from * per v - s.args.at + (j - s.args.from) * per v)) s.args.from s.args.to d e
      → let w = g.W.Width.BITS in Made (λ j. letters_word w (per w) s.args.letters.now (s.args.from * per w - s.args.at + (j - s.args.from) * per w)) s.args.from s.args.to d e
  run {d} {e} z =
      subst (λ (x : ℕ). Made (λ j. letters_word x (per x) s.args.letters.now (s.args.from * per x - s.args.at + (j - s.args.from) * per x)) s.args.from s.args.to d e)
      (sym known) z

-- a width that is not that of bases
flags_width : (g : Over) (c : Else-BITS-eq2 g) → g.W.Width.BITS ≡ 1
flags_width g c = omega (arith, c.BITS.ensures, c.if-BITS-eq2.false, width_pos g.W.Width.divides, c.requires.width_bound)

pub overflow_sub-from : goal.overflow_sub-from
overflow_sub-from g c = starts g (goal.at.overflow_sub-from g c).Start (sym c.BITS.ensures ∙ c.if-BITS-eq2.true)

pub bases_run-requires : goal.bases_run-requires
bases_run-requires g c = record { from_le_to = (c.requires.from_le_to.0, c.requires.from_le_to.1); from_in_bounds = room g (goal.at.bases_run-requires g c).Start (sym c.BITS.ensures ∙ c.if-BITS-eq2.true) }

pub overflow_sub-from-else-BITS-eq2 : goal.overflow_sub-from-else-BITS-eq2
overflow_sub-from-else-BITS-eq2 g c = starts g (goal.at.overflow_sub-from-else-BITS-eq2 g c).Start (flags_width g (goal.at.overflow_sub-from-else-BITS-eq2 g c).Else-BITS-eq2)

pub flags_run-requires : goal.flags_run-requires
flags_run-requires g c = record {
  from_le_to = (c.requires.from_le_to.0, c.requires.from_le_to.1);
  from_in_bounds = room g (goal.at.flags_run-requires g c).Start (flags_width g (goal.at.flags_run-requires g c).Else-BITS-eq2);
}

pub returns-then-BITS-eq2 : goal.returns-then-BITS-eq2
returns-then-BITS-eq2 g c = run g (goal.at.returns-then-BITS-eq2 g c).Start (sym c.BITS.ensures ∙ c.if-BITS-eq2.true) c.bases_run.ensures

pub returns-else-BITS-eq2 : goal.returns-else-BITS-eq2
returns-else-BITS-eq2 g c = run g (goal.at.returns-else-BITS-eq2 g c).Start (flags_width g (goal.at.returns-else-BITS-eq2 g c).Else-BITS-eq2) c.flags_run.ensures
