-- Four bases, or eight flags. Assumes nothing.
use mathlib.Core.Path.{◌≡◌, sym, ap, ◌∙◌, subst}
use Prim.Native.Nat.{ℕ, ◌+◌, ◌≤◌}
use native.Mathlib.Omega.{arith}
use lib.ListN.{length}
use Rattle.codes.specs.Codes.{per}
use Rattle.codes.proofs.WidthLaws.{width_pos}
use Rattle.runs.specs.Bytes.{letters_word}
use Rattle.runs.proofs.inner.edges.whole_byte.Given.{Over}
use Rattle.runs.proofs.inner.edges.whole_byte.Goals.{Else-BITS-eq2, Start}
use Rattle.runs.proofs.inner.edges.whole_byte.Goals as goal

-- at a width that is known
module _ (g : Over) (s : Start g) {v : ℕ} (known : g.W.Width.BITS ≡ v) where
  room : s.args.i + per v ≤ length s.args.letters.now
  room = subst (λ (x : ℕ). s.args.i + per x ≤ length s.args.letters.now) known s.requires.1

  byte : letters_word v (per v) s.args.letters.now s.args.i ≡ letters_word g.W.Width.BITS (per g.W.Width.BITS) s.args.letters.now s.args.i
  byte = ap (λ (x : ℕ). letters_word x (per x) s.args.letters.now s.args.i) (sym known)

flags_width : (g : Over) (c : Else-BITS-eq2 g) → g.W.Width.BITS ≡ 1
flags_width g c = omega (arith, c.BITS.ensures, c.if-BITS-eq2.false, width_pos g.W.Width.divides, c.requires.0)

pub bases4-requires : goal.bases4-requires
bases4-requires g c = room g (goal.at.bases4-requires g c).Start (sym c.BITS.ensures ∙ c.if-BITS-eq2.true)

pub returns-then-BITS-eq2 : goal.returns-then-BITS-eq2
returns-then-BITS-eq2 g c = c.wide.ensures ∙ c.bases4.ensures ∙ byte g (goal.at.returns-then-BITS-eq2 g c).Start (sym c.BITS.ensures ∙ c.if-BITS-eq2.true)

pub flags_of-requires : goal.flags_of-requires
flags_of-requires g c = (omega arith, room g (goal.at.flags_of-requires g c).Start (flags_width g c))

pub returns : goal.returns
returns g c = c.flags_of.ensures ∙ byte g (goal.at.returns g c).Start (flags_width g (goal.at.returns g c).Else-BITS-eq2)
