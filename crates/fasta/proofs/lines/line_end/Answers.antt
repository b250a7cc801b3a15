use Rattle.std.proofs.Common.{◌≡◌, ℕ, ◌+◌, ◌/◌, ◌<◌, ◌≤◌, List, length, get_or, arith, rules, below_more}
use lib.Count.{count_trailing_zeros, trailing_le}
use Rattle.codes.proofs.TabLaws.{Below-of}
use Rattle.codes.proofs.WordLaws.{Below}
use Rattle.fasta.specs.Steps.{line_end}
use Rattle.fasta.proofs.LineLaws.{line_end-is}
use Rattle.fasta.proofs.MarkLaws.{none_marked, lowest_marked}
use Rattle.fasta.proofs.lines.line_end.Goals.{After-line_feeds-z}
use Rattle.fasta.proofs.lines.line_end.Goals as goal

-- eight bytes and their marks
module _ (m : After-line_feeds-z) where
  abbrev part : List ℕ
  part = m.args.part.now

  bytes : Below 8 part
  bytes = Below-of 8 part (λ j. (m.type_inv.part j).fits)

  none : m.line_feeds-z.result ≡ 0 → (k : ℕ) → k < m.loop-i.i + 8 → get_or part k 0 ≡ 10 → ⊥
  none = none_marked part bytes m.loop-i.i m.load64.result m.line_feeds-z.result m.load64.ensures m.line_feeds-z.ensures m.loop-i.invariant.1

  lowest : m.loop-i.i + 8 ≤ length part → (m.line_feeds-z.result ≡ 0 → ⊥) → m.loop-i.i + count_trailing_zeros 64 m.line_feeds-z.result / 8 ≡ line_end part
  lowest = lowest_marked part bytes m.loop-i.i m.load64.result m.line_feeds-z.result m.load64.ensures m.line_feeds-z.ensures m.loop-i.invariant.1

pub overflow_cast-result : goal.overflow_cast-result
overflow_cast-result c = record { fits = omega (arith, trailing_le 64 c.line_feeds-z.result) }

pub overflow_add-result : goal.overflow_add-result
overflow_add-result c = record { fits = omega (arith, trailing_le 64 c.line_feeds-z.result) }

pub returns-then-z-ne0 : goal.returns-then-z-ne0
returns-then-z-ne0 c = lowest (goal.at.returns-then-z-ne0 c).After-line_feeds-z (search rules) c.if-z-ne0.true

pub loop-i-preserved : goal.loop-i-preserved
loop-i-preserved c = (search rules, none (goal.at.loop-i-preserved c).After-line_feeds-z c.if-z-ne0.false)

pub loop-at-init : goal.loop-at-init
loop-at-init c = c.loop-i.invariant.1

pub returns-then-part-at-eq10 : goal.returns-then-part-at-eq10
returns-then-part-at-eq10 c =
    line_end-is c.args.part.now c.loop-at.at record { inside = search rules; before = c.loop-at.invariant; found = λ l. c.if-part-at-eq10.true }

pub loop-at-preserved : goal.loop-at-preserved
loop-at-preserved c = below_more _ _ c.loop-at.invariant c.if-part-at-eq10.false

pub returns : goal.returns
returns c =
    let part = c.args.part.now in
    line_end-is part (length part)
    record { inside = search rules; before = λ k h. c.loop-at.invariant k (omega arith); found = λ l. absurd (omega arith) }
