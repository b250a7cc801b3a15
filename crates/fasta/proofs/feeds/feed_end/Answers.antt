-- With room, `finish` writes to what is behind the bytes in use. Assumes nothing.
use Rattle.std.proofs.Common.{◌≡◌, ◌+◌, ◌-◌, ◌≤◌, false, length, take, drop, sym, ◌∙◌, arith, length-drop, rules, ltb-false}
use Rattle.fasta.specs.Steps.{too_short}
use Rattle.fasta.proofs.BoundLaws.{last_length}
use Rattle.fasta.proofs.TurnLaws.{end_full, end_wrote}
use Rattle.fasta.proofs.feeds.feed_end.Goals.{Else-is_full}
use Rattle.fasta.proofs.feeds.feed_end.Goals as goal

module _ (c : Else-is_full) where
  room : too_short (drop c.args.filled c.args.text.now) ≡ false
  room = sym c.is_full.ensures ∙ c.if-is_full.false

  fits : c.args.filled + 96 ≤ length c.args.text.now
  fits =
      let out = drop c.args.filled c.args.text.now in
      omega (arith, ltb-false (length out) 96 room, length-drop c.args.filled c.args.text.now)

pub returns-then-is_full : goal.returns-then-is_full
returns-then-is_full c =
    let a = c.args in
    let q = end_full a.reader a.bases.now a.flags.now a.other.now a.text.now a.filled (sym c.is_full.ensures ∙ c.if-is_full.true) c.then_after.result c.then_after.ensures in
    record { says = q.0; other = q.1.0; text = q.1.1 }

pub slice_bounds-finish-count : goal.slice_bounds-finish-count
slice_bounds-finish-count c = omega (arith, fits (goal.at.slice_bounds-finish-count c).Else-is_full)

pub slice_bounds-finish-start : goal.slice_bounds-finish-start
slice_bounds-finish-start c = let h = fits (goal.at.slice_bounds-finish-start c).Else-is_full in search rules

pub overflow_add-result : goal.overflow_add-result
overflow_add-result c =
    let a = c.args in
    let out = take (length a.text.now - a.filled) (drop a.filled a.text.now) in
    let h = fits (goal.at.overflow_add-result c).Else-is_full in
    let l = last_length a.reader a.bases.now a.flags.now out in
    omega arith

pub returns : goal.returns
returns c =
    let a = c.args in
    let p = c.finish-wrote.ensures in
    let q = end_wrote a.reader a.bases.now a.flags.now a.other.now a.text.now a.filled (room (goal.at.returns c).Else-is_full) _ _ _ (p.says, (p.other, p.out)) in
    record { says = q.0; other = q.1.0; text = q.1.1 }
