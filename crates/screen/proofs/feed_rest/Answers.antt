-- What the two calls answer stays within what was lent. Assumes nothing.
use native.Mathlib.Omega.{arith}
use Rattle.fasta.proofs.FeedLaws.{feed_bounded, end_bounded}
use Rattle.screen.proofs.feed_rest.Goals as goal

pub returns-then-part-eq0 : goal.returns-then-part-eq0
returns-then-part-eq0 c =
    let a = c.args in
    let b = end_bounded a.reader a.bases.now a.flags.now a.text.now a.filled c.requires c.feed_end.ensures.says in record { used = omega (arith, b.0); filled = b.1 }

pub returns : goal.returns
returns c =
    let a = c.args in
    let q = feed_bounded a.reader a.bases.now a.flags.now a.text.now a.filled c.requires a.part.now a.other.now c.feed.ensures in
    record { used = q.0; filled = q.1 }
