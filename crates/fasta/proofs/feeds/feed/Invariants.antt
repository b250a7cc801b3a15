-- Each turn is a step further along the feed's way; the measure is what is left of the part. Assumes nothing.
use Rattle.std.proofs.Common.{◌-◌, [], length}
use Rattle.fasta.proofs.FeedLaws.{way}
use Rattle.fasta.proofs.TurnLaws.{Stands}
use Rattle.fasta.proofs.feeds.feed.Given as goal

abbrev pub invariant-loop-used : goal.invariant-loop-used
invariant-loop-used l =
    Stands l.part l.initial.text l.filled (way l.initial.state 0 [] l.initial.bases l.initial.flags l.initial.other) l.bases l.flags l.other l.text l.state l.used l.end

abbrev pub decreases-loop-used : goal.decreases-loop-used
decreases-loop-used l = length l.part - l.used
