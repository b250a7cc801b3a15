-- The sum is at most 16,384, or it is not. Assumes nothing.
use Rattle.std.proofs.Common.{sym, arith}
use Rattle.fasta.proofs.HoldLaws.{most_past, most_fit}
use Rattle.fasta.proofs.letters.sum_at_most.Goals as goal

pub returns-then-more-count : goal.returns-then-more-count
returns-then-more-count c = sym (most_fit _ (omega arith))

pub returns-else-more-count : goal.returns-else-more-count
returns-else-more-count c = sym (most_past _ (omega arith))

pub returns-else-count-le16384 : goal.returns-else-count-le16384
returns-else-count-le16384 c = sym (most_past _ (omega arith))
