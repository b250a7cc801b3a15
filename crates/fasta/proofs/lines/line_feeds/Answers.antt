-- Each step goes byte by byte, with the words that the code takes. Assumes nothing.
use Rattle.std.proofs.Common.{arith}
use Rattle.codes.specs.Codes.{tab}
use Rattle.codes.proofs.Net.{rep}
use Rattle.runs.proofs.BytewiseLaws.{and_under}
use Rattle.fasta.proofs.MarkLaws.{marks_made}
use Rattle.fasta.proofs.lines.line_feeds.Goals as goal

pub overflow_add-result : goal.overflow_add-result
overflow_add-result c = record { fits = rw (and_under 0x7f7f_7f7f_7f7f_7f7f) (omega arith) }

pub returns : goal.returns
unfolding rep tab
returns c = marks_made c.args.x _ c.ranges.x.fits (cc) (cc) (cc)
