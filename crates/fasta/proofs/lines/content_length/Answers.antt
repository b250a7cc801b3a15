-- The last byte decides. Assumes nothing.
use Rattle.std.proofs.Common.{arith}
use Rattle.fasta.proofs.ContentLaws.{content-none, content-cut, content-uncut}
use Rattle.fasta.proofs.lines.content_length.Goals as goal

pub returns-then-size-eq0 : goal.returns-then-size-eq0
returns-then-size-eq0 c = content-none c.args.line.now c.if-size-eq0.true

pub returns-then-line-size-eq13 : goal.returns-then-line-size-eq13
returns-then-line-size-eq13 c = content-cut c.args.line.now _ (omega (arith, c.if-size-eq0.false)) c.if-line-size-eq13.true

pub returns : goal.returns
returns c = content-uncut c.args.line.now _ (omega (arith, c.if-size-eq0.false)) c.if-line-size-eq13.false
