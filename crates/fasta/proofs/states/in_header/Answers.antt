-- The line ends in this part, or it does not. Assumes nothing.
use Rattle.std.proofs.Common.{ℕ, ◌+◌, ap}
use Rattle.fasta.specs.Records.{opened}
use Rattle.fasta.specs.Steps.{in_header}
use Rattle.fasta.specs.declared.reader.Reader.TheVariants as Reader
use Rattle.fasta.proofs.LineLaws.{line_open, line_closed}
use Rattle.fasta.proofs.states.in_header.Goals as goal

pub returns-then-end-part : goal.returns-then-end-part
unfolding in_header
returns-then-end-part c =
    let a = c.args in
    let e = c.line_end-end.ensures in
    rw (line_closed a.part.now c.line_end-end.result e c.if-end-part.true) (ap (λ (n : ℕ). record { reader = Reader.Fresh (opened a.number); used = n + 1; wrote = 0 }) e)

pub returns : goal.returns
unfolding in_header
returns c =
    let a = c.args in
    let e = c.line_end-end.ensures in
    rw (line_open a.part.now c.line_end-end.result e c.if-end-part.false) (ap (λ (n : ℕ). record { reader = Reader.Header a.number; used = n; wrote = 0 }) e)
