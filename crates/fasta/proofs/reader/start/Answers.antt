-- The heading stands at the front. Assumes nothing.
use Rattle.std.proofs.Common.{ℕ, ap, rules, le-ltb, lt-ltb}
use Rattle.fasta.specs.Steps.{started}
use Rattle.fasta.specs.declared.reader.Reader.TheVariants as Reader
use Rattle.fasta.proofs.FrontLaws.{put_place, put_onto}
use Rattle.fasta.proofs.reader.start.Goals as goal

pub returns-then-out-lt-OUT : goal.returns-then-out-lt-OUT
unfolding started
returns-then-out-lt-OUT c = record { says = rw (lt-ltb _ 96 c.if-out-lt-OUT.true); out = rw (lt-ltb _ 96 c.if-out-lt-OUT.true) }

pub returns : goal.returns
unfolding started
returns c =
    let p = c.put_text-wrote.ensures in record {
      says = rw (le-ltb _ 96 c.if-out-lt-OUT.false) (ap (λ (n : ℕ). record { reader = Reader.Start; used = 0; wrote = n }) (put_place p));
      out = rw (le-ltb _ 96 c.if-out-lt-OUT.false) (put_onto p (search rules));
    }
