-- What is written is the one line. Assumes nothing.
use Rattle.std.proofs.Common.{ℕ, ap, rules}
use Rattle.fasta.specs.declared.reader.Reader.TheVariants as Reader
use Rattle.fasta.proofs.FrontLaws.{put_place, put_onto}
use Rattle.fasta.proofs.states.refuse.Goals as goal

pub returns : goal.returns
returns c = let p = c.put_text-wrote.ensures in record { says = ap (λ (n : ℕ). record { reader = Reader.Ended; used = 1; wrote = n }) (put_place p); out = put_onto p (search rules) }
