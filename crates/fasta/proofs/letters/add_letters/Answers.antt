-- Both pushes are at the record's count. Assumes nothing.
use Rattle.std.proofs.Common.{ℕ, ap, ◌∙◌}
use Rattle.stores.specs.Stores.{push_ascii, after}
use Rattle.fasta.proofs.letters.add_letters.Goals as goal

pub returns : goal.returns
returns c =
    let a = c.args in record {
      says = ap (λ (x : ℕ). record { number = a.kept.number; count = x }) c.sum_at_most.ensures;
      bases = c.push_ascii.ensures.bytes ∙ ap (λ (x : ℕ). after 2 a.bases.now x (push_ascii a.letters.now)) c.new-count.ensures;
      flags = c.push_ascii-2.ensures.bytes ∙ ap (λ (x : ℕ). after 1 a.flags.now x (push_ascii a.letters.now)) c.new-count.ensures;
    }
