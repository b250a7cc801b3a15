-- The reader has ended, or it has not. Assumes nothing.
use Rattle.std.proofs.Common.{◌≡◌, Bool, sym, refl, ◌∙◌}
use Rattle.codes.specs.Codes.{pick}
use Rattle.fasta.specs.Feeds.{then_after}
use Rattle.fasta.specs.declared.reader.Reader.{Reader}
use Rattle.fasta.specs.declared.feeds.Then.TheVariants as Then
use Rattle.fasta.proofs.feeds.then_after.Goals as goal

-- the variants but the last
going : (reader : Reader) (more : Bool) → (reader ≡ Reader.Ended → ⊥) → then_after reader more ≡ pick more Then.Write Then.Read
going Reader.Start more h = refl
going Reader.StartHeld more h = refl
going (Reader.Header i) more h = refl
going (Reader.Fresh k) more h = refl
going (Reader.Within k) more h = refl
going (Reader.WithinHeld k) more h = refl
going Reader.Ended more h = absurd (h refl)

pub returns-then-more : goal.returns-then-more
returns-then-more c = sym (going c.args.reader c.args.more c.in_default.not-Ended ∙ rw c.if-more.true)

pub returns-else-more : goal.returns-else-more
returns-else-more c = sym (going c.args.reader c.args.more c.in_default.not-Ended ∙ rw c.if-more.false)
