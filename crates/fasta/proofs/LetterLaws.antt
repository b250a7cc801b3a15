-- A letter's flag is set where it is ambiguous.
-- Assumes nothing.
use Rattle.std.proofs.Common.{◌≡◌, ℕ, ◌+◌, List, [], ◌∷◌, map, refl, ap}
use Rattle.codes.specs.Codes.{flag}
use Rattle.fields.specs.Flags.{sum, set_flags}
use Rattle.fasta.specs.Report.{ambiguous}

pub flags_ambiguous : (ls : List ℕ) → set_flags (map flag ls) ≡ ambiguous ls
unfolding sum ambiguous
flags_ambiguous [] = refl
flags_ambiguous (x ∷ ls) = ap (λ (n : ℕ). flag x + n) (flags_ambiguous ls)
