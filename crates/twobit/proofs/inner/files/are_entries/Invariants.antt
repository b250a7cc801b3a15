-- What is left of the entries decides; the record of the entry before is sound. Assumes nothing.
use mathlib.Core.Path.{◌≡◌}
use Prim.Native.Nat.{◌-◌}
use Rattle.twobit.specs.Inner.{KnownSound}
use Rattle.twobit.specs.Reading.{are_entries}
use Rattle.twobit.proofs.inner.files.are_entries.Given as goal

abbrev pub invariant-loop : goal.invariant-loop
invariant-loop l = (are_entries l.big l.file l.k l.n l.from ≡ are_entries l.big l.file l.k (l.n - l.counter) l.at) × KnownSound l.big l.file l.known
