-- What an exported function returns: its number, and no other value.
-- Assumes nothing.
use Prim.Native.Nat.{ℕ}
use Rattle.codes.specs.Refusals.{Answer}
use Rattle.given.specs.Face.{said}

abbrev pub returned : ℕ → Answer (Unit {0})
returned n = said n tt
