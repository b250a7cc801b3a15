-- The bytes that are looked up in the table of the width are those of the whole. Assumes nothing.
use Prim.Native.Nat.{◌/◌, ◌^◌}
use native.Mathlib.Omega.{arith}
use Rattle.codes.specs.Words.{word}
use Rattle.writes.proofs.TableLaws.{by_table}
use Rattle.writes.proofs.inner.reverse.flip_rest.Goals as goal

pub returns : goal.returns
returns g c = let a = c.args in by_table g.W.Width.divides c.flips_of-table.ensures (word 8 a.bytes.now / 2 ^ a.p) a.bits c.requires.bits_value (omega arith) c.flip_bytes.ensures
