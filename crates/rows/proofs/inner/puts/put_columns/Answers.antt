-- Five puts, one after another. Assumes nothing.
use Prim.Native.Nat.{◌+◌, ◌≤◌}
use native.Mathlib.Omega.{arith}
use lib.ListN.{length}
use Rattle.rows.specs.Columns.{columns}
use Rattle.rows.proofs.DecimalLaws.{decimal-length}
use Rattle.rows.proofs.SetsLaws.{put_then, put_length}
use Rattle.rows.proofs.inner.puts.put_columns.Goals.{After-put_byte-b, After-put_decimal-a, After-put_decimal-c}
use Rattle.rows.proofs.inner.puts.put_columns.Goals as goal

-- the room left after each put
room_1 : (d : After-put_decimal-a) → d.put_decimal-a.result + 23 ≤ length d.put_decimal-a.new.out
room_1 d = omega (arith, put_length d.put_decimal-a.ensures, d.put_decimal-a.ensures.behind, decimal-length 20 d.args.count)

room_2 : (d : After-put_byte-b) → d.put_byte-b.result + 22 ≤ length d.put_byte-b.new.out
room_2 d = omega (arith, room_1 (goal.at.After-put_byte-b d).After-put_decimal-a, put_length d.put_byte-b.ensures, d.put_byte-b.ensures.behind)

room_3 : (d : After-put_decimal-c) → d.put_decimal-c.result + 2 ≤ length d.put_decimal-c.new.out
room_3 d =
    let a = d.args in
    omega (arith, room_2 (goal.at.After-put_decimal-c d).After-put_byte-b, put_length d.put_decimal-c.ensures, d.put_decimal-c.ensures.behind, decimal-length 20 a.ambiguous, decimal-length 20 a.count)

pub put_byte-b-requires : goal.put_byte-b-requires
put_byte-b-requires c = omega (arith, room_1 (goal.at.put_byte-b-requires c).After-put_decimal-a)

pub put_decimal-c-requires : goal.put_decimal-c-requires
put_decimal-c-requires c = omega (arith, room_2 (goal.at.put_decimal-c-requires c).After-put_byte-b)

pub put_byte-d-requires : goal.put_byte-d-requires
put_byte-d-requires c = omega (arith, room_3 (goal.at.put_byte-d-requires c).After-put_decimal-c)

pub put_byte-requires : goal.put_byte-requires
put_byte-requires c =
    omega (arith, room_3 (goal.at.put_byte-requires c).After-put_decimal-c, put_length c.put_byte-d.ensures, c.put_byte-d.ensures.behind)

pub returns : goal.returns
unfolding columns
returns c =
    put_then c.put_decimal-a.ensures (put_then c.put_byte-b.ensures (put_then c.put_decimal-c.ensures (put_then c.put_byte-d.ensures c.put_byte.ensures)))
