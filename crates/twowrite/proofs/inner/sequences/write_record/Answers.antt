-- The parts of a record follow each other. Assumes nothing.
use mathlib.Core.Bool.{false}
use mathlib.Core.List.{List, ◌++◌}
use mathlib.Core.Path.{◌≡◌, sym, ap, ◌∙◌}
use Prim.Native.Nat.{ℕ, ◌+◌, ◌*◌, ◌^◌, ◌≤◌, ◌<◌}
use native.Mathlib.Omega.{arith}
use lib.ListN.{length}
use Rattle.codes.specs.Codes.{up, chars}
use Rattle.codes.proofs.CharLaws.{length-chars}
use Rattle.fields.specs.Runs.{runs}
use Rattle.twobit.specs.Files.{spelled, each, record_size}
use Rattle.twowrite.proofs.SetLaws.{sets-length, record_written}
use Rattle.twowrite.proofs.inner.sequences.write_record.Goals.{After-put_number, After-put_number-2, After-put_number-3, After-put_number-4, After-write_runs, Start}
use Rattle.twowrite.proofs.inner.sequences.write_record.Goals as goal

-- there is room for all of it
room : (s : Start) → (let a = s.args in a.at + (16 + 8 * a.count + up 2 a.len) ≤ length a.out.now)
unfolding record_size
room s =
    let a = s.args in
    let n : up 2 (length (chars 1 a.flags.now a.bo a.len)) ≡ up 2 a.len = ap (up 2) (length-chars 1 a.flags.now a.bo a.len) in
    omega (arith, s.requires.count_value.0, s.requires.count_value.1, n)

-- and its end is a machine word
short : (c : After-put_number) → (let a = c.args in a.at + 8 + 8 * a.count + 8 < 2 ^ 64)
short c = omega (arith, room (goal.at.After-put_number c).Start)

pub overflow_mul-masks : goal.overflow_mul-masks
overflow_mul-masks c = omega (arith, room (goal.at.overflow_mul-masks c).Start)

pub overflow_add-masks : goal.overflow_add-masks
overflow_add-masks c = omega (arith, room (goal.at.overflow_add-masks c).Start)

pub put_number-requires : goal.put_number-requires
put_number-requires c = omega (arith, room (goal.at.put_number-requires c).Start)

-- the buffer is as long as it was after each part
long-1 : (c : After-put_number) → length c.put_number.new.out ≡ length c.args.out.now
long-1 c =
    let a = c.args in
    sets-length a.out.now _ a.at (spelled false 4 a.len) c.put_number.ensures

pub put_number-requires-2 : goal.put_number-requires-2
put_number-requires-2 c = omega (arith, long-1 (goal.at.put_number-requires-2 c).After-put_number, room (goal.at.put_number-requires-2 c).Start)

long-2 : (c : After-put_number-2) → length c.put_number-2.new.out ≡ length c.args.out.now
long-2 c =
    let a = c.args in
    sets-length c.put_number.new.out _ (a.at + 4) (spelled false 4 a.count) c.put_number-2.ensures ∙ long-1 (goal.at.After-put_number-2 c).After-put_number

pub write_runs-requires : goal.write_runs-requires
write_runs-requires c =
    record {
      len_value = c.requires.len_value_2;
      count_value = (c.requires.count_value.0, omega (arith, long-2 (goal.at.write_runs-requires c).After-put_number-2, room (goal.at.write_runs-requires c).Start));
    }

abbrev blocks : Start → List ℕ
blocks s = let rs = runs (chars 1 s.args.flags.now s.args.bo s.args.len) in each false (λ r. r.start) rs ++ each false (λ r. r.size) rs

long-3 : (c : After-write_runs) → length c.write_runs.new.out ≡ length c.args.out.now
long-3 c =
    sets-length c.put_number-2.new.out _ (c.args.at + 8) (blocks (goal.at.After-write_runs c).Start) c.write_runs.ensures ∙ long-2 (goal.at.After-write_runs c).After-put_number-2

pub put_number-requires-3 : goal.put_number-requires-3
put_number-requires-3 c = omega (arith, long-3 (goal.at.put_number-requires-3 c).After-write_runs, room (goal.at.put_number-requires-3 c).Start)

long-4 : (c : After-put_number-3) → length c.put_number-3.new.out ≡ length c.args.out.now
long-4 c =
    sets-length c.write_runs.new.out _ (c.args.at + 8 + 8 * c.args.count) (spelled false 4 0) c.put_number-3.ensures ∙ long-3 (goal.at.After-put_number-3 c).After-write_runs

pub overflow_add-masks-2 : goal.overflow_add-masks-2
overflow_add-masks-2 c =
    let z = short (goal.at.overflow_add-masks-2 c).After-put_number in omega arith

pub put_number-requires-4 : goal.put_number-requires-4
put_number-requires-4 c = omega (arith, long-4 (goal.at.put_number-requires-4 c).After-put_number-3, room (goal.at.put_number-requires-4 c).Start)

long-5 : (c : After-put_number-4) → length c.put_number-4.new.out ≡ length c.args.out.now
long-5 c =
    sets-length c.put_number-3.new.out _ (c.args.at + 8 + 8 * c.args.count + 4) (spelled false 4 0) c.put_number-4.ensures ∙ long-4 (goal.at.After-put_number-4 c).After-put_number-3

pub overflow_add-masks-3 : goal.overflow_add-masks-3
overflow_add-masks-3 c =
    let z = short (goal.at.overflow_add-masks-3 c).After-put_number in omega arith

pub write_dna-requires : goal.write_dna-requires
write_dna-requires c =
    record {
      len_value = c.requires.len_value;
      len_value_2 = c.requires.len_value_2;
      len_in_bounds = omega (arith, long-5 (goal.at.write_dna-requires c).After-put_number-4, room (goal.at.write_dna-requires c).Start);
    }

pub returns : goal.returns
returns c =
    let a = c.args in
    record_written (chars 2 a.bases.now a.ao a.len) (chars 1 a.flags.now a.bo a.len) a.len a.count a.at a.out.now _ _ _ _ _ _
    (sym (length-chars 1 a.flags.now a.bo a.len)) c.requires.count_value.0 c.put_number.ensures c.put_number-2.ensures c.write_runs.ensures
    c.put_number-3.ensures c.put_number-4.ensures c.write_dna.ensures
