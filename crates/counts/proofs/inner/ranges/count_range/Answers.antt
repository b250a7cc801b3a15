-- The ends are parts of the track's flags, by their places. Assumes nothing.
use mathlib.Core.List.{List}
use mathlib.Core.Path.{◌≡◌, sym, ap, ◌∙◌}
use Prim.Native.Nat.{ℕ, ◌+◌, ◌-◌, ◌*◌, ◌/◌, ◌≤◌, min, max}
use native.Mathlib.Nat.{zero-add}
use native.Mathlib.Omega.{arith}
use lib.Seq.{slice}
use Rattle.codes.specs.Codes.{chars}
use Rattle.codes.proofs.CharLaws.{chars-slice}
use Rattle.fields.specs.Flags.{sum, set_flags}
use Rattle.fields.proofs.FlagLaws.{flags_few}
use Rattle.counts.specs.Blocks.{size, whole_from, whole_to, range_count}
use Rattle.counts.proofs.inner.ranges.count_range.Goals.{After-sum_run}
use Rattle.counts.proofs.inner.ranges.count_range.Goals as goal

-- what is known at the end
module _ (c : After-sum_run) where
  abbrev start : ℕ
  start = c.args.start

  abbrev end : ℕ
  end = c.args.end

  abbrev track : List ℕ
  track = c.args.track.now

  from_is : c.blocks_of-from.result ≡ whole_from start
  from_is = c.blocks_of-from.ensures

  to_is : c.larger-to.result ≡ whole_to start end
  to_is = c.larger-to.ensures ∙ ap (λ (x : ℕ). max x (end / size)) from_is

  -- a part of the flags, counted by its place
  counted : (x n at to : ℕ) → x ≡ set_flags (chars 1 track at n) → to ≤ c.args.len → n ≡ to - at → x ≡ set_flags (slice at to (chars 1 track 0 c.args.len))
  counted x n at to e l q =
      let m : n ≡ min to c.args.len - at = omega arith in
      e
      ∙ ap (λ (k : ℕ). set_flags (chars 1 track at k)) m
      ∙ sym (ap set_flags (chars-slice 1 track 0 c.args.len at to) ∙ ap (λ (o : ℕ). set_flags (chars 1 track o (min to c.args.len - at))) (zero-add at))

  head_is : c.set_flags-head.result ≡ set_flags (slice start (min end (whole_from start * size)) (chars 1 track 0 c.args.len))
  head_is = counted c.set_flags-head.result _ start (min end (whole_from start * size)) c.set_flags-head.ensures (omega arith) (omega (arith, c.smaller.ensures, from_is))

  tail_is : c.set_flags-tail.result ≡ set_flags (slice (whole_to start end * size) end (chars 1 track 0 c.args.len))
  tail_is =
      counted c.set_flags-tail.result _ (whole_to start end * size) end
      (c.set_flags-tail.ensures ∙ ap (λ (x : ℕ). set_flags (chars 1 track (x * size) (c.larger.result - c.larger-to.result * size))) to_is) (omega arith)
      (omega (arith, c.larger.ensures, to_is))

  whole_is : c.sum_run.result ≡ sum (slice (whole_from start) (whole_to start end) c.args.entries.now)
  whole_is = c.sum_run.ensures.0 ∙ (λ i. sum (slice (from_is i) (to_is i) c.args.entries.now))

  head_few : c.set_flags-head.result ≤ c.args.len
  head_few = omega (arith, c.set_flags-head.ensures, flags_few track start (c.smaller.result - start), c.smaller.ensures)

  tail_few : c.set_flags-tail.result ≤ c.args.len
  tail_few =
      omega
      (arith, c.set_flags-tail.ensures, flags_few track (c.larger-to.result * size) (c.larger.result - c.larger-to.result * size), c.larger.ensures)

pub overflow_add-result : goal.overflow_add-result
overflow_add-result c = omega (arith, c.sum_run.ensures.1, tail_few c)

pub overflow_add-result-2 : goal.overflow_add-result-2
overflow_add-result-2 c = omega (arith, c.sum_run.ensures.1, tail_few c, head_few c)

pub returns : goal.returns
unfolding range_count
returns c = λ i. head_is c i + (whole_is c i + tail_is c i)
