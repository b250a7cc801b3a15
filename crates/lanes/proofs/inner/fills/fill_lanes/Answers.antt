use mathlib.Core.List.{List}
use mathlib.Core.Path.{◌≡◌, ap, ◌∙◌}
use Prim.Native.Nat.{ℕ, ◌+◌, ◌-◌, ◌*◌, ◌/◌, ◌≤◌, ◌<◌, min}
use native.Mathlib.Nat.{min-le_left, min-le_right, le-min}
use native.Mathlib.Omega.{arith}
use Rattle.codes.specs.Codes.{chars}
use Rattle.codes.specs.Made.{Made}
use Rattle.codes.proofs.MadeLaws.{made-on, made-to, made-is}
use Rattle.codes.proofs.WidthLaws.{below_or}
use Rattle.lanes.specs.Lanes.{filled, lane_entry}
use Rattle.lanes.proofs.TurnLaws.{filled-early, filled_more}
use Rattle.lanes.proofs.inner.fills.fill_lanes.Given.{Over}
use Rattle.lanes.proofs.inner.fills.fill_lanes.Goals.{After-zero_entries, After-smaller-count, After-write_turn}
use Rattle.lanes.proofs.inner.fills.fill_lanes.Goals as goal

-- where the delay is over, or the steps are
module _ (g : Over) (c : After-zero_entries g) where
  turn_is : c.over_width-turn.result ≡ 64 / g.W.Width.BITS
  turn_is = c.over_width-turn.ensures

  abbrev start : ℕ
  start = c.smaller-start.result

  start_is : start ≡ min c.args.d c.args.steps
  start_is = c.smaller-start.ensures

  start_left : start ≤ c.args.d
  start_left = omega (arith, start_is, min-le_left c.args.d c.args.steps)

  start_right : start ≤ c.args.steps
  start_right = omega (arith, start_is, min-le_right c.args.d c.args.steps)

  late : (j : ℕ) → start ≤ j → j < c.args.steps → c.args.d ≤ j
  late j h l = below_or j c.args.d (λ g. absurd (omega (arith, start_is, le-min g l))) (λ g. g)

  abbrev cs : List ℕ
  cs = chars g.W.Width.BITS c.args.bytes.now c.args.offset c.args.len

-- how many steps the turn has
module _ (g : Over) (c : After-smaller-count g) where
  abbrev turn : ℕ
  turn = 64 / g.W.Width.BITS

  abbrev left : ℕ
  left = c.args.steps - c.loop-j.j

  count_is : c.smaller-count.result ≡ min turn left
  count_is = c.smaller-count.ensures ∙ ap (λ (k : ℕ). min k left) (turn_is g (goal.at.After-smaller-count g c).After-zero_entries)

  count_left : c.smaller-count.result ≤ turn
  count_left = omega (arith, count_is, min-le_left turn left)

  count_right : c.smaller-count.result ≤ left
  count_right = omega (arith, count_is, min-le_right turn left)

-- the steps of one turn more
module _ (g : Over) (c : After-write_turn g) where
  abbrev next : ℕ
  next = c.loop-j.j + c.smaller-count.result

  turned_on : Made (lane_entry (cs g (goal.at.After-write_turn g c).After-zero_entries) c.args.n c.args.d) (8 * c.smaller-start.result) (8 * next) c.zero_entries.new.out c.write_turn.new.out
  turned_on =
      let o = c.loop-j in
      let a = c.args in
      let words = c.lane_words-words in
      filled_more g.W.Width.BITS (cs g (goal.at.After-write_turn g c).After-zero_entries) a.n a.d o.j c.smaller-count.result words.result
      (late g (goal.at.After-write_turn g c).After-zero_entries o.j o.invariant.0 (omega arith))
      (count_left g (goal.at.After-write_turn g c).After-smaller-count) words.ensures o.invariant.2 c.write_turn.ensures o.invariant.0

pub loop-j-preserved : goal.loop-j-preserved
loop-j-preserved g c =
    let e : c.smaller-count.result ≡ c.over_width-turn.result = omega (arith, c.smaller-count.ensures) in
    (omega arith, omega arith, made-to (turned_on g (goal.at.loop-j-preserved g c).After-write_turn) (omega (arith, e)))

-- zeros before the delay, the steps up to `to` behind it
module _ (g : Over) (c : After-zero_entries g) where
  whole : (to : ℕ) (out : List ℕ) → to ≡ c.args.steps
      → Made (lane_entry (cs g c) c.args.n c.args.d) (8 * start g c) (8 * to) c.zero_entries.new.out out
      → out ≡ filled (cs g c) c.args.n c.args.d c.args.steps c.args.out.now
  unfolding filled
  whole to out e z =
      let a = c.args in
      let front = filled-early (cs g c) a.n a.d (start g c) (start_left g c) c.zero_entries.ensures in
      made-is (made-on front (made-to {to = 8 * a.steps} z (omega (arith, e))) (omega arith) (omega (arith, start_right g c))) c.requires.n_bound.2

pub returns : goal.returns
returns g c = whole g (goal.at.returns g c).After-zero_entries c.loop-j.j c.loop-j.out (omega arith) c.loop-j.invariant.2

-- the last turn
pub returns-2 : goal.returns-2
returns-2 g c =
    let e : c.loop-j.j + c.smaller-count.result ≡ c.args.steps = omega (arith, c.smaller-count.ensures) in
    whole g (goal.at.returns-2 g c).After-zero_entries (next g (goal.at.returns-2 g c).After-write_turn) c.write_turn.new.out e (turned_on g (goal.at.returns-2 g c).After-write_turn)
