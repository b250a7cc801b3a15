use Prim.Native.Nat.{ℕ, ◌+◌, ◌*◌, ◌/◌, ◌%◌, ◌^◌, ◌≤◌, ◌<◌, min}
use native.Mathlib.Nat.{mul-div-le, mul-suc, mul_comm, le-mul_of_pos_right, le_of_lt, le-min, min-le_left, min-le_right, min-eq_left, min-eq_right}
use native.Mathlib.Numerals.{add-one}
use native.Mathlib.Omega.{arith}
use lib.Bits.{bit_xor}
use lib.Count.{count_trailing_zeros}
use lib.ListN.{length}
use mathlib.Core.List.{List, [], ◌∷◌}
use mathlib.Core.Path.{◌≡◌, sym, ap, ap₂, ◌∙◌, subst}
use Rattle.codes.proofs.TabLaws.{Below-of}
use Rattle.codes.proofs.WidthLaws.{width_pos}
use Rattle.codes.specs.Codes.{chars}
use Rattle.codes.specs.Words.{word}
use Rattle.order.specs.Order.{compare, common}
use Rattle.fields.proofs.LoadLaws.{turn_pos}
use Rattle.order.proofs.CommonLaws.{Two, SameBelow, turn_left, turn_right, passed_all, passed_turn, passed_found, passed_chars, differ_low, turn_begins, turn_bits, turns_pass}
use Rattle.order.proofs.OrderLaws.{by_cmp, pair_bits, order_behind, order_ends}
use Rattle.order.proofs.inner.compare.compare_views.Given.{Over}
use Rattle.order.proofs.inner.compare.compare_views.Goals.{After-over_width-k, After-over_width-turn, In-loop-t, Left-loop-t, Then-z-ne0, else-loop-t-test, then-loop-t-test+then-z-ne0+then-n-common}
use Rattle.order.proofs.inner.compare.compare_views.Goals as goal

two : (g : Over) (c : After-over_width-turn g)
    → let a = c.args in Two g.W.Width.BITS a.a.now a.ao a.al a.b.now a.bo a.bl c.smaller-n.result
two g c =
    let a = c.args in
    record { width = g.W.Width.divides; bytes = (Below-of 8 a.a.now (λ i. omega (arith, c.shared_slice_known-1.given i)), Below-of 8 a.b.now (λ i. omega (arith, c.shared_slice_known-2-1.given i))); bits = pair_bits g.W.Width.divides (length a.a.now) a.ao a.al (length a.b.now) a.bo a.bl c.requires; least = c.smaller-n.ensures }

-- a turn holds a character, and one that is taken begins within both views
some : (g : Over) (c : After-over_width-turn g) → 0 < c.over_width-turn.result
some g c = omega (arith, c.over_width-turn.ensures, turn_pos g.W.Width.divides)

within : (g : Over) (c : In-loop-t g) → c.over_width-turn.result * c.loop-t.t < c.smaller-n.result
within g c = turn_begins (some g (goal.at.In-loop-t g c).After-over_width-turn) c.loop-t-test.true

-- the bit from which turn t reads a view, and what it reads
module _ (g : Over) (c : After-over_width-turn g) (o t : ℕ) where
  place : 8 * (g.W.Width.BITS * o / 8 + 7 * t) + g.W.Width.BITS * o % 8 ≡ g.W.Width.BITS * (o + c.over_width-turn.result * t)
  place = omega (arith, turn_bits g.W.Width.divides c.over_width-turn.ensures o t)

  read : (s : List ℕ) (x : ℕ) → x % 2 ^ 56 ≡ word 8 s / 2 ^ (8 * (c.BITS-w.result * o / 8 + 7 * t) + c.BITS-w.result * o % 8) % 2 ^ 56
      → x % 2 ^ 56 ≡ word 8 s / 2 ^ (g.W.Width.BITS * (o + c.over_width-turn.result * t)) % 2 ^ 56
  read s x e = subst (λ (p : ℕ). x % 2 ^ 56 ≡ word 8 s / 2 ^ p % 2 ^ 56) place (rw c.BITS-w.ensures at e)

-- its byte is within the view's bytes
module _ (g : Over) (c : In-loop-t g) where
  left : (g.W.Width.BITS * c.args.ao / 8 + 7 * c.loop-t.t + 40 ≤ length c.args.a.now) × (length c.args.a.now ≤ 2 ^ 28)
  left =
      let d = (goal.at.In-loop-t g c).After-over_width-turn in
      let v = two g d in (omega (arith, place g d c.args.ao c.loop-t.t, (turn_left v (within g c)).0), v.bits.0.few)

  right : (g.W.Width.BITS * c.args.bo / 8 + 7 * c.loop-t.t + 40 ≤ length c.args.b.now) × (length c.args.b.now ≤ 2 ^ 28)
  right =
      let d = (goal.at.In-loop-t g c).After-over_width-turn in
      let v = two g d in (omega (arith, place g d c.args.bo c.loop-t.t, (turn_right v (within g c)).0), v.bits.1.few)

pub overflow_mul-p : goal.overflow_mul-p
overflow_mul-p g c =
    let v = (two g (goal.at.overflow_mul-p g c).After-over_width-turn).bits.0 in record { fits = rw c.BITS-w.ensures (omega (arith, v.room, v.few)) }

pub overflow_mul-q : goal.overflow_mul-q
overflow_mul-q g c =
    let v = (two g (goal.at.overflow_mul-q g c).After-over_width-turn).bits.1 in record { fits = rw c.BITS-w.ensures (omega (arith, v.room, v.few)) }

pub overflow_add-p : goal.overflow_add-p
overflow_add-p g c = record { fits = rw c.BITS-w.ensures (omega (arith, left g (goal.at.overflow_add-p g c).In-loop-t)) }

pub peek_at-x-requires : goal.peek_at-x-requires
peek_at-x-requires g c = rw c.BITS-w.ensures (omega (arith, left g c))

pub overflow_add-q : goal.overflow_add-q
overflow_add-q g c = record { fits = rw c.BITS-w.ensures (omega (arith, right g (goal.at.overflow_add-q g c).In-loop-t)) }

pub peek_at-y-requires : goal.peek_at-y-requires
peek_at-y-requires g c = rw c.BITS-w.ensures (omega (arith, right g (goal.at.peek_at-y-requires g c).In-loop-t))

-- the first bits that differ: the character they stand in is within the 56
module _ (g : Over) (c : Then-z-ne0 g) where
  abbrev width : ℕ
  width = g.W.Width.BITS

  abbrev z : ℕ
  z = bit_xor c.peek_at-x.result c.peek_at-y.result

  low : count_trailing_zeros 64 z < 56
  low = differ_low z c.if-z-ne0.true

  shift : width * (count_trailing_zeros 64 z / width) < 56
  shift = omega (arith, mul-div-le (count_trailing_zeros 64 z) width, low)

-- the place of that character among them
module _ (g : Over) (c : After-over_width-k g) where
  abbrev there : ℕ
  there = c.over_width-k.result

  moved : width g (goal.at.After-over_width-k g c).Then-z-ne0 * there < 56
  moved = subst (λ (k : ℕ). width g (goal.at.After-over_width-k g c).Then-z-ne0 * k < 56) (sym c.over_width-k.ensures) (shift g (goal.at.After-over_width-k g c).Then-z-ne0)

pub overflow_add-common : goal.overflow_add-common
overflow_add-common g c =
    let k = there g c in
    let v = two g (goal.at.overflow_add-common g c).After-over_width-turn in
    let small = le-mul_of_pos_right k (width_pos g.W.Width.divides) in
    record { fits = omega (arith, small, mul_comm k g.W.Width.BITS, moved g c, v.bits.0.short, v.least, min-le_left c.args.al c.args.bl, within g (goal.at.overflow_add-common g c).In-loop-t) }

pub overflow_shr-x : goal.overflow_shr-x
overflow_shr-x g c = rw c.BITS-w.ensures (omega (arith, moved g (goal.at.overflow_shr-x g c).After-over_width-k))

pub overflow_shr-y : goal.overflow_shr-y
overflow_shr-y g c = rw c.BITS-w.ensures (omega (arith, moved g (goal.at.overflow_shr-y g c).After-over_width-k))

pub returns-then-z-ne0 : goal.returns-then-z-ne0
returns-then-z-ne0 g c =
    let a = c.args in
    let i = c.over_width-turn.result * c.loop-t.t in
    let x = c.peek_at-x in
    let y = c.peek_at-y in
    let r = c.over_width-k.ensures in
    let d = (goal.at.returns-then-z-ne0 g c).After-over_width-turn in
    let ex = read g d a.ao c.loop-t.t _ _ x.ensures in
    let ey = read g d a.bo c.loop-t.t _ _ y.ensures in
    let e =
    sym (min-eq_left (le_of_lt c.if-n-common.false))
    ∙ ap (λ (j : ℕ). min (i + j) c.smaller-n.result) r
    ∙ passed_found (two g d) c.loop-t.invariant x.result y.result ex ey c.if-z-ne0.true in
    let both = passed_chars (two g d) c.loop-t.invariant x.result y.result ex ey c.if-z-ne0.true in
    let at-k : (v : ℕ) → v / 2 ^ (g.W.Width.BITS * there g (goal.at.returns-then-z-ne0 g c).After-over_width-k) % 2 ^ g.W.Width.BITS ≡ v / 2
    ^ (g.W.Width.BITS * (count_trailing_zeros 64 (z g (goal.at.returns-then-z-ne0 g c).Then-z-ne0) / g.W.Width.BITS)) % 2 ^ g.W.Width.BITS = λ v. ap (λ (j : ℕ). v / 2 ^ (g.W.Width.BITS * j) % 2 ^ g.W.Width.BITS) r in
    let decided = ap₂ (λ (m n : ℕ). compare (m ∷ []) (n ∷ [])) ((rw c.BITS-w.ensures at c.low_bits.ensures) ∙ at-k x.result ∙ both.0) ((rw c.BITS-w.ensures at c.low_bits-then-z-ne0.ensures) ∙ at-k y.result ∙ both.1) in
    let few = (two g d).least in
    let behind =
    order_behind g.W.Width.BITS a.a.now a.ao a.al a.b.now a.bo a.bl _ (sym (ap (λ (j : ℕ). i + j) r) ∙ e) (omega (arith, few, min-le_left a.al a.bl, r))
    (omega (arith, few, min-le_right a.al a.bl, r)) in record { order = by_cmp _ _ _ c.cmp.ensures ∙ decided ∙ sym behind; common = c.new.ensures ∙ e }

pub loop-t-preserved : goal.loop-t-preserved
loop-t-preserved g c =
    let a = c.args in
    let i = c.over_width-turn.result * c.loop-t.t in
    let next : i + 56 / g.W.Width.BITS ≡ c.over_width-turn.result * (c.loop-t.t + 1) =
    ap (λ (n : ℕ). i + n) (sym c.over_width-turn.ensures) ∙ sym (mul-suc c.over_width-turn.result c.loop-t.t)
    ∙ ap (λ (n : ℕ). c.over_width-turn.result * n) (sym (add-one c.loop-t.t)) in
    let d = (goal.at.loop-t-preserved g c).After-over_width-turn in
    subst (λ (n : ℕ). SameBelow g.W.Width.BITS a.a.now a.ao a.b.now a.bo n) next
    (passed_turn (two g d) c.loop-t.invariant c.peek_at-x.result c.peek_at-y.result (read g d a.ao c.loop-t.t _ _ c.peek_at-x.ensures)
    (read g d a.bo c.loop-t.t _ _ c.peek_at-y.ensures) c.if-z-ne0.false)

-- behind the loop: all that both have is common, whether it was passed or what differs lies beyond
ended : (g : Over) (c : Left-loop-t g)
    → let v = c in
    let a = v.args in
    v.smaller-n.result ≡ common (chars g.W.Width.BITS a.a.now a.ao a.al) (chars g.W.Width.BITS a.b.now a.bo a.bl)
ended g c =
    let d = (goal.at.Left-loop-t g c).After-over_width-turn in
    let v = two g d in
    let i = c.loop-t.invariant in
    elim c.loop-t-test.branch [
      | else-loop-t-test w ↦ passed_all v i (turns_pass (some g d) w.loop-t-test.false)
      | then-loop-t-test+then-z-ne0+then-n-common w ↦
          sym (min-eq_right w.if-n-common.true)
          ∙ ap (λ (j : ℕ). min (c.over_width-turn.result * c.loop-t.t + j) c.smaller-n.result) w.over_width-k.ensures
          ∙ passed_found v i w.peek_at-x.result w.peek_at-y.result (read g d c.args.ao c.loop-t.t _ _ w.peek_at-x.ensures)
          (read g d c.args.bo c.loop-t.t _ _ w.peek_at-y.ensures) w.if-z-ne0.true
    ]

pub returns : goal.returns
returns g c =
    let a = c.args in
    let ends = order_ends g.W.Width.BITS a.a.now a.ao a.al a.b.now a.bo a.bl _ (ended g (goal.at.returns g c).Left-loop-t)
    (λ h l. omega (arith, (two g (goal.at.returns g c).After-over_width-turn).least, le-min h l)) in record { order = by_cmp _ _ _ c.cmp-2.ensures ∙ sym ends; common = c.new-2.ensures ∙ ended g (goal.at.returns g c).Left-loop-t }
