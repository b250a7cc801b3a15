-- A field of the byte string holds the characters; past the end there are none. Assumes nothing.
use mathlib.Core.Path.{refl, sym, subst}
use Prim.Native.Nat.{ℕ, ◌+◌, ◌-◌, ◌*◌, ◌/◌, ◌^◌, ◌≤◌, ◌<◌}
use native.Mathlib.Nat.{le_of_lt, le_trans, le_refl, mul-le-mul_left, mul-div-le}
use native.Mathlib.Omega.{arith}
use lib.ListN.{length}
use Rattle.codes.specs.Codes.{chars}
use Rattle.codes.proofs.TabLaws.{Below-of}
use Rattle.fields.proofs.LoadLaws.{Bits, view_bits, view_word}
use Rattle.lanes.specs.Turns.{Holds}
use Rattle.lanes.proofs.TurnLaws.{holds_none, holds_last, holds_turn}
use Rattle.lanes.proofs.inner.turns.lane_word.Given.{Over}
use Rattle.lanes.proofs.inner.turns.lane_word.Goals.{Start, Then-left-turn}
use Rattle.lanes.proofs.inner.turns.lane_word.Goals as goal

module _ (g : Over) (s : Start g) where
  bits : Bits g.W.Width.BITS (length s.args.bytes.now) s.args.offset s.args.len
  bits = view_bits g.W.Width.divides (length s.args.bytes.now) s.args.offset s.args.len s.requires.len_value

  -- where the first bit stands
  abbrev at : ℕ
  at = g.W.Width.BITS * (s.args.offset + s.args.i)

  place : s.args.i < s.args.len → (at / 8 + 40 ≤ length s.args.bytes.now) × (at < 2 ^ 31)
  place h = view_word g.W.Width.BITS (length s.args.bytes.now) s.args.offset s.args.len s.args.i at bits (le_of_lt h) refl

pub returns-then-len-i : goal.returns-then-len-i
returns-then-len-i g c =
    holds_none g.W.Width.divides c.args.bytes.now (Below-of 8 c.args.bytes.now (λ i. omega (arith, c.type_inv.bytes i))) c.args.offset c.args.len c.args.i c.if-len-i.true

fits : (g : Over) (c : Then-left-turn g) → g.W.Width.BITS * (c.args.len - c.args.i) ≤ 64
fits g c =
    let a = c.args in
    le_trans (mul-le-mul_left g.W.Width.BITS (subst (λ (x : ℕ). a.len - a.i ≤ x) c.requires.turn_value (le_of_lt c.if-left-turn.true))) (mul-div-le 64 g.W.Width.BITS)

pub overflow_add-offset : goal.overflow_add-offset
overflow_add-offset g c = omega (arith, (bits g (goal.at.overflow_add-offset g c).Start).short)

pub overflow_mul-w : goal.overflow_mul-w
overflow_mul-w g c = rw c.BITS-w.ensures (omega (arith, (place g (goal.at.overflow_mul-w g c).Start c.if-len-i.false).1))

pub overflow_mul-w-then-left-turn : goal.overflow_mul-w-then-left-turn
overflow_mul-w-then-left-turn g c = rw c.BITS-w.ensures (omega (arith, fits g c))

pub bits_at-requires : goal.bits_at-requires
bits_at-requires g c = rw c.BITS-w.ensures ((fits g c, omega (arith, (place g (goal.at.bits_at-requires g c).Start c.if-len-i.false).0)))

pub returns-then-left-turn : goal.returns-then-left-turn
returns-then-left-turn g c =
    let a = c.args in
    let h = holds_last g.W.Width.divides a.bytes.now (Below-of 8 c.args.bytes.now (λ i. omega (arith, c.type_inv.bytes i))) a.offset a.len a.i (a.len - a.i) (omega arith) in
    subst (Holds g.W.Width.BITS (chars g.W.Width.BITS a.bytes.now a.offset a.len) a.i) (sym (rw c.BITS-w.ensures at c.bits_at.ensures)) h

pub overflow_add-offset-2 : goal.overflow_add-offset-2
overflow_add-offset-2 g c = omega (arith, (bits g (goal.at.overflow_add-offset-2 g c).Start).short)

pub overflow_mul-w-2 : goal.overflow_mul-w-2
overflow_mul-w-2 g c = rw c.BITS-w.ensures (omega (arith, (place g (goal.at.overflow_mul-w-2 g c).Start c.if-len-i.false).1))

pub bits_at-requires-2 : goal.bits_at-requires-2
bits_at-requires-2 g c = rw c.BITS-w.ensures ((le_refl 64, omega (arith, (place g (goal.at.bits_at-requires-2 g c).Start c.if-len-i.false).0)))

pub returns : goal.returns
returns g c =
    let a = c.args in
    let h = holds_turn g.W.Width.divides a.bytes.now (Below-of 8 c.args.bytes.now (λ i. omega (arith, c.type_inv.bytes i))) a.offset a.len a.i (omega (arith, c.requires.turn_value)) in
    subst (Holds g.W.Width.BITS (chars g.W.Width.BITS a.bytes.now a.offset a.len) a.i) (sym (rw c.BITS-w.ensures at c.bits_at-2.ensures)) h
